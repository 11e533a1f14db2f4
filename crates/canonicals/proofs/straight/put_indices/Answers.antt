-- `put_indices` meets its contract: a byte and two numbers (`indices_wrote`).
use native.Mathlib.Omega.{arith}
use Rattle.fields.specs.Words.{word}
use Rattle.writing.proofs.WroteLaws.{same_size}
use Rattle.canonicals.proofs.ClassLaws.{indices_wrote}
use Rattle.canonicals.proofs.straight.put_indices.Goals as goal

pub returns : goal.returns
returns c =
    let a = c.args in
    (indices_wrote a.lead a.out.now a.to (word a.row.now 1) (omega (arith, c.requires.1))
    c.put_unsigned.ensures
    c.unsigned_size.ensures (word a.row.now 2) c.requires.1
    c.put_unsigned-2.ensures).content

pub shape_of-out : goal.shape_of-out
shape_of-out c =
    let a = c.args in
    same_size (indices_wrote a.lead a.out.now a.to (word a.row.now 1) (omega (arith, c.requires.1))
    c.put_unsigned.ensures
    c.unsigned_size.ensures (word a.row.now 2) c.requires.1
    c.put_unsigned-2.ensures)
