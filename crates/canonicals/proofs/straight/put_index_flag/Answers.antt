-- `put_index_flag` meets its contract: a byte, a number and a byte (`index_flag_wrote`).
use native.Mathlib.Omega.{arith}
use Rattle.fields.specs.Words.{word}
use Rattle.writing.proofs.WroteLaws.{same_size}
use Rattle.canonicals.proofs.ClassLaws.{index_wrote, index_flag_wrote}
use Rattle.canonicals.proofs.straight.put_index_flag.Goals as goal

pub bounds-out-next : goal.bounds-out-next
bounds-out-next c =
    let a = c.args in
    omega (
      arith,
      c.requires.1,
      c.unsigned_size.ensures,
      same_size
          (index_wrote a.lead a.out.now a.to (word a.row.now 1) (omega (arith, c.requires.1))
          c.put_unsigned.ensures),
    )

pub returns : goal.returns
returns c =
    let a = c.args in
    (index_flag_wrote a.lead a.out.now a.to (word a.row.now 1) (omega (arith, c.requires.1))
    c.put_unsigned.ensures c.unsigned_size.ensures (word a.row.now 2)
    c.flag_byte.ensures).content

pub shape_of-out : goal.shape_of-out
shape_of-out c =
    let a = c.args in
    same_size (index_flag_wrote a.lead a.out.now a.to (word a.row.now 1) (omega (arith, c.requires.1))
    c.put_unsigned.ensures c.unsigned_size.ensures (word a.row.now 2)
    c.flag_byte.ensures)
