-- `put_zero_index` meets its contract: two bytes and a number (`pair_wrote`).
use mathlib.Core.Path.{refl}
use native.Mathlib.Omega.{arith}
use lib.ListN.{length-set}
use Rattle.fields.specs.Words.{word}
use Rattle.writing.proofs.WroteLaws.{same_size}
use Rattle.canonicals.proofs.ClassLaws.{pair_wrote}
use Rattle.canonicals.proofs.straight.put_zero_index.Goals as goal

pub bounds-out-to-2 : goal.bounds-out-to-2
bounds-out-to-2 c =
    let a = c.args in
    omega (arith, c.requires.1, length-set a.out.now a.to a.lead)

pub returns : goal.returns
returns c =
    let a = c.args in
    (pair_wrote a.lead a.out.now a.to 0x00 (word a.row.now 1) refl c.requires.1 c.put_unsigned.ensures).content

pub shape_of-out : goal.shape_of-out
shape_of-out c =
    let a = c.args in
    same_size (pair_wrote a.lead a.out.now a.to 0x00 (word a.row.now 1) refl c.requires.1 c.put_unsigned.ensures)
