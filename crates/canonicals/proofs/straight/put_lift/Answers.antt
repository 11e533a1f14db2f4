-- `put_lift` meets its contract: function, options and type one after the other (`lift_wrote`).
use native.Mathlib.Omega.{arith}
use lib.ListN.{length-set}
use Rattle.writing.proofs.WroteLaws.{same_size}
use Rattle.canonicals.proofs.LiftedLaws.{function_wrote, lift_wrote}
use Rattle.canonicals.proofs.straight.put_lift.Goals as goal

pub bounds-out-to-2 : goal.bounds-out-to-2
bounds-out-to-2 c =
    let a = c.args in
    omega (arith, c.requires.2, length-set a.out.now a.to 0x00)

pub put_counted-last-requires : goal.put_counted-last-requires
put_counted-last-requires c =
    let a = c.args in (
      c.requires.0,
      c.requires.1,
      omega (
        arith,
        c.requires.2,
        c.unsigned_size.ensures,
        same_size
            (function_wrote a.row.now a.out.now a.to c.requires.2 c.put_unsigned.ensures
            c.unsigned_size.ensures),
      ),
    )

pub returns : goal.returns
returns c =
    let a = c.args in
    (lift_wrote a.row.now a.out.now a.to c.requires.2
    c.put_unsigned.ensures
    c.unsigned_size.ensures
    c.put_counted-last.ensures (omega (arith, c.requires.0))
    c.put_unsigned-2.ensures).content

pub shape_of-out : goal.shape_of-out
shape_of-out c =
    let a = c.args in
    same_size (lift_wrote a.row.now a.out.now a.to c.requires.2
    c.put_unsigned.ensures
    c.unsigned_size.ensures
    c.put_counted-last.ensures (omega (arith, c.requires.0))
    c.put_unsigned-2.ensures)
