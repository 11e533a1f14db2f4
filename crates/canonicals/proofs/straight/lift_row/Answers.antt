-- `lift_row` meets its contract: what was seen and has room is put (`lift_room`), and that is the lift written (`lift_tried`).
use Rattle.canonicals.proofs.LiftedLaws.{lift_room, lift_tried, lift_none}
use Rattle.canonicals.proofs.straight.lift_row.Goals as goal

pub returns-in_err-size : goal.returns-in_err-size
returns-in_err-size c = rw c.from_residual.ensures lift_none

pub put_lift-requires : goal.put_lift-requires
put_lift-requires c =
    let a = c.args in
    lift_room a.out.now a.at c.in_ok-size.ensures c.fits.ensures c.if-fits.true

pub returns-then-fits : goal.returns-then-fits
returns-then-fits c =
    let a = c.args in
    lift_tried a.out.now a.at c.in_ok-size.ensures
    c.fits.ensures c.if-fits.true
    c.put_lift.ensures

pub returns : goal.returns
returns c = lift_none
