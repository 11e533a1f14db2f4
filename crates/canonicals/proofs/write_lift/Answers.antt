-- `write_lift` meets its contract: a lift that has a size is right (`held_room`), and put it is the lift written.
use Rattle.fields.specs.declared.Shape.{Shape}
use Rattle.std.specs.Prelude.{Option}
use Rattle.std.specs.Prelude.{Some}
use mathlib.Core.Path.{◌≡◌, sym, ap, ◌∙◌}
use Prim.Native.Nat.{ℕ}
use mathlib.Core.List.{List}
use Rattle.fields.specs.Answer.{Answer}
use Rattle.fields.specs.Answers.{left}
use Rattle.fields.proofs.OutcomeLaws.{passed-on}
use Rattle.writing.specs.Row.{measured_row}
use Rattle.writing.specs.Write.{stored}
use Rattle.canonicals.proofs.LiftedLaws.{held_room, held_written, held_roomless}
use Rattle.canonicals.proofs.write_lift.Goals as goal

-- what the row was measured as
measured : (row pool : List ℕ) {s t : Option Shape} {answer : Answer} → answer ≡ measured_row s row pool → s ≡ t → measured_row t row pool ≡ answer
measured row pool e f = sym (e ∙ ap (λ s. measured_row s row pool) f)

pub put_lift-requires : goal.put_lift-requires
put_lift-requires c =
    let a = c.args in
    held_room a.row.now a.pool.now a.out.now a.at
    (measured c.args.row.now c.args.pool.now c.measure_row.ensures (ap Some c.lift_shape.ensures) ∙ c.in_ok-lifted.was)
    c.fits.ensures c.if-fits.true

pub returns-then-fits : goal.returns-then-fits
returns-then-fits c =
    let a = c.args in
    held_written a.row.now a.pool.now a.out.now a.at
    (measured c.args.row.now c.args.pool.now c.measure_row.ensures (ap Some c.lift_shape.ensures)
    ∙ c.in_ok-lifted.was) c.fits.ensures
    c.if-fits.true c.put_lift.ensures

pub returns : goal.returns
returns c =
    let a = c.args in
    held_roomless a.row.now a.pool.now a.out.now a.at
    (measured c.args.row.now c.args.pool.now c.measure_row.ensures (ap Some c.lift_shape.ensures) ∙ c.in_ok-lifted.was) c.fits.ensures c.if-fits.false

-- the walk refused it
pub returns-in_err-lifted : goal.returns-in_err-lifted
unfolding stored
returns-in_err-lifted c =
    let a = c.args in
    ap (λ r. left r a.out.now) (passed-on _ c.from_residual.ensures)
    ∙ rw (measured a.row.now a.pool.now c.measure_row.ensures (ap Some c.lift_shape.ensures) ∙ c.in_err-lifted.was)
