-- `options_size` meets its contract: the loop's invariant is `Going`: what is still to be seen makes the whole.
use native.Mathlib.Omega.{arith}
use Rattle.canonicals.proofs.ClassLaws.{going_place, going_next, going_end}
use Rattle.canonicals.proofs.straight.options_size.Goals as goal

pub offset_bounds-row-at : goal.offset_bounds-row-at
offset_bounds-row-at c = omega (arith, going_place c.loop.invariant, c.requires.0, c.requires.1)

pub bounds-row-at : goal.bounds-row-at
bounds-row-at c = omega (arith, going_place c.loop.invariant, c.requires.0, c.loop-test.true)

pub overflow_add-at : goal.overflow_add-at
overflow_add-at c = omega (arith, going_place c.loop.invariant, c.requires.0, c.requires.1)

pub offset_bounds-row-at-in-loop : goal.offset_bounds-row-at-in-loop
offset_bounds-row-at-in-loop c = omega (arith, going_place c.loop.invariant, c.requires.0, c.requires.1)

pub bounds-row-at-in-loop : goal.bounds-row-at-in-loop
bounds-row-at-in-loop c = omega (arith, going_place c.loop.invariant, c.requires.0, c.loop-test.true)

pub overflow_add-made : goal.overflow_add-made
overflow_add-made c =
    omega (arith, going_place c.loop.invariant, c.loop.invariant.small, c.requires.0, c.requires.1, c.requires.2, c.in_ok-made.ensures.upper_bound)

pub overflow_add-at-in-loop : goal.overflow_add-at-in-loop
overflow_add-at-in-loop c = omega (arith, going_place c.loop.invariant, c.requires.0, c.requires.1)

pub loop-preserved : goal.loop-preserved
loop-preserved c =
    going_next c.loop.invariant (omega (arith, c.loop-test.true)) c.in_ok-made.ensures.x_value c.in_ok-made.ensures.upper_bound

pub returns : goal.returns
returns c = going_end c.loop.invariant (omega (arith, c.loop-test.false))
