-- `put_options` meets its contract: the loop's invariant is `Putting`: what is still to be put, put here, leaves what the whole leaves.
use native.Mathlib.Omega.{arith}
use mathlib.Core.List.{[]}
use lib.ListN.{drop}
use Rattle.writing.proofs.GroupLaws.{putting_start}
use Rattle.canonicals.proofs.ClassLaws.{choices-rights, putting_place, putting_round, putting_next, putting_end}
use Rattle.canonicals.proofs.straight.put_options.Goals as goal

pub loop-init : goal.loop-init
loop-init c =
    let a = c.args in
    putting_start (omega arith) (choices-rights [] a.n (drop a.from a.row.now) c.requires.1)

pub offset_bounds-row-at : goal.offset_bounds-row-at
offset_bounds-row-at c = omega (arith, putting_place c.loop.invariant, c.requires.0)

pub bounds-row-at : goal.bounds-row-at
bounds-row-at c = omega (arith, putting_place c.loop.invariant, c.requires.0, c.loop-test.true)

pub overflow_add-at : goal.overflow_add-at
overflow_add-at c = omega (arith, putting_place c.loop.invariant, c.requires.0)

pub offset_bounds-row-at-in-loop : goal.offset_bounds-row-at-in-loop
offset_bounds-row-at-in-loop c = omega (arith, putting_place c.loop.invariant, c.requires.0)

pub bounds-row-at-in-loop : goal.bounds-row-at-in-loop
bounds-row-at-in-loop c = omega (arith, putting_place c.loop.invariant, c.requires.0, c.loop-test.true)

pub put_option-to-requires : goal.put_option-to-requires
put_option-to-requires c = putting_round c.loop.invariant (omega (arith, c.loop-test.true)) c.requires.2

pub overflow_add-at-in-loop : goal.overflow_add-at-in-loop
overflow_add-at-in-loop c = omega (arith, putting_place c.loop.invariant, c.requires.0)

pub loop-preserved : goal.loop-preserved
loop-preserved c = putting_next c.loop.invariant (omega (arith, c.loop-test.true)) c.put_option-to.ensures

pub shape_of-out : goal.shape_of-out
shape_of-out c = c.loop.invariant.same

pub returns : goal.returns
returns c = putting_end c.loop.invariant (omega (arith, c.loop-test.false))
