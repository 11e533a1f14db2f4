-- `fill_options` meets its contract: what is due of the options, stored here, leaves what the whole leaves (`Filling`).
use Prim.Native.Nat.{◌+◌, ◌≤◌}
use native.Mathlib.Omega.{arith}
use lib.ListN.{length, length-set}
use Rattle.fields.specs.Words.{wide}
use Rattle.fields.specs.Shape.{widths}
use Rattle.reading.proofs.FillLaws.{filling_start, filling_first, filling_end, filling_due}
use Rattle.canonical_items.proofs.OptionLaws.{room_of, choices-wide, choice_there, choice_read, choice-next}
use Rattle.canonical_items.proofs.options.fill_options.Goals as goal
use Rattle.canonical_items.proofs.options.fill_options.Goals.{In-loop}

-- in a round, the next option has room
room : (c : In-loop) → c.loop.to + 2 ≤ length c.loop.row
room c = room_of c.loop.invariant (omega (arith, c.loop-test.true)) 2 choices-wide

pub loop-init : goal.loop-init
unfolding widths wide
loop-init c = filling_due (filling_start c.requires.input_len_bound.1 c.requires.input_len_bound.2 c.requires.right) (omega arith)

pub unwrap-one-requires : goal.unwrap-one-requires
unwrap-one-requires c = choice_there (filling_first c.loop.invariant (omega (arith, c.loop-test.true))) c.option.ensures

pub bounds-row-to : goal.bounds-row-to
bounds-row-to c = omega (arith, room (goal.at.bounds-row-to c).In-loop)

pub bounds-row-to-in-loop : goal.bounds-row-to-in-loop
bounds-row-to-in-loop c = let there = room (goal.at.bounds-row-to-in-loop c).In-loop in simp length-set (omega arith)

pub overflow_add-at : goal.overflow_add-at
overflow_add-at c =
    let one = choice_read (filling_first c.loop.invariant (omega (arith, c.loop-test.true))) c.option.ensures c.unwrap-one.ensures in
    omega (arith, one.ends, c.requires.input_len_bound.0)

pub loop-preserved : goal.loop-preserved
loop-preserved c =
    filling_due (choice-next c.loop.invariant (omega (arith, c.loop-test.true))
    (choice_read (filling_first c.loop.invariant (omega (arith, c.loop-test.true))) c.option.ensures c.unwrap-one.ensures)) (omega arith)

pub returns : goal.returns
returns c = filling_end c.loop.invariant (omega (arith, c.loop-test.false))
