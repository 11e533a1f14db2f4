-- `fill_values` meets its contract: the loop's invariant is `Filling`: what is due of the groups, stored here, leaves what the whole
-- leaves; a round stores the words of a V, which is a short index or read as any V.
use Rattle.std.specs.Prelude.{IsSome}
use Prim.Native.Nat.{◌+◌, ◌≤◌}
use native.Mathlib.Omega.{arith}
use mathlib.Core.Path.{sym, ◌∙◌, subst}
use lib.ListN.{length, length-set}
use Rattle.fields.specs.Words.{wide}
use Rattle.fields.specs.Shape.{widths}
use Rattle.reading.proofs.FillLaws.{filling_first, filling_end}
use Rattle.items.proofs.WordLaws.{filling_from, filling_on, room_of, values-wide, pair_seen, value-paired, short-paired, value_next, filling_now}
use Rattle.items.proofs.groups.fill_values.Goals as goal
use Rattle.items.proofs.groups.fill_values.Goals.{In-loop, in-Some, in_default}

-- in a round, the next group has room
room : (c : In-loop) → c.loop.to + 2 ≤ length c.loop.row
room c = room_of c.loop.invariant (omega arith) 2 values-wide

pub loop-init : goal.loop-init
unfolding widths wide
loop-init c =
    filling_from c.requires.input_len_bound.1 c.requires.input_len_bound.2 c.requires.right

pub bounds-row-to : goal.bounds-row-to
bounds-row-to c = omega (arith, room (goal.at.bounds-row-to c).In-loop)

pub bounds-row-to-in-Some : goal.bounds-row-to-in-Some
bounds-row-to-in-Some c = let there = room (goal.at.bounds-row-to-in-Some c).In-loop in simp length-set (omega arith)

pub overflow_add-at : goal.overflow_add-at
overflow_add-at c =
    let one = short-paired {g = c.args.grade} c.loop.invariant.inside (sym c.in-Some.is ∙ c.short_signed.ensures) in
    omega (arith, one.ends, c.requires.input_len_bound.0)

pub unwrap-one-requires : goal.unwrap-one-requires
unwrap-one-requires c =
    subst IsSome (sym c.value.ensures) (pair_seen (filling_first c.loop.invariant (omega arith)))

pub bounds-row-to-in_default : goal.bounds-row-to-in_default
bounds-row-to-in_default c = omega (arith, room (goal.at.bounds-row-to-in_default c).In-loop)

pub bounds-row-to-in_default-2 : goal.bounds-row-to-in_default-2
bounds-row-to-in_default-2 c = let there = room (goal.at.bounds-row-to-in_default-2 c).In-loop in simp length-set (omega arith)

pub overflow_add-at-in_default : goal.overflow_add-at-in_default
overflow_add-at-in_default c =
    let one = value-paired {g = c.args.grade} c.loop.invariant.inside (sym c.unwrap-one.ensures ∙ c.value.ensures) in
    omega (arith, one.ends, c.requires.input_len_bound.0)

pub loop-preserved : goal.loop-preserved
loop-preserved c =
    elim c.match-short_signed.branch [
      | in-Some w ↦ filling_now (filling_on _ (value_next c.loop.invariant (omega arith) (short-paired c.loop.invariant.inside (sym w.in-Some.is ∙ c.short_signed.ensures)))) w.row-is w.at-is
      | in_default w ↦ filling_now (filling_on _ (value_next c.loop.invariant (omega arith) (value-paired c.loop.invariant.inside (sym w.unwrap-one.ensures ∙ w.value.ensures)))) w.row-is w.at-is
    ]

pub returns : goal.returns
returns c = filling_end c.loop.invariant (omega arith)
