-- `fill_fields` meets its contract: the loop's invariant is `Filling`: what is due of the groups, stored here, leaves what the whole
-- leaves; a round stores the words of a label and a V.
use Rattle.std.specs.Prelude.{IsSome}
use Prim.Native.Nat.{◌+◌, ◌≤◌}
use native.Mathlib.Omega.{arith}
use mathlib.Core.Path.{sym, ◌∙◌, subst}
use lib.ListN.{length, length-set}
use Rattle.fields.specs.Words.{wide}
use Rattle.fields.specs.Shape.{widths}
use Rattle.reading.proofs.FillLaws.{filling_first, filling_end}
use Rattle.items.proofs.WordLaws.{filling_from, filling_on, room_of, fields_wide, length_seen, named, second-stands, pair_seen, value-paired, field_next}
use Rattle.items.proofs.groups.fill_fields.Goals as goal
use Rattle.items.proofs.groups.fill_fields.Goals.{In-loop}

-- in a round, the next group has room
room : (c : In-loop) → c.loop.to + 4 ≤ length c.loop.row
room c = room_of c.loop.invariant (omega arith) 4 fields_wide

pub loop-init : goal.loop-init
unfolding widths wide
loop-init c =
    filling_from c.requires.input_len_bound.1 c.requires.input_len_bound.2 c.requires.right

pub unwrap-one-requires : goal.unwrap-one-requires
unwrap-one-requires c =
    subst IsSome (sym c.seen_unsigned.ensures) (length_seen (filling_first c.loop.invariant (omega arith)))

pub overflow_add-start : goal.overflow_add-start
overflow_add-start c =
    let name = named (filling_first c.loop.invariant (omega arith)) (sym c.unwrap-one.ensures ∙ c.seen_unsigned.ensures) in
    omega (arith, name.ends, c.requires.input_len_bound.0)

pub overflow_cast-row : goal.overflow_cast-row
overflow_cast-row c =
    let name = named (filling_first c.loop.invariant (omega arith)) (sym c.unwrap-one.ensures ∙ c.seen_unsigned.ensures) in
    omega (arith, name.ends, c.requires.input_len_bound.0)

pub bounds-row-to : goal.bounds-row-to
bounds-row-to c = omega (arith, room (goal.at.bounds-row-to c).In-loop)

pub bounds-row-to-in-loop : goal.bounds-row-to-in-loop
bounds-row-to-in-loop c = let there = room (goal.at.bounds-row-to-in-loop c).In-loop in simp length-set (omega arith)

pub overflow_add-at : goal.overflow_add-at
overflow_add-at c =
    let name = named (filling_first c.loop.invariant (omega arith)) (sym c.unwrap-one.ensures ∙ c.seen_unsigned.ensures) in
    omega (arith, name.ends, c.requires.input_len_bound.0)

pub slice_bounds-value-count : goal.slice_bounds-value-count
slice_bounds-value-count c =
    let name = named (filling_first c.loop.invariant (omega arith)) (sym c.unwrap-one.ensures ∙ c.seen_unsigned.ensures) in
    omega (arith, name.ends, c.requires.input_len_bound.0)

pub slice_bounds-value-start : goal.slice_bounds-value-start
slice_bounds-value-start c =
    let name = named (filling_first c.loop.invariant (omega arith)) (sym c.unwrap-one.ensures ∙ c.seen_unsigned.ensures) in
    omega (arith, name.ends, c.requires.input_len_bound.0)

pub unwrap-two-requires : goal.unwrap-two-requires
unwrap-two-requires c =
    let name = named (filling_first c.loop.invariant (omega arith)) (sym c.unwrap-one.ensures ∙ c.seen_unsigned.ensures) in
    subst IsSome (sym c.value.ensures) (pair_seen (second-stands c.loop.invariant (omega arith) name))

pub bounds-row-to-in-loop-2 : goal.bounds-row-to-in-loop-2
bounds-row-to-in-loop-2 c = let there = room (goal.at.bounds-row-to-in-loop-2 c).In-loop in simp length-set (omega arith)

pub bounds-row-to-in-loop-3 : goal.bounds-row-to-in-loop-3
bounds-row-to-in-loop-3 c = let there = room (goal.at.bounds-row-to-in-loop-3 c).In-loop in simp length-set (omega arith)

pub overflow_add-at-in-loop : goal.overflow_add-at-in-loop
overflow_add-at-in-loop c =
    let name = named (filling_first c.loop.invariant (omega arith)) (sym c.unwrap-one.ensures ∙ c.seen_unsigned.ensures) in
    let two = value-paired name.ends (sym c.unwrap-two.ensures ∙ c.value.ensures) in
    omega (arith, two.ends, c.requires.input_len_bound.0)

pub loop-preserved : goal.loop-preserved
loop-preserved c =
    let name = named (filling_first c.loop.invariant (omega arith)) (sym c.unwrap-one.ensures ∙ c.seen_unsigned.ensures) in
    let two = value-paired name.ends (sym c.unwrap-two.ensures ∙ c.value.ensures) in
    filling_on _ (field_next c.loop.invariant (omega arith) name two)

pub returns : goal.returns
returns c = filling_end c.loop.invariant (omega arith)
