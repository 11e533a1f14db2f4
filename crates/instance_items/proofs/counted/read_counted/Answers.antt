-- `read_counted` meets its contract: the count that is seen, as many groups, and their words behind the kind, an index and the count.
use Prim.Native.Nat.{ℕ, ◌+◌, ◌*◌}
use native.Mathlib.Omega.{arith}
use mathlib.Core.Path.{◌≡◌, refl, sym, ap, ◌∙◌, subst}
use mathlib.Core.List.{List}
use lib.ListN.{drop, length-set}
use Rattle.std.specs.Prelude.{Option, Some, IsSome}
use Rattle.numbers.specs.Leb.{take_unsigned}
use Rattle.numbers.specs.Seen.{seen}
use Rattle.numbers.proofs.BytesLaws.{to_end}
use Rattle.fields.specs.Shape.{repeated}
use Rattle.reading.specs.inside.Steps.{scans, end_of}
use Rattle.reading.specs.inside.Try.{Tried}
use Rattle.reading.specs.inside.Tried.{left_tried}
use Rattle.instance_items.specs.inside.Group.{group_of, counted_of}
use Rattle.instance_items.proofs.CountLaws.{count_cut, count_seen, count_inside, counted_wrong, counted_cramped, counted_done, room_fits, group-words, group_sum}
use Rattle.instance_items.proofs.counted.read_counted.Goals as goal
use Rattle.instance_items.proofs.counted.read_counted.Goals.{In_ok-count, In_ok-end}

-- the count that was seen
count_is : (c : In_ok-count) → Some c.in_ok-count.count ≡ seen (take_unsigned (drop c.args.at c.args.input.now))
count_is c = sym c.in_ok-count.was ∙ c.seen_unsigned.ensures ∙ ap (λ (s : List ℕ). seen (take_unsigned s)) (to_end c.args.input.now c.args.at)

-- where the groups end
ended : (c : In_ok-end) → let a = c.args in
    Some c.in_ok-end.end
    ≡ end_of (scans a.grade a.input.now (repeated c.in_ok-count.count.value (group_of a.kind)) (a.at + c.in_ok-count.count.took) 0)
ended c = sym c.in_ok-end.was ∙ c.groups_end.ensures

pub returns-in_err-count : goal.returns-in_err-count
returns-in_err-count c =
    let a = c.args in
    ap (λ (r : Tried). left_tried r a.row.now) c.from_residual.ensures
    ∙ count_cut a.grade a.at a.input.now
    (sym c.in_err-count.was ∙ c.seen_unsigned.ensures ∙ ap (λ (s : List ℕ). seen (take_unsigned s)) (to_end a.input.now a.at)) (counted_of a.kind)
    a.base _ a.row.now

pub overflow_add-from : goal.overflow_add-from
overflow_add-from c =
    let a = c.args in
    let k = count_seen a.grade a.at a.input.now _ (count_is (goal.at.overflow_add-from c).In_ok-count) in
    omega (arith, k.2, c.requires.at_in_bounds.0, c.requires.at_in_bounds.1)

pub groups_end-requires : goal.groups_end-requires
groups_end-requires c =
    let a = c.args in
    let k = count_inside a.grade a.at a.input.now _ (count_is (goal.at.groups_end-requires c).In_ok-count) c.requires.at_in_bounds.0 in
    (c.requires.at_in_bounds.1, k, c.requires.at_in_bounds.2, c.requires.at_in_bounds.3)

pub returns-in_err-end : goal.returns-in_err-end
returns-in_err-end c =
    let a = c.args in
    ap (λ (r : Tried). left_tried r a.row.now) c.from_residual-in_err-end.ensures
    ∙ counted_wrong a.grade a.at a.input.now _ (count_is (goal.at.returns-in_err-end c).In_ok-count) a.kind a.index a.base a.row.now
    (sym c.in_err-end.was ∙ c.groups_end.ensures)

pub overflow_add-words-2 : goal.overflow_add-words-2
overflow_add-words-2 c =
    let a = c.args in
    let m = group-words a.kind 1 _ _ c.one_wide.ensures c.two_wide.ensures (omega arith) in
    omega (arith, m)

pub overflow_mul-words : goal.overflow_mul-words
overflow_mul-words c =
    let a = c.args in
    let k = count_seen a.grade a.at a.input.now _ (count_is (goal.at.overflow_mul-words c).In_ok-count) in
    let m = group-words a.kind c.in_ok-count.count.value _ _ c.one_wide.ensures c.two_wide.ensures k.4 in
    omega (arith, m)

pub overflow_add-words-3 : goal.overflow_add-words-3
overflow_add-words-3 c =
    let a = c.args in
    let k = count_seen a.grade a.at a.input.now _ (count_is (goal.at.overflow_add-words-3 c).In_ok-count) in
    let m = group-words a.kind c.in_ok-count.count.value _ _ c.one_wide.ensures c.two_wide.ensures k.4 in
    omega (arith, m, c.requires.le_base.1)

pub returns-then-not-has_room : goal.returns-then-not-has_room
returns-then-not-has_room c =
    let a = c.args in
    let wide = ap (λ (m : ℕ). a.base + 1 + c.in_ok-count.count.value * m) (group_sum a.kind _ _ c.one_wide.ensures c.two_wide.ensures) in
    counted_cramped a.grade a.at a.input.now _ (count_is (goal.at.returns-then-not-has_room c).In_ok-count) a.kind a.index a.base _ _
    (ended (goal.at.returns-then-not-has_room c).In_ok-end) wide a.row.now (sym c.has_room.ensures ∙ c.if-not-has_room.true)

pub bounds-row-0 : goal.bounds-row-0
bounds-row-0 c =
    let room = room_fits _ _ (sym c.has_room.ensures ∙ c.if-not-has_room.false) in
    omega (arith, room.1, c.requires.le_base.0)

pub bounds-row-1 : goal.bounds-row-1
bounds-row-1 c =
    let room = room_fits _ _ (sym c.has_room.ensures ∙ c.if-not-has_room.false) in
    simp length-set (omega (arith, room.1, c.requires.le_base.0))

pub bounds-row-base : goal.bounds-row-base
bounds-row-base c =
    let room = room_fits _ _ (sym c.has_room.ensures ∙ c.if-not-has_room.false) in
    simp length-set (omega (arith, room.1, c.requires.le_base.0))

pub fill_groups-requires-clause-input_len_bound : goal.fill_groups-requires-clause-input_len_bound
fill_groups-requires-clause-input_len_bound c =
    let a = c.args in
    let k = count_inside a.grade a.at a.input.now _ (count_is (goal.at.fill_groups-requires-clause-input_len_bound c).In_ok-count) c.requires.at_in_bounds.0 in
    let room = room_fits _ _ (sym c.has_room.ensures ∙ c.if-not-has_room.false) in
    let wide = ap (λ (m : ℕ). a.base + 1 + c.in_ok-count.count.value * m) (group_sum a.kind _ _ c.one_wide.ensures c.two_wide.ensures) in
    (c.requires.at_in_bounds.1, k, simp length-set (omega (arith, room.1, wide)), c.requires.at_in_bounds.2, c.requires.at_in_bounds.3)

pub fill_groups-requires-clause-right : goal.fill_groups-requires-clause-right
fill_groups-requires-clause-right c = subst (λ (o : Option ℕ). IsSome o) (ended (goal.at.fill_groups-requires-clause-right c).In_ok-end) refl

pub returns : goal.returns
returns c =
    let a = c.args in
    let wide = ap (λ (m : ℕ). a.base + 1 + c.in_ok-count.count.value * m) (group_sum a.kind _ _ c.one_wide.ensures c.two_wide.ensures) in
    counted_done a.grade a.at a.input.now _ (count_is (goal.at.returns c).In_ok-count) a.kind a.index a.base _ _
    (ended (goal.at.returns c).In_ok-end) wide c.requires.le_base.0 c.requires.le_base.1 a.row.now _
    (sym c.has_room.ensures ∙ c.if-not-has_room.false) c.fill_groups.ensures
