-- `read_counted` meets its contract: the count that is seen, as many groups, and their words behind the kind and the count.
use Prim.Native.Nat.{ℕ, ◌+◌, ◌*◌}
use native.Mathlib.Omega.{arith}
use mathlib.Core.Path.{sym, ap, ◌∙◌}
use lib.ListN.{length-set}
use Rattle.reading.specs.inside.Try.{Tried}
use Rattle.reading.specs.inside.Tried.{left_tried}
use Rattle.items.specs.inside.Group.{counted_of}
use Rattle.items.proofs.CountLaws.{count_there, count_cut, count_seen, count_inside, counted_wrong, counted_cramped, counted_done, room_fits, group-words}
use Rattle.items.proofs.first.read_counted.Goals as goal

pub returns-in_err-count : goal.returns-in_err-count
returns-in_err-count c =
    let a = c.args in
    ap (λ (t : Tried). left_tried t a.row.now) c.from_residual.ensures
    ∙ count_cut a.grade a.input.now (count_there a.input.now c.in_err-count.was c.seen_unsigned.ensures) (counted_of a.kind) 1 _ a.row.now

pub overflow_add-from : goal.overflow_add-from
overflow_add-from c =
    let a = c.args in
    let k = count_seen a.grade a.input.now _ (count_there a.input.now c.in_ok-count.was c.seen_unsigned.ensures) in
    omega (arith, k.2)

pub groups_end-requires : goal.groups_end-requires
groups_end-requires c =
    let a = c.args in
    (c.requires.1, omega arith, count_inside a.grade a.input.now _ (count_there a.input.now c.in_ok-count.was c.seen_unsigned.ensures))

pub returns-in_err-end : goal.returns-in_err-end
returns-in_err-end c =
    let a = c.args in
    ap (λ (t : Tried). left_tried t a.row.now) c.from_residual-in_err-end.ensures
    ∙ counted_wrong a.grade a.input.now _ (count_there a.input.now c.in_ok-count.was c.seen_unsigned.ensures) a.kind a.row.now
    (sym c.in_err-end.was ∙ c.groups_end.ensures)

pub overflow_mul-words : goal.overflow_mul-words
overflow_mul-words c =
    let a = c.args in
    let k = count_seen a.grade a.input.now _ (count_there a.input.now c.in_ok-count.was c.seen_unsigned.ensures) in
    let m = group-words a.kind c.in_ok-count.count.value _ c.group_wide.ensures k.4 in
    omega (arith, m)

pub overflow_add-words : goal.overflow_add-words
overflow_add-words c =
    let a = c.args in
    let k = count_seen a.grade a.input.now _ (count_there a.input.now c.in_ok-count.was c.seen_unsigned.ensures) in
    let m = group-words a.kind c.in_ok-count.count.value _ c.group_wide.ensures k.4 in
    omega (arith, m)

pub returns-then-not-has_room : goal.returns-then-not-has_room
returns-then-not-has_room c =
    let a = c.args in
    let wide = ap (λ (m : ℕ). 2 + c.in_ok-count.count.value * m) c.group_wide.ensures in
    counted_cramped a.grade a.input.now _ (count_there a.input.now c.in_ok-count.was c.seen_unsigned.ensures) a.kind _ _
    (sym c.in_ok-end.was ∙ c.groups_end.ensures) wide a.row.now (sym c.has_room.ensures ∙ c.if-not-has_room.true)

pub bounds-row-0 : goal.bounds-row-0
bounds-row-0 c =
    let room = room_fits _ _ (sym c.has_room.ensures ∙ c.if-not-has_room.false) in
    omega (arith, room.1)

pub bounds-row-1 : goal.bounds-row-1
bounds-row-1 c =
    let room = room_fits _ _ (sym c.has_room.ensures ∙ c.if-not-has_room.false) in
    simp length-set (omega (arith, room.1))

pub fill_groups-requires-clause-input_len_bound : goal.fill_groups-requires-clause-input_len_bound
fill_groups-requires-clause-input_len_bound c =
    let a = c.args in
    let room = room_fits _ _ (sym c.has_room.ensures ∙ c.if-not-has_room.false) in
    let wide = ap (λ (m : ℕ). 2 + c.in_ok-count.count.value * m) c.group_wide.ensures in (
      c.requires.1,
      count_inside a.grade a.input.now _ (count_there a.input.now c.in_ok-count.was c.seen_unsigned.ensures),
      simp length-set (omega (arith, room.1, wide)),
    )

pub returns : goal.returns
returns c =
    let a = c.args in
    let wide = ap (λ (m : ℕ). 2 + c.in_ok-count.count.value * m) c.group_wide.ensures in
    counted_done a.grade a.input.now _ (count_there a.input.now c.in_ok-count.was c.seen_unsigned.ensures) a.kind _ _
    (sym c.in_ok-end.was ∙ c.groups_end.ensures) wide a.row.now _ (sym c.has_room.ensures ∙ c.if-not-has_room.false) c.fill_groups.ensures
