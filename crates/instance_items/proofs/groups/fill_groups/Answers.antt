-- `fill_groups` meets its contract: the loop's invariant is `Filling`: what is due of the groups, stored here, leaves what the whole
-- leaves; a round stores the words of two fields (`round_next`).
use Prim.Native.Nat.{ℕ, ◌+◌, ◌-◌}
use native.Mathlib.Omega.{arith}
use mathlib.Core.Path.{◌≡◌, subst}
use Rattle.reading.proofs.FillLaws.{Filling, filling_start, filling_end}
use Rattle.instance_items.specs.inside.Group.{group_of}
use Rattle.instance_items.proofs.GroupLaws.{part_length, round_room, round_first, round_ends, round_second, round_closes, round_next}
use Rattle.instance_items.proofs.groups.fill_groups.Goals as goal

pub loop-init : goal.loop-init
loop-init c =
    let a = c.args in
    let all : a.n ≡ a.n - 0 = omega arith in
    subst (λ (left : ℕ). Filling a.grade a.input.now (group_of a.kind) a.n a.from a.row.now a.base left a.from a.base a.row.now) all
    (filling_start c.requires.input_len_bound.1 c.requires.input_len_bound.2 c.requires.right)

pub store_one-at-requires : goal.store_one-at-requires
store_one-at-requires c = record {
  bs_bound = (
    omega (arith, part_length c.args.input.now c.loop.at, c.loop.invariant.inside, c.requires.input_len_bound.0),
    omega (arith, round_room c.args.kind c.loop.invariant (omega arith)),
    c.requires.input_len_bound.3,
    c.requires.input_len_bound.4,
  );
  right = round_first c.args.kind c.loop.invariant (omega arith);
}

pub overflow_add-at : goal.overflow_add-at
overflow_add-at c =
    omega (arith, round_ends c.args.kind c.loop.invariant (omega arith) c.store_one-at.ensures.0, c.requires.input_len_bound.0)

pub overflow_add-to : goal.overflow_add-to
overflow_add-to c =
    omega (arith, round_room c.args.kind c.loop.invariant (omega arith), c.one_wide-to.ensures)

pub slice_bounds-store_two-count : goal.slice_bounds-store_two-count
slice_bounds-store_two-count c =
    omega (arith, round_ends c.args.kind c.loop.invariant (omega arith) c.store_one-at.ensures.0)

pub slice_bounds-store_two-start : goal.slice_bounds-store_two-start
slice_bounds-store_two-start c =
    omega (arith, round_ends c.args.kind c.loop.invariant (omega arith) c.store_one-at.ensures.0)

pub store_two-at-requires : goal.store_two-at-requires
store_two-at-requires c = record {
  kind_in_bounds = omega (arith, round_room c.args.kind c.loop.invariant (omega arith), c.one_wide-to.ensures, c.store_one-at.auto.row);
  right = round_second c.args.kind c.loop.invariant (omega arith) c.store_one-at.ensures.0;
}

pub overflow_add-at-in-loop : goal.overflow_add-at-in-loop
overflow_add-at-in-loop c =
    omega (arith, round_closes c.args.kind c.loop.invariant (omega arith) c.store_one-at.ensures.0 c.store_two-at.ensures.0, c.requires.input_len_bound.0)

pub overflow_add-to-in-loop : goal.overflow_add-to-in-loop
overflow_add-to-in-loop c =
    omega (arith, round_room c.args.kind c.loop.invariant (omega arith), c.one_wide-to.ensures, c.two_wide-to.ensures)

pub loop-preserved : goal.loop-preserved
loop-preserved c =
    let a = c.args in
    let less : a.n - c.loop.counter - 1 ≡ a.n - (c.loop.counter + 1) = omega arith in
    subst
    (λ (left : ℕ). Filling a.grade a.input.now (group_of a.kind) a.n a.from a.row.now a.base left
    (c.loop.at + c.store_one-at.result + c.store_two-at.result) (c.loop.to + c.one_wide-to.result + c.two_wide-to.result) c.store_two-at.new.row) less
    (round_next a.kind c.loop.invariant (omega arith) c.store_one-at.ensures.0 c.store_two-at.ensures.0 c.one_wide-to.ensures c.two_wide-to.ensures
    c.store_one-at.ensures.1 c.store_two-at.ensures.1)

pub returns : goal.returns
returns c = filling_end c.loop.invariant (omega arith)
