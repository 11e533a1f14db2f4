-- `opens` meets its contract: what is seen of the two numbers.
use native.Mathlib.Omega.{arith}
use mathlib.Core.Path.{sym, ◌∙◌}
use Rattle.canonical_items.proofs.ShortLaws.{seen_at, opens_at, opens_both}
use Rattle.canonical_items.proofs.options.opens.Goals as goal

pub overflow_add-mid : goal.overflow_add-mid
overflow_add-mid c =
    let k = opens_at c.args.input.now c.args.from _ c.seen_unsigned.ensures c.in_ok-one.was in
    omega (arith, k.2, c.requires.0)

pub slice_bounds-seen_unsigned-count-2 : goal.slice_bounds-seen_unsigned-count-2
slice_bounds-seen_unsigned-count-2 c = (opens_at c.args.input.now c.args.from _ c.seen_unsigned.ensures c.in_ok-one.was).2

pub slice_bounds-seen_unsigned-start-2 : goal.slice_bounds-seen_unsigned-start-2
slice_bounds-seen_unsigned-start-2 c = (opens_at c.args.input.now c.args.from _ c.seen_unsigned.ensures c.in_ok-one.was).2

pub overflow_add-result : goal.overflow_add-result
overflow_add-result c =
    let p = opens_at c.args.input.now c.args.from _ c.seen_unsigned.ensures c.in_ok-one.was in
    let q = seen_at c.args.input.now _ (sym c.in_ok-two.was ∙ c.seen_unsigned-2.ensures) in
    omega (arith, p.2, q.1, c.requires.0)

pub returns : goal.returns
returns c =
    let a = c.args in
    opens_both a.input.now a.from _ c.seen_unsigned.ensures c.in_ok-one.was _ c.seen_unsigned-2.ensures c.in_ok-two.was
