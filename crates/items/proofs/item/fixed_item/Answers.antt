-- `fixed_item` meets its contract: a V and a length behind a byte are the item. Assumes nothing.
use Prim.Native.Nat.{◌+◌}
use native.Mathlib.Omega.{arith}
use mathlib.Core.Path.{sym, ◌∙◌}
use Rattle.fields.specs.declared.Field.TheVariants as field
use Rattle.items.proofs.ItemLaws.{value, pair_here, pair_wrong, index_here, index_wrong, no_first, no_second, pair-index-item}
use Rattle.items.proofs.item.fixed_item.Goals as goal

pub returns-in_err-one : goal.returns-in_err-one
returns-in_err-one c =
    let a = c.args in
    no_first a.grade a.input.now field.Value field.Index
    (pair_wrong a.grade a.input.now value 1 (sym c.in_err-one.was ∙ c.value.ensures)) c.from_residual.ensures

pub overflow_add-next : goal.overflow_add-next
overflow_add-next c =
    let p = pair_here c.args.grade c.args.input.now value 1 (sym c.in_ok-one.was ∙ c.value.ensures) in
    omega (arith, p.inside, c.requires.1)

pub slice_bounds-seen_unsigned-count : goal.slice_bounds-seen_unsigned-count
slice_bounds-seen_unsigned-count c = (pair_here c.args.grade c.args.input.now value 1 (sym c.in_ok-one.was ∙ c.value.ensures)).inside

pub slice_bounds-seen_unsigned-start : goal.slice_bounds-seen_unsigned-start
slice_bounds-seen_unsigned-start c = (pair_here c.args.grade c.args.input.now value 1 (sym c.in_ok-one.was ∙ c.value.ensures)).inside

pub returns-in_err-two : goal.returns-in_err-two
returns-in_err-two c =
    let a = c.args in
    no_second a.grade a.input.now field.Index
    (pair_here a.grade a.input.now value 1 (sym c.in_ok-one.was ∙ c.value.ensures))
    (index_wrong a.grade a.input.now (1 + c.in_ok-one.one.took) (sym c.in_err-two.was ∙ c.seen_unsigned.ensures)) c.from_residual-in_err-two.ensures

pub overflow_add-result : goal.overflow_add-result
overflow_add-result c =
    let a = c.args in
    let q = index_here a.grade a.input.now (1 + c.in_ok-one.one.took) (sym c.in_ok-two.was ∙ c.seen_unsigned.ensures) in
    omega (arith, q.inside, c.requires.1)

pub returns : goal.returns
returns c =
    let a = c.args in
    pair-index-item a.grade a.input.now
    (pair_here a.grade a.input.now value 1 (sym c.in_ok-one.was ∙ c.value.ensures))
    (index_here a.grade a.input.now (1 + c.in_ok-one.one.took) (sym c.in_ok-two.was ∙ c.seen_unsigned.ensures))
