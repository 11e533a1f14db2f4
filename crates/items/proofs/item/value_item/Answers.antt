-- `value_item` meets its contract: a V behind a byte is the item. Assumes nothing.
use native.Mathlib.Omega.{arith}
use mathlib.Core.Path.{sym, ◌∙◌}
use Rattle.fields.specs.declared.Field.TheVariants as field
use Rattle.items.proofs.ItemLaws.{value, pair_here, pair_wrong, no_first, pair-item}
use Rattle.items.proofs.item.value_item.Goals as goal

pub returns-in_err-one : goal.returns-in_err-one
returns-in_err-one c =
    let a = c.args in
    no_first a.grade a.input.now field.Value field.Nothing
    (pair_wrong a.grade a.input.now value 1 (sym c.in_err-one.was ∙ c.value.ensures)) c.from_residual.ensures

pub overflow_add-result : goal.overflow_add-result
overflow_add-result c =
    let p = pair_here c.args.grade c.args.input.now value 1 (sym c.in_ok-one.was ∙ c.value.ensures) in
    omega (arith, p.inside, c.requires.1)

pub returns : goal.returns
returns c =
    let a = c.args in
    pair-item a.grade a.input.now (pair_here a.grade a.input.now value 1 (sym c.in_ok-one.was ∙ c.value.ensures))
