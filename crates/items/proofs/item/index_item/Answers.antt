-- `index_item` meets its contract: a number that is seen behind a byte is the item's index, of every grade. Assumes nothing.
use native.Mathlib.Omega.{arith}
use mathlib.Core.Path.{sym, ◌∙◌}
use Rattle.fields.specs.declared.Field.TheVariants as field
use Rattle.items.proofs.ItemLaws.{index_here, index_wrong, no_first, number-item}
use Rattle.items.proofs.item.index_item.Goals as goal

pub returns-in_err-one : goal.returns-in_err-one
returns-in_err-one c = λ g.
    let input = c.args.input.now in
    no_first g input field.Index field.Nothing (index_wrong g input 1 (sym c.in_err-one.was ∙ c.seen_unsigned.ensures))
    c.from_residual.ensures

pub overflow_add-result : goal.overflow_add-result
overflow_add-result c =
    let p = index_here 1 c.args.input.now 1 (sym c.in_ok-one.was ∙ c.seen_unsigned.ensures) in
    omega (arith, p.inside, c.requires.1)

pub returns : goal.returns
returns c = λ g.
    let input = c.args.input.now in
    number-item g input (index_here g input 1 (sym c.in_ok-one.was ∙ c.seen_unsigned.ensures))
