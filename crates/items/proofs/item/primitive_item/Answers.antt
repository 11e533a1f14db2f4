-- `primitive_item` meets its contract: a primitive that is right is the item, and there is none without. Assumes nothing.
use mathlib.Core.Path.{sym, ◌∙◌}
use Rattle.items.proofs.ItemLaws.{primitive-item, primitive_none}
use Rattle.items.proofs.item.primitive_item.Goals as goal

pub returns-in_err-one : goal.returns-in_err-one
returns-in_err-one c =
    primitive_none c.args.grade c.args.input.now (sym c.in_err-one.was ∙ c.primitive.ensures) c.from_residual.ensures

pub returns : goal.returns
returns c = primitive-item c.args.grade c.args.input.now (sym c.in_ok-one.was ∙ c.primitive.ensures)
