-- `value_row_size` meets its contract: what it tests is what `value_row` asks.
use native.Mathlib.Omega.{arith}
use mathlib.Core.Path.{sym, ◌∙◌}
use Rattle.fields.specs.Words.{word}
use Rattle.types.proofs.SmallLaws.{value-few, value_row}
use Rattle.types.proofs.small.value_row_size.Goals as goal

pub overflow_add-result : goal.overflow_add-result
overflow_add-result c =
    let row = c.args.row.now in
    omega (arith, value-few (word row 1) (word row 2) (sym c.in_ok-value_size.was ∙ c.value_size.ensures))

pub returns : goal.returns
returns c = value_row c.args.row.now (sym c.in_ok-value_size.was ∙ c.value_size.ensures) c.if-row-ne3.false
