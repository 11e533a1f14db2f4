-- `values_row_size` meets its contract: what it tests is what `values_row` asks.
use native.Mathlib.Omega.{arith}
use mathlib.Core.Path.{sym, ◌∙◌}
use Rattle.fields.specs.Words.{word}
use Rattle.types.proofs.SmallLaws.{value-few, values_row}
use Rattle.types.proofs.small.values_row_size.Goals as goal

pub overflow_add-result : goal.overflow_add-result
overflow_add-result c =
    let row = c.args.row.now in
    omega (arith, value-few (word row 1) (word row 2) (sym c.in_ok-value_size.was ∙ c.value_size.ensures))

pub overflow_add-result-2 : goal.overflow_add-result-2
overflow_add-result-2 c =
    let row = c.args.row.now in
    omega (
      arith,
      value-few (word row 1) (word row 2) (sym c.in_ok-value_size.was ∙ c.value_size.ensures),
      value-few (word row 3) (word row 4) (sym c.in_ok-value_size-2.was ∙ c.value_size-2.ensures),
    )

pub returns : goal.returns
returns c =
    values_row c.args.row.now (sym c.in_ok-value_size.was ∙ c.value_size.ensures)
    (sym c.in_ok-value_size-2.was ∙ c.value_size-2.ensures) c.if-row-ne5.false
