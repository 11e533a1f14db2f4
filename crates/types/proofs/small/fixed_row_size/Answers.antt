-- `fixed_row_size` meets its contract: what it tests is what `fixed_row` asks.
use native.Mathlib.Omega.{arith}
use mathlib.Core.Path.{sym, ◌∙◌}
use Rattle.numbers.proofs.LebLaws.{size_bounds}
use Rattle.fields.specs.Words.{word}
use Rattle.types.proofs.SmallLaws.{value-few, fixed_row}
use Rattle.types.proofs.small.fixed_row_size.Goals as goal

pub overflow_add-result : goal.overflow_add-result
overflow_add-result c =
    let row = c.args.row.now in
    omega (arith, value-few (word row 1) (word row 2) (sym c.in_ok-value_size.was ∙ c.value_size.ensures))

pub overflow_add-result-2 : goal.overflow_add-result-2
overflow_add-result-2 c =
    let row = c.args.row.now in
    omega (
      arith,
      value-few (word row 1) (word row 2) (sym c.in_ok-value_size.was ∙ c.value_size.ensures),
      c.unsigned_size.ensures,
      size_bounds 128 (word row 3),
    )

pub returns : goal.returns
returns c =
    fixed_row c.args.row.now (sym c.in_ok-value_size.was ∙ c.value_size.ensures) c.unsigned_size.ensures c.if-row-ne4.false
