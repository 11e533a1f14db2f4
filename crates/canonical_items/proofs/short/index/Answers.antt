-- `index` meets its contract: what is seen of the number is what its field is.
use native.Mathlib.Omega.{arith}
use mathlib.Core.Path.{sym, ◌∙◌}
use Rattle.canonical_items.proofs.ShortLaws.{seen_at, index_some, index_none}
use Rattle.canonical_items.proofs.short.index.Goals as goal

pub returns-in_err-one : goal.returns-in_err-one
returns-in_err-one c = index_none c.args.input.now c.args.at (sym c.in_err-one.was ∙ c.seen_unsigned.ensures) c.from_residual.ensures

pub overflow_add-result : goal.overflow_add-result
overflow_add-result c =
    let k = seen_at c.args.input.now c.args.at (sym c.in_ok-one.was ∙ c.seen_unsigned.ensures) in
    omega (arith, k.2, c.requires.0)

pub returns : goal.returns
returns c = index_some c.args.input.now c.args.at (sym c.in_ok-one.was ∙ c.seen_unsigned.ensures)
