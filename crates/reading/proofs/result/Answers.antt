-- `result` meets its contract: the tests on the first two bytes are those of a function's result, and a V behind the first has few
-- bytes (`value-short`). Assumes nothing.
use Rattle.std.specs.Prelude.{ℕ, List, Some, option_map}
use mathlib.Core.Path.{sym, ap, ◌∙◌}
use Rattle.numbers.proofs.BytesLaws.{to_end}
use Rattle.fields.specs.declared.Field.TheVariants as field
use Rattle.reading.specs.Seen.{pair}
use Rattle.reading.specs.inside.Steps.{behind_one}
use Rattle.reading.proofs.ValueLaws.{value-short, result_short, result_some, result_none, result_full, result_other}
use Rattle.reading.proofs.result.Goals as goal

pub returns-in_err-v : goal.returns-in_err-v
returns-in_err-v c =
    let g = c.args.grade in
    let bs = c.args.bs.now in
    c.from_residual.ensures
    ∙ ap (option_map behind_one) (sym c.in_err-v.was ∙ c.value.ensures ∙ ap (λ (s : List ℕ). pair g field.Value s) (to_end bs 1))
    ∙ result_some g bs c.if-bs-gt1.true c.if-b-eq0.true

pub behind-requires : goal.behind-requires
behind-requires c = value-short _ _ _ (sym c.value.ensures ∙ c.in_ok-v.was)

pub returns-then-b-eq0 : goal.returns-then-b-eq0
returns-then-b-eq0 c =
    let g = c.args.grade in
    let bs = c.args.bs.now in
    ap Some c.behind.ensures
    ∙ ap (option_map behind_one) (sym c.in_ok-v.was ∙ c.value.ensures ∙ ap (λ (s : List ℕ). pair g field.Value s) (to_end bs 1))
    ∙ result_some g bs c.if-bs-gt1.true c.if-b-eq0.true

pub returns-then-bs-eq0 : goal.returns-then-bs-eq0
returns-then-bs-eq0 c = result_none _ _ c.if-bs-gt1.true c.if-b-eq1.true c.if-bs-eq0.true

pub returns-else-bs-eq0 : goal.returns-else-bs-eq0
returns-else-bs-eq0 c = result_full _ _ c.if-bs-gt1.true c.if-b-eq1.true c.if-bs-eq0.false

pub returns-else-b-eq1 : goal.returns-else-b-eq1
returns-else-b-eq1 c = result_other _ _ c.if-bs-gt1.true c.if-b-eq0.false c.if-b-eq1.false

pub returns-else-bs-gt1 : goal.returns-else-bs-gt1
returns-else-bs-gt1 c = result_short _ _ c.if-bs-gt1.false
