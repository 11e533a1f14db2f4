-- `optional` meets its contract: the tests on the first byte are those of an O, and a V behind it has few bytes (`value-short`).
-- Assumes nothing.
use Rattle.std.specs.Prelude.{ℕ, List, Some, option_map}
use mathlib.Core.Path.{sym, ap, ◌∙◌}
use Rattle.numbers.proofs.BytesLaws.{to_end}
use Rattle.fields.specs.declared.Field.TheVariants as field
use Rattle.reading.specs.Seen.{pair}
use Rattle.reading.specs.inside.Steps.{behind_one}
use Rattle.reading.proofs.ValueLaws.{value-short, optional_empty, optional_some, optional_none, optional-other}
use Rattle.reading.proofs.optional.Goals as goal

pub returns-in_err-v : goal.returns-in_err-v
returns-in_err-v c =
    let g = c.args.grade in
    let bs = c.args.bs.now in
    c.from_residual.ensures
    ∙ ap (option_map behind_one) (sym c.in_err-v.was ∙ c.value.ensures ∙ ap (λ (s : List ℕ). pair g field.Value s) (to_end bs 1))
    ∙ optional_some g bs c.if-bs-gt0.true c.if-b-eq1.true

pub behind-requires : goal.behind-requires
behind-requires c = value-short _ _ _ (sym c.value.ensures ∙ c.in_ok-v.was)

pub returns-then-b-eq1 : goal.returns-then-b-eq1
returns-then-b-eq1 c =
    let g = c.args.grade in
    let bs = c.args.bs.now in
    ap Some c.behind.ensures
    ∙ ap (option_map behind_one) (sym c.in_ok-v.was ∙ c.value.ensures ∙ ap (λ (s : List ℕ). pair g field.Value s) (to_end bs 1))
    ∙ optional_some g bs c.if-bs-gt0.true c.if-b-eq1.true

pub returns-then-b-eq0 : goal.returns-then-b-eq0
returns-then-b-eq0 c = optional_none _ _ c.if-bs-gt0.true c.if-b-eq0.true

pub returns-else-b-eq0 : goal.returns-else-b-eq0
returns-else-b-eq0 c = optional-other _ _ c.if-bs-gt0.true c.if-b-eq1.false c.if-b-eq0.false

pub returns-else-bs-gt0 : goal.returns-else-bs-gt0
returns-else-bs-gt0 c = optional_empty _ _ c.if-bs-gt0.false
