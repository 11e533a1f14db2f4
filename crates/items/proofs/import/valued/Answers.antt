-- `valued` meets its contract: the V behind the byte 02 makes the reference, or is none; it has few bytes (`value-short`).
use Rattle.std.specs.Prelude.{ℕ, List}
use native.Mathlib.Omega.{arith}
use mathlib.Core.Path.{sym, ap, ◌∙◌}
use Rattle.numbers.proofs.BytesLaws.{to_end}
use Rattle.fields.specs.declared.Field.TheVariants as field
use Rattle.reading.specs.Seen.{pair}
use Rattle.reading.proofs.ValueLaws.{value-short}
use Rattle.items.proofs.ReferenceLaws.{valued_some, valued_none}
use Rattle.items.proofs.import.valued.Goals as goal

pub returns-in_err-v : goal.returns-in_err-v
returns-in_err-v c =
    let g = c.args.grade in
    let bs = c.args.bs.now in
    let is = c.value.ensures ∙ ap (λ (s : List ℕ). pair g field.Value s) (to_end bs 1) in
    c.from_residual.ensures ∙ valued_none g bs c.requires.0 c.requires.1 (sym c.in_err-v.was ∙ is)

pub overflow_add-result : goal.overflow_add-result
overflow_add-result c = let size = value-short _ _ _ (sym c.value.ensures ∙ c.in_ok-v.was) in omega arith

pub returns : goal.returns
returns c =
    let g = c.args.grade in
    let bs = c.args.bs.now in
    let is = c.value.ensures ∙ ap (λ (s : List ℕ). pair g field.Value s) (to_end bs 1) in
    valued_some g bs c.requires.0 c.requires.1 _ (sym c.in_ok-v.was ∙ is)
