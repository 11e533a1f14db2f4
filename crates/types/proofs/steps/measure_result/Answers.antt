-- `measure_result` meets its contract: what straight code sees has its size, and the rest is measured by the shape.
use mathlib.Core.Path.{sym, ap, ◌∙◌}
use mathlib.Core.List.{[], ◌∷◌}
use Rattle.writing.specs.Write.{measured}
use Rattle.types.proofs.StepLaws.{result_measured}
use Rattle.types.proofs.steps.measure_result.Goals as goal

pub returns-in-Some : goal.returns-in-Some
returns-in-Some c = sym (result_measured (rw c.in-Some.is at c.optional_size.ensures.optional_known))

pub returns : goal.returns
returns c =
    let a = c.args in
    c.measure_shape.ensures ∙ ap (λ s. measured s (a.tag ∷ a.x ∷ []) 0 []) c.result_shape.ensures
