-- `measure_head` meets its contract: what straight code sees has its size, and the rest is measured by the shape.
use mathlib.Core.Path.{sym, ap, ◌∙◌}
use Rattle.writing.specs.Write.{measured}
use Rattle.types.proofs.steps.measure_head.Goals as goal

pub returns-in-Some : goal.returns-in-Some
returns-in-Some c = sym (rw c.in-Some.is at c.head_size.ensures)

pub returns : goal.returns
returns c =
    let a = c.args in
    c.measure_shape.ensures ∙ ap (λ s. measured s a.words.now 0 a.pool.now) c.head_shape.ensures
