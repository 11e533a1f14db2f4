-- `measure` meets its contract: the size that straight code saw, or what `writing` says of a row of its kind's shape.
use mathlib.Core.Path.{sym, ◌∙◌}
use Rattle.instances.specs.Write.{measured_instance}
use Rattle.instances.proofs.measure.Goals as goal

pub returns-in-Some : goal.returns-in-Some
unfolding measured_instance
returns-in-Some c =
    sym (rw c.in-Some.is at c.row_size.ensures)

pub returns : goal.returns
unfolding measured_instance
returns c =
    c.measure_row.ensures ∙ rw (c.shape_of.ensures, c.kind_of.ensures)
