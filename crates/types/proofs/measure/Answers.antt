-- `types::measure` meets its contract: the size that straight code saw, or what `fields` says of a row of its kind's shape.
use mathlib.Core.Path.{sym, ◌∙◌}
use Rattle.types.specs.Write.{measured_type}
use Rattle.types.proofs.measure.Goals as goal

pub returns-in-Some : goal.returns-in-Some
unfolding measured_type
returns-in-Some c = sym (rw c.in-Some.is at c.row_size.ensures)

pub returns : goal.returns
unfolding measured_type
returns c =
    c.measure_row.ensures
    ∙ rw (c.shape_of.ensures, c.kind_of.ensures)
