-- `imports::measure` meets its contract: what straight code sees of an import, and otherwise what `fields` says of a row of its kind's shape.
use mathlib.Core.Path.{◌∙◌}
use Rattle.imports.specs.Write.{measured_import}
use Rattle.imports.proofs.ImportLaws.{measured_as}
use Rattle.imports.proofs.measure.Goals as goal

pub returns-in-Some : goal.returns-in-Some
returns-in-Some c =
    let row = c.args.row.now in
    let pool = c.args.pool.now in
    measured_as row pool c.kind_of-kind.ensures c.if-kind-eq17.true
    (rw c.in-Some.is at c.import_size.ensures)

pub returns : goal.returns
unfolding measured_import
returns c = c.measure_row.ensures ∙ rw (c.shape_of.ensures, c.kind_of-kind.ensures)
