-- `reference` meets its contract: its tests on the first byte are those of `scan_reference`. Assumes nothing.
use mathlib.Core.Path.{◌∙◌}
use Rattle.items.proofs.ReferenceLaws.{reference_empty, reference_indexed, reference_other}
use Rattle.items.proofs.import.reference.Goals as goal

pub returns-then-sort-eq3 : goal.returns-then-sort-eq3
returns-then-sort-eq3 c = c.bound.ensures c.args.grade

pub returns-then-sort-eq0 : goal.returns-then-sort-eq0
returns-then-sort-eq0 c = c.«module».ensures c.args.grade

pub returns-then-sort-lt6 : goal.returns-then-sort-lt6
returns-then-sort-lt6 c =
    c.indexed.ensures
    ∙ reference_indexed c.args.grade c.args.bs.now c.if-bs-gt0.true c.if-sort-eq3.false
    c.if-sort-eq2.false c.if-sort-eq0.false c.if-sort-lt6.true

pub returns-else-sort-lt6 : goal.returns-else-sort-lt6
returns-else-sort-lt6 c = reference_other c.args.grade c.args.bs.now c.if-bs-gt0.true c.if-sort-lt6.false

pub returns-else-bs-gt0 : goal.returns-else-bs-gt0
returns-else-bs-gt0 c = reference_empty c.args.grade c.args.bs.now c.if-bs-gt0.false
