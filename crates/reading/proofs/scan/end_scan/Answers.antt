-- `reading::scan::end_scan` meets its contract: the tests are those of `end_scan`.
use mathlib.Core.Path.{◌∙◌}
use borrow.Author.Tests.{le-leb, lt-leb, eq-eqb, ne_eqb}
use Rattle.reading.specs.Scan.{end_scan}
use Rattle.reading.proofs.scan.end_scan.Goals as goal

pub returns-then-due-eq0 : goal.returns-then-due-eq0
unfolding end_scan
returns-then-due-eq0 c = simp (eq-eqb _ _ c.if-due-eq0.true)

pub returns-then-bs-at : goal.returns-then-bs-at
unfolding end_scan
returns-then-bs-at c = c.cut_short.ensures ∙ simp (ne_eqb _ _ c.if-due-eq0.false, le-leb _ _ c.if-bs-at.true)

pub returns : goal.returns
unfolding end_scan
returns c = simp (ne_eqb _ _ c.if-due-eq0.false, lt-leb _ _ c.if-bs-at.false)
