-- `reading::scan::primitive_or` meets its contract: the tests on the byte are those of `scan_primitive`.
use mathlib.Core.Path.{sym, ◌∙◌}
use borrow.Author.Tests.{eq-eqb, ne_eqb, lt-ltb, le-ltb}
use Rattle.reading.specs.Scan.{scan_primitive}
use Rattle.reading.proofs.scan.primitive_or.Goals as goal

pub returns-then-b-eq100 : goal.returns-then-b-eq100
unfolding scan_primitive
returns-then-b-eq100 c = c.asked_at.ensures ∙ simp (eq-eqb _ _ c.if-b-eq100.true, sym c.grade_of.ensures)

pub returns-then-b-lt115 : goal.returns-then-b-lt115
unfolding scan_primitive
returns-then-b-lt115 c = simp (ne_eqb _ _ c.if-b-eq100.false, lt-ltb _ _ c.if-b-lt115.true)

pub returns-then-b-lt128 : goal.returns-then-b-lt128
unfolding scan_primitive
returns-then-b-lt128 c = simp (ne_eqb _ _ c.if-b-eq100.false, le-ltb _ _ c.if-b-lt115.false, lt-ltb _ _ c.if-b-lt128.true)

pub returns : goal.returns
unfolding scan_primitive
returns c = simp (ne_eqb _ _ c.if-b-eq100.false, le-ltb _ _ c.if-b-lt115.false, le-ltb _ _ c.if-b-lt128.false)
