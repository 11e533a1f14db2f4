-- `reading::scan::scan_result` meets its contract: the tests on the first byte are those of `scan_result`.
use mathlib.Core.Path.{sym, ◌∙◌}
use borrow.Author.Tests.{le-leb, lt-leb, eq-eqb, ne_eqb}
use Rattle.reading.specs.Scan.{scan_result}
use Rattle.reading.proofs.scan.scan_result.Goals as goal

pub returns-then-bs-le0 : goal.returns-then-bs-le0
unfolding scan_result
returns-then-bs-le0 c = c.cut_short.ensures ∙ simp (le-leb _ _ c.if-bs-le0.true)

pub returns-then-b-eq0 : goal.returns-then-b-eq0
unfolding scan_result
returns-then-b-eq0 c =
    c.value_behind.ensures ∙ simp (
      lt-leb _ _ c.if-bs-le0.false,
      sym c.byte_at-b.ensures,
      eq-eqb _ _ c.if-b-eq0.true,
    )

pub returns-then-b-eq1 : goal.returns-then-b-eq1
unfolding scan_result
returns-then-b-eq1 c =
    c.zero_at.ensures ∙ simp (
      lt-leb _ _ c.if-bs-le0.false,
      sym c.byte_at-b.ensures,
      ne_eqb _ _ c.if-b-eq0.false,
      eq-eqb _ _ c.if-b-eq1.true,
    )

pub returns : goal.returns
unfolding scan_result
returns c =
    simp (
      lt-leb _ _ c.if-bs-le0.false,
      sym c.byte_at-b.ensures,
      ne_eqb _ _ c.if-b-eq0.false,
      ne_eqb _ _ c.if-b-eq1.false,
    )
