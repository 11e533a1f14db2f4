-- `reading::scan::scan_optional` meets its contract: the tests on the first byte are those of `scan_optional`.
use mathlib.Core.Path.{sym, ◌∙◌}
use borrow.Author.Tests.{le-leb, lt-leb, eq-eqb, ne_eqb}
use Rattle.reading.specs.Scan.{scan_optional}
use Rattle.reading.proofs.scan.scan_optional.Goals as goal

pub returns-then-bs-le0 : goal.returns-then-bs-le0
unfolding scan_optional
returns-then-bs-le0 c = c.cut_short.ensures ∙ simp (le-leb _ _ c.if-bs-le0.true)

pub returns-then-b-eq0 : goal.returns-then-b-eq0
unfolding scan_optional
returns-then-b-eq0 c = simp (lt-leb _ _ c.if-bs-le0.false, sym c.byte_at-b.ensures, eq-eqb _ _ c.if-b-eq0.true)

pub returns-then-b-eq1 : goal.returns-then-b-eq1
unfolding scan_optional
returns-then-b-eq1 c =
    c.value_behind.ensures ∙ simp (
      lt-leb _ _ c.if-bs-le0.false,
      sym c.byte_at-b.ensures,
      ne_eqb _ _ c.if-b-eq0.false,
      eq-eqb _ _ c.if-b-eq1.true,
    )

pub returns : goal.returns
unfolding scan_optional
returns c =
    simp (
      lt-leb _ _ c.if-bs-le0.false,
      sym c.byte_at-b.ensures,
      ne_eqb _ _ c.if-b-eq0.false,
      ne_eqb _ _ c.if-b-eq1.false,
    )
