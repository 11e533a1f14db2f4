-- `reading::scan::scan_optional_index` meets its contract: the tests on the first byte are those of `scan_optional_index`.
use mathlib.Core.Path.{sym, ◌∙◌}
use borrow.Author.Tests.{le-leb, lt-leb, eq-eqb, ne_eqb}
use Rattle.reading.specs.Scan.{scan_optional_index}
use Rattle.reading.proofs.scan.scan_optional_index.Goals as goal

pub returns-then-bs-le0 : goal.returns-then-bs-le0
unfolding scan_optional_index
returns-then-bs-le0 c = c.cut_short.ensures ∙ simp (le-leb _ _ c.if-bs-le0.true)

pub returns-then-b-eq0 : goal.returns-then-b-eq0
unfolding scan_optional_index
returns-then-b-eq0 c = simp (lt-leb _ _ c.if-bs-le0.false, sym c.byte_at-b.ensures, eq-eqb _ _ c.if-b-eq0.true)

pub returns-then-b-eq1 : goal.returns-then-b-eq1
unfolding scan_optional_index
returns-then-b-eq1 c =
    c.index_behind.ensures ∙ simp (
      lt-leb _ _ c.if-bs-le0.false,
      sym c.byte_at-b.ensures,
      ne_eqb _ _ c.if-b-eq0.false,
      eq-eqb _ _ c.if-b-eq1.true,
    )

pub returns : goal.returns
unfolding scan_optional_index
returns c =
    simp (
      lt-leb _ _ c.if-bs-le0.false,
      sym c.byte_at-b.ensures,
      ne_eqb _ _ c.if-b-eq0.false,
      ne_eqb _ _ c.if-b-eq1.false,
    )
