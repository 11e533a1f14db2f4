-- `reading::scan::scan_reference` meets its contract: the tests on the sort are those of `scan_reference`.
use mathlib.Core.Path.{sym, ◌∙◌}
use borrow.Author.Tests.{le-leb, lt-leb, eq-eqb, ne_eqb, lt-ltb, le-ltb}
use Rattle.reading.specs.Scan.{scan_reference}
use Rattle.reading.proofs.scan.scan_reference.Goals as goal

pub returns-then-bs-le0 : goal.returns-then-bs-le0
unfolding scan_reference
returns-then-bs-le0 c = c.cut_short.ensures ∙ simp (le-leb _ _ c.if-bs-le0.true)

pub returns-then-sort-eq0 : goal.returns-then-sort-eq0
unfolding scan_reference
returns-then-sort-eq0 c =
    c.scan_module.ensures ∙ simp (
      lt-leb _ _ c.if-bs-le0.false,
      sym c.byte_at-sort.ensures,
      eq-eqb _ _ c.if-sort-eq0.true,
    )

pub returns-then-sort-eq2 : goal.returns-then-sort-eq2
unfolding scan_reference
returns-then-sort-eq2 c =
    c.scan_value_reference.ensures ∙ simp (
      lt-leb _ _ c.if-bs-le0.false,
      sym c.byte_at-sort.ensures,
      ne_eqb _ _ c.if-sort-eq0.false,
      eq-eqb _ _ c.if-sort-eq2.true,
    )

pub returns-then-sort-eq3 : goal.returns-then-sort-eq3
unfolding scan_reference
returns-then-sort-eq3 c =
    c.scan_bound.ensures ∙ simp (
      lt-leb _ _ c.if-bs-le0.false,
      sym c.byte_at-sort.ensures,
      ne_eqb _ _ c.if-sort-eq0.false,
      ne_eqb _ _ c.if-sort-eq2.false,
      eq-eqb _ _ c.if-sort-eq3.true,
    )

pub returns-then-sort-lt6 : goal.returns-then-sort-lt6
unfolding scan_reference
returns-then-sort-lt6 c =
    c.index_behind.ensures ∙ simp (
      lt-leb _ _ c.if-bs-le0.false,
      sym c.byte_at-sort.ensures,
      ne_eqb _ _ c.if-sort-eq0.false,
      ne_eqb _ _ c.if-sort-eq2.false,
      ne_eqb _ _ c.if-sort-eq3.false,
      lt-ltb _ _ c.if-sort-lt6.true,
    )

pub returns : goal.returns
unfolding scan_reference
returns c =
    simp (
      lt-leb _ _ c.if-bs-le0.false,
      sym c.byte_at-sort.ensures,
      ne_eqb _ _ c.if-sort-eq0.false,
      ne_eqb _ _ c.if-sort-eq2.false,
      ne_eqb _ _ c.if-sort-eq3.false,
      le-ltb _ _ c.if-sort-lt6.false,
    )
