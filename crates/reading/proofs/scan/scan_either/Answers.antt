-- `reading::scan::scan_either` meets its contract: the tests on the byte are those of `scan_either`.
use mathlib.Core.Path.{sym, ◌∙◌}
use borrow.Author.Tests.{le-leb, lt-leb, eq-eqb, ne_eqb}
use Rattle.reading.specs.Scan.{scan_either}
use Rattle.reading.proofs.scan.scan_either.Goals as goal

pub returns-then-bs-le0 : goal.returns-then-bs-le0
unfolding scan_either
returns-then-bs-le0 c = c.cut_short.ensures ∙ simp (le-leb _ _ c.if-bs-le0.true)

pub returns-then-c-a : goal.returns-then-c-a
unfolding scan_either
returns-then-c-a c = simp (lt-leb _ _ c.if-bs-le0.false, sym c.byte_at-c.ensures, eq-eqb _ _ c.if-c-a.true)

pub returns-then-c-b : goal.returns-then-c-b
unfolding scan_either
returns-then-c-b c =
    c.asked_at.ensures ∙ simp (
      lt-leb _ _ c.if-bs-le0.false,
      sym c.byte_at-c.ensures,
      ne_eqb _ _ c.if-c-a.false,
      eq-eqb _ _ c.if-c-b.true,
    )

pub returns : goal.returns
unfolding scan_either
returns c =
    simp (
      lt-leb _ _ c.if-bs-le0.false,
      sym c.byte_at-c.ensures,
      ne_eqb _ _ c.if-c-a.false,
      ne_eqb _ _ c.if-c-b.false,
    )
