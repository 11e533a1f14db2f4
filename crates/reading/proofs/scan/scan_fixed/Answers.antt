-- `reading::scan::scan_fixed` meets its contract: the tests on the byte are those of `scan` at a fixed byte.
use mathlib.Core.Path.{sym, ◌∙◌}
use borrow.Author.Tests.{le-leb, lt-leb, eq-eqb, ne_eqb}
use Rattle.reading.specs.Scan.{scan}
use Rattle.reading.proofs.scan.scan_fixed.Goals as goal

pub returns-then-bs-le0 : goal.returns-then-bs-le0
unfolding scan
returns-then-bs-le0 c = c.cut_short.ensures ∙ simp (le-leb _ _ c.if-bs-le0.true)

pub returns-then-byte_at-b : goal.returns-then-byte_at-b
unfolding scan
returns-then-byte_at-b c =
    c.asked_at.ensures ∙ simp (
      lt-leb _ _ c.if-bs-le0.false,
      sym c.byte_at.ensures,
      eq-eqb _ _ c.if-byte_at-b.true,
    )

pub returns : goal.returns
unfolding scan
returns c = simp (lt-leb _ _ c.if-bs-le0.false, sym c.byte_at.ensures, ne_eqb _ _ c.if-byte_at-b.false)
