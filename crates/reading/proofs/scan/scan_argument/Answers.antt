-- `reading::scan::scan_argument` meets its contract: the tests on the first byte are those of `scan_argument`.
use mathlib.Core.Path.{sym, ◌∙◌}
use borrow.Author.Tests.{le-leb, lt-leb, eq-eqb, ne_eqb}
use Rattle.reading.specs.Scan.{scan_argument}
use Rattle.reading.proofs.scan.scan_argument.Goals as goal

pub returns-then-bs-le0 : goal.returns-then-bs-le0
unfolding scan_argument
returns-then-bs-le0 c = c.cut_short.ensures ∙ simp (le-leb _ _ c.if-bs-le0.true)

pub returns-then-byte_at-eq18 : goal.returns-then-byte_at-eq18
unfolding scan_argument
returns-then-byte_at-eq18 c =
    c.index_behind.ensures ∙ simp (
      lt-leb _ _ c.if-bs-le0.false,
      sym c.byte_at.ensures,
      eq-eqb _ _ c.if-byte_at-eq18.true,
    )

pub returns : goal.returns
unfolding scan_argument
returns c = simp (lt-leb _ _ c.if-bs-le0.false, sym c.byte_at.ensures, ne_eqb _ _ c.if-byte_at-eq18.false)
