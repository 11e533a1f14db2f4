-- `reading::scan::scan_module` meets its contract: the tests on the second byte are those of `scan_module`.
use mathlib.Core.Path.{sym, ◌∙◌}
use borrow.Author.Tests.{le-leb, lt-leb, eq-eqb, ne_eqb}
use Rattle.reading.specs.Scan.{scan_module}
use Rattle.reading.proofs.scan.scan_module.Goals as goal

pub returns-then-bs-le1 : goal.returns-then-bs-le1
unfolding scan_module
returns-then-bs-le1 c = c.cut_short.ensures ∙ simp (le-leb _ _ c.if-bs-le1.true)

pub returns-then-byte_at-eq17 : goal.returns-then-byte_at-eq17
unfolding scan_module
returns-then-byte_at-eq17 c =
    c.index_behind.ensures ∙ simp (
      lt-leb _ _ c.if-bs-le1.false,
      sym c.byte_at.ensures,
      eq-eqb _ _ c.if-byte_at-eq17.true,
    )

pub returns : goal.returns
unfolding scan_module
returns c = simp (lt-leb _ _ c.if-bs-le1.false, sym c.byte_at.ensures, ne_eqb _ _ c.if-byte_at-eq17.false)
