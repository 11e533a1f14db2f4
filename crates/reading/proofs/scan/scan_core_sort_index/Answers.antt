-- `reading::scan::scan_core_sort_index` meets its contract: the tests on the first byte are those of `scan_core_sort_index`.
use mathlib.Core.Path.{sym, ◌∙◌}
use borrow.Author.Tests.{le-leb, lt-leb, lt-ltb, le-ltb}
use Rattle.reading.specs.Scan.{scan_core_sort_index}
use Rattle.reading.proofs.scan.scan_core_sort_index.Goals as goal

pub returns-then-bs-le0 : goal.returns-then-bs-le0
unfolding scan_core_sort_index
returns-then-bs-le0 c = c.cut_short.ensures ∙ simp (le-leb _ _ c.if-bs-le0.true)

pub returns-then-byte_at-lt5 : goal.returns-then-byte_at-lt5
unfolding scan_core_sort_index
returns-then-byte_at-lt5 c =
    c.index_behind.ensures ∙ simp (
      lt-leb _ _ c.if-bs-le0.false,
      sym c.byte_at.ensures,
      lt-ltb _ _ c.if-byte_at-lt5.true,
    )

pub returns : goal.returns
unfolding scan_core_sort_index
returns c = simp (lt-leb _ _ c.if-bs-le0.false, sym c.byte_at.ensures, le-ltb _ _ c.if-byte_at-lt5.false)
