-- `reading::scan::scan_choice` meets its contract: the tests on the option are those of `scan_choice`.
use mathlib.Core.Path.{sym, ◌∙◌}
use borrow.Author.Tests.{le-leb, lt-leb, lt-ltb, le-ltb}
use Rattle.reading.specs.Scan.{scan_choice}
use Rattle.reading.proofs.scan.scan_choice.Goals as goal

pub returns-then-bs-le0 : goal.returns-then-bs-le0
unfolding scan_choice
returns-then-bs-le0 c = c.cut_short.ensures ∙ simp (le-leb _ _ c.if-bs-le0.true)

pub returns-then-k-lt10 : goal.returns-then-k-lt10
unfolding scan_choice
returns-then-k-lt10 c =
    c.asked_at.ensures ∙ simp (
      lt-leb _ _ c.if-bs-le0.false,
      sym c.byte_at-k.ensures,
      lt-ltb _ _ c.if-k-lt10.true,
      sym c.grade_of.ensures,
      sym c.choose.ensures,
    )

pub returns : goal.returns
unfolding scan_choice
returns c = simp (lt-leb _ _ c.if-bs-le0.false, sym c.byte_at-k.ensures, le-ltb _ _ c.if-k-lt10.false)
