-- `reading::scan::slot_scan` meets its contract: the tests are those of `slot_scan`.
use mathlib.Core.Path.{sym, ◌∙◌}
use borrow.Author.Tests.{le-leb, lt-leb, eq-eqb, ne_eqb}
use Rattle.reading.specs.Scan.{slot_scan}
use Rattle.reading.proofs.scan.slot_scan.Goals as goal

pub returns-then-due-eq0 : goal.returns-then-due-eq0
unfolding slot_scan
returns-then-due-eq0 c = simp (eq-eqb _ _ c.if-due-eq0.true)

pub returns-then-bs-at : goal.returns-then-bs-at
unfolding slot_scan
returns-then-bs-at c = c.cut_short.ensures ∙ simp (ne_eqb _ _ c.if-due-eq0.false, le-leb _ _ c.if-bs-at.true)

pub returns-then-byte_at-k : goal.returns-then-byte_at-k
unfolding slot_scan
returns-then-byte_at-k c =
    c.string_at.ensures ∙ simp (
      ne_eqb _ _ c.if-due-eq0.false,
      lt-leb _ _ c.if-bs-at.false,
      sym c.byte_at.ensures,
      eq-eqb _ _ c.if-byte_at-k.true,
    )

pub returns : goal.returns
unfolding slot_scan
returns c =
    simp (
      ne_eqb _ _ c.if-due-eq0.false,
      lt-leb _ _ c.if-bs-at.false,
      sym c.byte_at.ensures,
      ne_eqb _ _ c.if-byte_at-k.false,
    )
