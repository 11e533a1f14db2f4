-- `reading::item::item_refusal` meets its contract: its tests are those of `scanned_item`, in their order, and past them an item is what
-- its shape says (`scanned-item`).
use mathlib.Core.Path.{◌≡◌, ◌∙◌}
use borrow.Author.Tests.{lt-ltb, le-ltb, eq-eqb}
use Rattle.fields.proofs.OutcomeLaws.{passed-on}
use Rattle.reading.specs.Read.{scanned_found, scanned_item}
use Rattle.reading.proofs.ScannedLaws.{scanned-item}
use Rattle.reading.proofs.item.item_refusal.Goals as goal
use Rattle.reading.proofs.item.item_refusal.Goals.{Else-input-eq0}

-- past the tests
passed : (k : Else-input-eq0)
    → let a = k.args in
    scanned_item a.found a.lead a.grade a.input.now ≡ scanned_found a.found a.lead a.grade a.input.now
passed k =
    let a = k.args in
    scanned-item a.found a.lead a.grade a.input.now k.if-input-gt-INPUT_BYTES.false k.if-grade-lt1.false
    k.if-grade-gt3.false k.if-input-eq0.false

pub returns-then-input-gt-INPUT_BYTES : goal.returns-then-input-gt-INPUT_BYTES
unfolding scanned_item
returns-then-input-gt-INPUT_BYTES c = simp (lt-ltb _ _ c.if-input-gt-INPUT_BYTES.true)

pub returns-then-grade-lt1 : goal.returns-then-grade-lt1
unfolding scanned_item
returns-then-grade-lt1 c = simp (le-ltb _ _ c.if-input-gt-INPUT_BYTES.false, lt-ltb _ _ c.if-grade-lt1.true)

pub returns-then-grade-gt3 : goal.returns-then-grade-gt3
unfolding scanned_item
returns-then-grade-gt3 c = simp (le-ltb _ _ c.if-input-gt-INPUT_BYTES.false, le-ltb _ _ c.if-grade-lt1.false, lt-ltb _ _ c.if-grade-gt3.true)

pub returns-then-input-eq0 : goal.returns-then-input-eq0
unfolding scanned_item
returns-then-input-eq0 c =
    simp (
      le-ltb _ _ c.if-input-gt-INPUT_BYTES.false,
      le-ltb _ _ c.if-grade-lt1.false,
      le-ltb _ _ c.if-grade-gt3.false,
      eq-eqb _ _ c.if-input-eq0.true,
    )

pub returns-in_ok-whole-in-Some : goal.returns-in_ok-whole-in-Some
returns-in_ok-whole-in-Some c =
    rw (passed (goal.at.returns-in_ok-whole-in-Some c).Else-input-eq0, c.in-Some.is, ← c.scan_shape.ensures, c.in_ok-whole-in-Some.was)

pub returns-in_err-whole-in-Some : goal.returns-in_err-whole-in-Some
returns-in_err-whole-in-Some c =
    passed-on _ c.from_residual.ensures
    ∙ rw (passed (goal.at.returns-in_err-whole-in-Some c).Else-input-eq0, c.in-Some.is, ← c.scan_shape.ensures, c.in_err-whole-in-Some.was)

pub returns-in-None : goal.returns-in-None
returns-in-None c = rw (passed (goal.at.returns-in-None c).Else-input-eq0, c.in-None.is)
