-- `reading::is_within` meets its contract: the tests are those of `within`.
use borrow.Author.Tests.{lt-ltb, le-ltb}
use Rattle.reading.specs.Seen.{within}
use Rattle.reading.proofs.is_within.Goals as goal

pub returns-then-input-gt-INPUT_BYTES : goal.returns-then-input-gt-INPUT_BYTES
unfolding within
returns-then-input-gt-INPUT_BYTES c = simp (lt-ltb _ _ c.if-input-gt-INPUT_BYTES.true)

pub returns-then-grade-lt1 : goal.returns-then-grade-lt1
unfolding within
returns-then-grade-lt1 c = simp (le-ltb _ _ c.if-input-gt-INPUT_BYTES.false, lt-ltb _ _ c.if-grade-lt1.true)

pub returns-then-grade-gt3 : goal.returns-then-grade-gt3
unfolding within
returns-then-grade-gt3 c = simp (le-ltb _ _ c.if-input-gt-INPUT_BYTES.false, le-ltb _ _ c.if-grade-lt1.false, lt-ltb _ _ c.if-grade-gt3.true)

pub returns-then-grade-lead : goal.returns-then-grade-lead
unfolding within
returns-then-grade-lead c =
    simp (
      le-ltb _ _ c.if-input-gt-INPUT_BYTES.false,
      le-ltb _ _ c.if-grade-lt1.false,
      le-ltb _ _ c.if-grade-gt3.false,
      lt-ltb _ _ c.if-grade-lead.true,
    )

pub returns : goal.returns
unfolding within
returns c =
    simp (
      le-ltb _ _ c.if-input-gt-INPUT_BYTES.false,
      le-ltb _ _ c.if-grade-lt1.false,
      le-ltb _ _ c.if-grade-gt3.false,
      le-ltb _ _ c.if-grade-lead.false,
    )
