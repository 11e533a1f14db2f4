-- `reading::has_room` meets its contract: the tests are those of `roomy`.
use borrow.Author.Tests.{lt-ltb, le-ltb}
use Rattle.reading.specs.Seen.{roomy}
use Rattle.reading.proofs.has_room.Goals as goal

pub returns-then-words-gt-ROW_WORDS : goal.returns-then-words-gt-ROW_WORDS
unfolding roomy
returns-then-words-gt-ROW_WORDS c = simp (lt-ltb _ _ c.if-words-gt-ROW_WORDS.true)

pub returns : goal.returns
unfolding roomy
returns c = simp (le-ltb _ _ c.if-words-gt-ROW_WORDS.false)
