-- `Section::head` meets its contract: its tests are those of `heading`, in order, and a function that is open without a head takes
-- what is written (`as_wrote`), within the body (`written-fits`).
use borrow.Author.Tests.{lt-ltb, le-ltb}
use native.Mathlib.Omega.{arith}
use mathlib.Core.Bool.{true}
use mathlib.Core.Path.{◌≡◌}
use lib.ListN.{length}
use Rattle.sections.specs.Section.{sounds}
use Rattle.sections.specs.Steps.{heading}
use Rattle.sections.proofs.StepLaws.{failed, passed, shape_writer, written-fits, as_wrote}
use Rattle.sections.proofs.Section.head.Goals as goal
use Rattle.sections.proofs.Section.head.Goals.{Else-not-sound}

-- past the first test the state is sound
sound-here : (c : Else-not-sound) → let a = c.args in sounds a.self (length a.body.now) ≡ true
sound-here c = passed c.sound.ensures c.if-not-sound.false

pub returns-then-not-sound : goal.returns-then-not-sound
unfolding heading
returns-then-not-sound c = simp (c.refuse.ensures, failed c.sound.ensures c.if-not-sound.true)

pub returns-then-words-gt-ROW_WORDS : goal.returns-then-words-gt-ROW_WORDS
unfolding heading
returns-then-words-gt-ROW_WORDS c =
    simp (c.refuse-then-words-gt-ROW_WORDS.ensures, sound-here (goal.at.returns-then-words-gt-ROW_WORDS c).Else-not-sound, lt-ltb _ _ c.if-words-gt-ROW_WORDS.true)

pub returns-then-pool-gt-POOL_BYTES : goal.returns-then-pool-gt-POOL_BYTES
unfolding heading
returns-then-pool-gt-POOL_BYTES c =
    simp (c.refuse-then-pool-gt-POOL_BYTES.ensures, sound-here (goal.at.returns-then-pool-gt-POOL_BYTES c).Else-not-sound, le-ltb _ _ c.if-words-gt-ROW_WORDS.false, lt-ltb _ _ c.if-pool-gt-POOL_BYTES.true)

pub after-requires : goal.after-requires
after-requires c =
    written-fits (shape_writer c.args.self _ _ _ _ _) c.write_head-answer.ensures (omega arith)

pub returns-in-Opened : goal.returns-in-Opened
unfolding heading
returns-in-Opened c =
    simp (sound-here (goal.at.returns-in-Opened c).Else-not-sound, le-ltb _ _ c.if-words-gt-ROW_WORDS.false, le-ltb _ _ c.if-pool-gt-POOL_BYTES.false, c.in-Opened.is)
    (as_wrote _ _ _ c.write_head-answer.ensures c.after.ensures)

pub returns-in-Closed : goal.returns-in-Closed
unfolding heading
returns-in-Closed c =
    simp (
      c.refuse-in-Closed.ensures,
      sound-here (goal.at.returns-in-Closed c).Else-not-sound,
      le-ltb _ _ c.if-words-gt-ROW_WORDS.false,
      le-ltb _ _ c.if-pool-gt-POOL_BYTES.false,
      c.in-Closed.is,
    )

pub returns-in-Headed : goal.returns-in-Headed
unfolding heading
returns-in-Headed c =
    simp (
      c.refuse-in-Headed.ensures,
      sound-here (goal.at.returns-in-Headed c).Else-not-sound,
      le-ltb _ _ c.if-words-gt-ROW_WORDS.false,
      le-ltb _ _ c.if-pool-gt-POOL_BYTES.false,
      c.in-Headed.is,
    )
