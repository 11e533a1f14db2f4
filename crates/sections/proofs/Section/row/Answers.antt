-- `Section::row` meets its contract: its tests are those of `rowing`, in order, and a row that is written is taken (`as_wrote`).
-- What it adds lies within the body (`written-fits`).
use borrow.Author.Tests.{lt-ltb, le-ltb, eq-eqb, ne_eqb}
use native.Mathlib.Omega.{arith}
use mathlib.Core.Bool.{true}
use mathlib.Core.Path.{◌≡◌, sym, ◌∙◌}
use lib.ListN.{length}
use Rattle.sections.specs.Section.{sounds}
use Rattle.sections.specs.Steps.{rowing}
use Rattle.sections.proofs.StepLaws.{failed, passed, family-writer, written-fits, as_wrote}
use Rattle.sections.proofs.Section.row.Goals as goal
use Rattle.sections.proofs.Section.row.Goals.{Else-not-sound}

-- past the first test the state is sound
sound-here : (c : Else-not-sound) → let a = c.args in sounds a.self (length a.body.now) ≡ true
sound-here c = passed c.sound.ensures c.if-not-sound.false

pub returns-then-not-sound : goal.returns-then-not-sound
unfolding rowing
returns-then-not-sound c = simp (c.refuse.ensures, failed c.sound.ensures c.if-not-sound.true)

pub returns-then-row-gt-ROW_WORDS : goal.returns-then-row-gt-ROW_WORDS
unfolding rowing
returns-then-row-gt-ROW_WORDS c =
    simp (c.refuse-then-row-gt-ROW_WORDS.ensures, sound-here (goal.at.returns-then-row-gt-ROW_WORDS c).Else-not-sound, lt-ltb _ _ c.if-row-gt-ROW_WORDS.true)

pub returns-then-pool-gt-POOL_BYTES : goal.returns-then-pool-gt-POOL_BYTES
unfolding rowing
returns-then-pool-gt-POOL_BYTES c =
    simp (c.refuse-then-pool-gt-POOL_BYTES.ensures, sound-here (goal.at.returns-then-pool-gt-POOL_BYTES c).Else-not-sound, le-ltb _ _ c.if-row-gt-ROW_WORDS.false, lt-ltb _ _ c.if-pool-gt-POOL_BYTES.true)

pub returns-then-is_open : goal.returns-then-is_open
unfolding rowing
returns-then-is_open c =
    simp (
      c.refuse-then-is_open.ensures,
      sound-here (goal.at.returns-then-is_open c).Else-not-sound,
      le-ltb _ _ c.if-row-gt-ROW_WORDS.false,
      le-ltb _ _ c.if-pool-gt-POOL_BYTES.false,
      sym c.is_open.ensures ∙ c.if-is_open.true,
    )

pub returns-then-count : goal.returns-then-count
unfolding rowing
returns-then-count c =
    simp (
      c.refuse-then-count.ensures,
      sound-here (goal.at.returns-then-count c).Else-not-sound,
      le-ltb _ _ c.if-row-gt-ROW_WORDS.false,
      le-ltb _ _ c.if-pool-gt-POOL_BYTES.false,
      sym c.is_open.ensures ∙ c.if-is_open.false,
      eq-eqb _ _ c.if-count.true,
    )

pub after-requires : goal.after-requires
after-requires c =
    written-fits (family-writer c.args.self _ _ _) c.write_by-answer.ensures (omega arith)

pub returns : goal.returns
unfolding rowing
returns c =
    simp (
      sound-here (goal.at.returns c).Else-not-sound,
      le-ltb _ _ c.if-row-gt-ROW_WORDS.false,
      le-ltb _ _ c.if-pool-gt-POOL_BYTES.false,
      sym c.is_open.ensures ∙ c.if-is_open.false,
      ne_eqb _ _ c.if-count.false,
    )
    (as_wrote _ _ _ c.write_by-answer.ensures c.after.ensures)
