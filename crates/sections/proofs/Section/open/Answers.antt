-- `Section::open` meets its contract: its tests are those of `opening`, in order.
use borrow.Author.Tests.{eq-eqb, ne_eqb}
use mathlib.Core.Bool.{true}
use mathlib.Core.Path.{◌≡◌, sym, ◌∙◌}
use lib.ListN.{length}
use Rattle.sections.specs.Section.{sounds}
use Rattle.sections.specs.Steps.{opening}
use Rattle.sections.proofs.StepLaws.{failed, passed}
use Rattle.sections.proofs.Section.open.Goals as goal
use Rattle.sections.proofs.Section.open.Goals.{Else-not-sound}

-- past the first test the state is sound
sound-here : (c : Else-not-sound) → let a = c.args in sounds a.self (length a.body.now) ≡ true
sound-here c = passed c.sound.ensures c.if-not-sound.false

pub returns-then-not-sound : goal.returns-then-not-sound
unfolding opening
returns-then-not-sound c = simp (c.refuse.ensures, failed c.sound.ensures c.if-not-sound.true)

pub returns-then-is_open : goal.returns-then-is_open
unfolding opening
returns-then-is_open c =
    simp (c.refuse-then-is_open.ensures, sound-here (goal.at.returns-then-is_open c).Else-not-sound, sym c.is_open.ensures ∙ c.if-is_open.true)

pub returns-then-count : goal.returns-then-count
unfolding opening
returns-then-count c =
    simp (
      c.refuse-then-count.ensures,
      sound-here (goal.at.returns-then-count c).Else-not-sound,
      sym c.is_open.ensures ∙ c.if-is_open.false,
      eq-eqb _ _ c.if-count.true,
    )

pub returns-then-family-eq7 : goal.returns-then-family-eq7
unfolding opening
returns-then-family-eq7 c =
    simp (
      c.after.ensures,
      sound-here (goal.at.returns-then-family-eq7 c).Else-not-sound,
      sym c.is_open.ensures ∙ c.if-is_open.false,
      ne_eqb _ _ c.if-count.false,
      eq-eqb _ _ c.if-family-eq7.true,
    )

pub returns : goal.returns
unfolding opening
returns c =
    simp (
      c.refuse-2.ensures,
      sound-here (goal.at.returns c).Else-not-sound,
      sym c.is_open.ensures ∙ c.if-is_open.false,
      ne_eqb _ _ c.if-count.false,
      ne_eqb _ _ c.if-family-eq7.false,
    )
