-- `Section::abandon` meets its contract: an open entry of a sound state is counted (`count_positive`), so it can be taken back.
use mathlib.Core.Bool.{true}
use mathlib.Core.Path.{◌≡◌, ap}
use lib.ListN.{length}
use Rattle.sections.specs.Section.{opened, sounds}
use Rattle.sections.specs.Steps.{abandoning}
use Rattle.sections.proofs.StepLaws.{failed, passed, count_positive}
use Rattle.sections.proofs.Section.abandon.Goals as goal
use Rattle.sections.proofs.Section.abandon.Goals.{Else-not-sound}

-- past the first test the state is sound
sound-here : (c : Else-not-sound) → let a = c.args in sounds a.self (length a.body.now) ≡ true
sound-here c = passed c.sound.ensures c.if-not-sound.false

pub returns-then-not-sound : goal.returns-then-not-sound
unfolding abandoning
returns-then-not-sound c = simp (c.refuse.ensures, failed c.sound.ensures c.if-not-sound.true)

pub back_to-requires : goal.back_to-requires
back_to-requires c = count_positive _ _ (sound-here (goal.at.back_to-requires c).Else-not-sound) (ap opened c.in-Opened.is)

pub back_to-requires-in-Headed : goal.back_to-requires-in-Headed
back_to-requires-in-Headed c = count_positive _ _ (sound-here (goal.at.back_to-requires-in-Headed c).Else-not-sound) (ap opened c.in-Headed.is)

pub returns-in-Opened : goal.returns-in-Opened
unfolding abandoning
returns-in-Opened c =
    simp (c.back_to.ensures, sound-here (goal.at.returns-in-Opened c).Else-not-sound, c.in-Opened.is)

pub returns-in-Headed : goal.returns-in-Headed
unfolding abandoning
returns-in-Headed c =
    simp (c.back_to-in-Headed.ensures, sound-here (goal.at.returns-in-Headed c).Else-not-sound, c.in-Headed.is)

pub returns-in-Closed : goal.returns-in-Closed
unfolding abandoning
returns-in-Closed c = simp (c.refuse-in-Closed.ensures, sound-here (goal.at.returns-in-Closed c).Else-not-sound, c.in-Closed.is)
