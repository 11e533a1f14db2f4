-- `Section::result` meets its contract: a function with a head takes the result that is written (`as_wrote`), within the body
-- (`written-fits`), and any other phase is refused.
use native.Mathlib.Omega.{arith}
use mathlib.Core.Bool.{true}
use mathlib.Core.Path.{◌≡◌}
use lib.ListN.{length}
use Rattle.sections.specs.Section.{sounds}
use Rattle.sections.specs.Steps.{resulting}
use Rattle.sections.proofs.StepLaws.{failed, passed, shape_writer, written-fits, as_wrote}
use Rattle.sections.proofs.Section.result.Goals as goal
use Rattle.sections.proofs.Section.result.Goals.{Else-not-sound}

-- past the first test the state is sound
sound-here : (c : Else-not-sound) → let a = c.args in sounds a.self (length a.body.now) ≡ true
sound-here c = passed c.sound.ensures c.if-not-sound.false

pub returns-then-not-sound : goal.returns-then-not-sound
unfolding resulting
returns-then-not-sound c = simp (c.refuse.ensures, failed c.sound.ensures c.if-not-sound.true)

pub after-requires : goal.after-requires
after-requires c =
    written-fits (shape_writer c.args.self _ _ _ _ _) c.write_result-answer.ensures (omega arith)

pub returns-in-Headed : goal.returns-in-Headed
unfolding resulting
returns-in-Headed c =
    simp (sound-here (goal.at.returns-in-Headed c).Else-not-sound, c.in-Headed.is)
    (as_wrote _ _ _ c.write_result-answer.ensures c.after.ensures)

pub returns-in-Closed : goal.returns-in-Closed
unfolding resulting
returns-in-Closed c = simp (c.refuse-in-Closed.ensures, sound-here (goal.at.returns-in-Closed c).Else-not-sound, c.in-Closed.is)

pub returns-in-Opened : goal.returns-in-Opened
unfolding resulting
returns-in-Opened c = simp (c.refuse-in-Opened.ensures, sound-here (goal.at.returns-in-Opened c).Else-not-sound, c.in-Opened.is)
