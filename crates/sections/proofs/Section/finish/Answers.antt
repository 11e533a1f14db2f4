-- `Section::finish` meets its contract: its tests are those of `finishing`, and a sound state has its used part inside the body
-- (`used_le`) and a byte for its family (`family-small`).
use mathlib.Core.Bool.{true}
use mathlib.Core.Path.{◌≡◌, sym, ◌∙◌}
use lib.ListN.{length}
use lib.Seq.{length-take-le}
use Rattle.sections.specs.Section.{sounds}
use Rattle.sections.specs.Finish.{finishing}
use Rattle.sections.proofs.StepLaws.{failed, passed, used_le, family-small}
use Rattle.sections.proofs.Section.finish.Goals as goal
use Rattle.sections.proofs.Section.finish.Goals.{Else-not-sound}

-- past the first test the state is sound
sound-here : (c : Else-not-sound) → let a = c.args in sounds a.self (length a.body.now) ≡ true
sound-here c = passed c.sound.ensures c.if-not-sound.false

pub returns-then-not-sound : goal.returns-then-not-sound
unfolding finishing
returns-then-not-sound c = simp (failed c.sound.ensures c.if-not-sound.true)

pub returns-then-is_open : goal.returns-then-is_open
unfolding finishing
returns-then-is_open c = simp (sound-here (goal.at.returns-then-is_open c).Else-not-sound, sym c.is_open.ensures ∙ c.if-is_open.true)

pub slice_bounds-frame-end : goal.slice_bounds-frame-end
slice_bounds-frame-end c = sym (length-take-le _ _ (used_le _ _ (sound-here (goal.at.slice_bounds-frame-end c).Else-not-sound)))

pub frame-requires : goal.frame-requires
frame-requires c = family-small _ _ (sound-here (goal.at.frame-requires c).Else-not-sound)

pub returns : goal.returns
unfolding finishing
returns c =
    simp (sound-here (goal.at.returns c).Else-not-sound, sym c.is_open.ensures ∙ c.if-is_open.false) c.frame.ensures
