-- `Section::sound` meets its contract: the used part is compared with the length, and then the phase decides, as in `sounds`.
use borrow.Author.Tests.{lt-ltb, le-ltb}
use Rattle.sections.specs.Section.{sounds}
use Rattle.sections.proofs.Section.sound.Goals as goal

pub returns-then-n-used : goal.returns-then-n-used
unfolding sounds
returns-then-n-used c = simp (lt-ltb _ _ c.if-n-used.true)

pub returns-in-Closed : goal.returns-in-Closed
unfolding sounds
returns-in-Closed c =
    simp (le-ltb _ _ c.if-n-used.false, c.in-Closed.is) c.is_known.ensures

pub returns-in-Opened : goal.returns-in-Opened
unfolding sounds
returns-in-Opened c =
    simp (le-ltb _ _ c.if-n-used.false, c.in-Opened.is) c.holds.ensures

pub returns-in-Headed : goal.returns-in-Headed
unfolding sounds
returns-in-Headed c =
    simp (le-ltb _ _ c.if-n-used.false, c.in-Headed.is) c.holds-in-Headed.ensures
