-- `Section::holds` meets its contract: its tests are those of `holds_at`.
use borrow.Author.Tests.{eq-eqb, ne_eqb, le-leb, lt-leb}
use Rattle.sections.specs.Section.{holds_at}
use Rattle.sections.proofs.Section.holds.Goals as goal

pub returns-then-start-used : goal.returns-then-start-used
unfolding holds_at
returns-then-start-used c = simp (eq-eqb _ _ c.if-family-eq7.true, le-leb _ _ c.if-start-used.true)

pub returns-then-family-eq7 : goal.returns-then-family-eq7
unfolding holds_at
returns-then-family-eq7 c = simp (eq-eqb _ _ c.if-family-eq7.true, lt-leb _ _ c.if-start-used.false)

pub returns : goal.returns
unfolding holds_at
returns c = simp (ne_eqb _ _ c.if-family-eq7.false)
