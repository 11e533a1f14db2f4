-- `reading::is_primitive` meets its contract: the tests are those of `is_primitive`.
use borrow.Author.Tests.{eq-eqb, ne_eqb, lt-ltb, le-ltb}
use Rattle.reading.specs.inside.Steps.{is_primitive}
use Rattle.reading.proofs.is_primitive.Goals as goal

pub returns-then-b-eq100 : goal.returns-then-b-eq100
unfolding is_primitive
returns-then-b-eq100 c = simp (eq-eqb _ _ c.if-b-eq100.true, c.grade_of.ensures)

pub returns-then-b-lt115 : goal.returns-then-b-lt115
unfolding is_primitive
returns-then-b-lt115 c = simp (ne_eqb _ _ c.if-b-eq100.false, lt-ltb _ _ c.if-b-lt115.true)

pub returns : goal.returns
unfolding is_primitive
returns c = simp (ne_eqb _ _ c.if-b-eq100.false, le-ltb _ _ c.if-b-lt115.false)
