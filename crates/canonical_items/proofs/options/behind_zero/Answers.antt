-- `behind_zero` meets its contract: the tests are those of `has_zero`.
use borrow.Author.Tests.{lt-leb, le-leb, eq-eqb, ne_eqb}
use Rattle.canonical_items.specs.inside.Begun.{has_zero, behind_zero}
use Rattle.canonical_items.proofs.options.behind_zero.Goals as goal

pub returns-then-input-eq0 : goal.returns-then-input-eq0
unfolding behind_zero has_zero
returns-then-input-eq0 c = simp (lt-leb _ _ c.if-input-gt1.true, eq-eqb _ _ c.if-input-eq0.true)

pub returns-else-input-eq0 : goal.returns-else-input-eq0
unfolding behind_zero has_zero
returns-else-input-eq0 c = simp (lt-leb _ _ c.if-input-gt1.true, ne_eqb _ _ c.if-input-eq0.false)

pub returns-else-input-gt1 : goal.returns-else-input-gt1
unfolding behind_zero has_zero
returns-else-input-gt1 c = simp (le-leb _ _ c.if-input-gt1.false)
