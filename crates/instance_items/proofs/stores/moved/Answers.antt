-- `moved` meets its contract: its test is that of `moved_start`.
use borrow.Author.Tests.{eq-eqb, ne_eqb}
use Rattle.instance_items.specs.inside.Extern.{moved_start}
use Rattle.instance_items.proofs.stores.moved.Goals as goal

pub returns-then-s-eq0 : goal.returns-then-s-eq0
unfolding moved_start
returns-then-s-eq0 c = simp (eq-eqb _ _ c.if-s-eq0.true)

pub returns : goal.returns
unfolding moved_start
returns c = simp (ne_eqb _ _ c.if-s-eq0.false)
