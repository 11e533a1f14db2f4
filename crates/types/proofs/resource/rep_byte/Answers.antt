-- `rep_byte` meets its contract: its test is that of `representation`.
use borrow.Author.Tests.{eq-eqb, ne_eqb}
use Rattle.writing.specs.Binary.{representation}
use Rattle.types.proofs.resource.rep_byte.Goals as goal

pub returns-then-x-eq0 : goal.returns-then-x-eq0
unfolding representation
returns-then-x-eq0 c = simp (eq-eqb _ _ c.if-x-eq0.true)

pub returns-else-x-eq0 : goal.returns-else-x-eq0
unfolding representation
returns-else-x-eq0 c = simp (ne_eqb _ _ c.if-x-eq0.false)
