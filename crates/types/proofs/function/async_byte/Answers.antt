-- `async_byte` meets its contract: 40 where the word is 0, else 43.
use borrow.Author.Tests.{eq-eqb, ne_eqb}
use Rattle.writing.specs.Binary.{functype}
use Rattle.types.proofs.function.async_byte.Goals as goal

pub returns-then-a-eq0 : goal.returns-then-a-eq0
unfolding functype
returns-then-a-eq0 c = simp (eq-eqb _ _ c.if-a-eq0.true)

pub returns-else-a-eq0 : goal.returns-else-a-eq0
unfolding functype
returns-else-a-eq0 c = simp (ne_eqb _ _ c.if-a-eq0.false)
