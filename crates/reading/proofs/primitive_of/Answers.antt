-- `reading::primitive_of` meets its contract: the first test is that of `primitive`, and nothing remains of 7f behind a byte that is
-- not below it.
use native.Mathlib.Omega.{arith}
use borrow.Author.Tests.{eq-eqb, ne_eqb}
use Rattle.reading.specs.Fill.{primitive}
use Rattle.reading.proofs.primitive_of.Goals as goal

pub returns-then-b-eq100 : goal.returns-then-b-eq100
unfolding primitive
returns-then-b-eq100 c = simp (eq-eqb _ _ c.if-b-eq100.true)

pub returns-then-b-lt127 : goal.returns-then-b-lt127
unfolding primitive
returns-then-b-lt127 c = simp (ne_eqb _ _ c.if-b-eq100.false)

pub returns : goal.returns
unfolding primitive
returns c = rw (ne_eqb _ _ c.if-b-eq100.false) (omega (arith, c.if-b-lt127.false))
