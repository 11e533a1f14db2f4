-- `primitive_byte` makes the byte of a primitive type by the tests of `primvaltype`; past 0x7f a difference stops at 0.
use native.Mathlib.Omega.{arith}
use borrow.Author.Tests.{eq-eqb, ne_eqb}
use Rattle.writing.specs.Binary.{primvaltype}
use Rattle.writing.proofs.primitive_byte.Goals as goal

pub returns-then-p-eq13 : goal.returns-then-p-eq13
unfolding primvaltype
returns-then-p-eq13 c = simp (eq-eqb _ _ c.if-p-eq13.true)

pub returns-then-p-lt127 : goal.returns-then-p-lt127
unfolding primvaltype
returns-then-p-lt127 c = simp (ne_eqb _ _ c.if-p-eq13.false)

pub returns : goal.returns
unfolding primvaltype
returns c = simp (ne_eqb _ _ c.if-p-eq13.false) (omega arith)
