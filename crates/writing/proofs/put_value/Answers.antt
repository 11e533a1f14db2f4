-- `put_value` stores the byte of a primitive type or the index, by the test of `valtype`.
use mathlib.Core.Path.{sym}
use borrow.Author.Tests.{eq-eqb, ne_eqb}
use Rattle.writing.specs.Binary.{valtype}
use borrow.Author.Rules.{rules}
use Rattle.writing.proofs.put_value.Goals as goal

pub returns-then-tag-eq0 : goal.returns-then-tag-eq0
unfolding valtype
returns-then-tag-eq0 c =
    simp (eq-eqb _ _ c.if-tag-eq0.true, sym c.primitive_byte.ensures) c.put_byte.ensures

pub returns : goal.returns
unfolding valtype
returns c = simp (ne_eqb _ _ c.if-tag-eq0.false) (search rules)
