-- The tag read at i picks one byte or the bytes of an s33, which `size_bounds` keeps at most five.
use native.Mathlib.Omega.{arith}
use mathlib.Core.Path.{sym}
use borrow.Author.Tests.{eq-eqb, ne_eqb}
use Rattle.numbers.proofs.LebLaws.{size_bounds}
use Rattle.writing.proofs.size.value_size.Goals as goal

pub returns-then-word_at-eq0 : goal.returns-then-word_at-eq0
returns-then-word_at-eq0 c = (simp (sym c.word_at.ensures, eq-eqb _ _ c.if-word_at-eq0.true), omega arith)

pub returns : goal.returns
returns c = (
  simp (
    sym c.word_at.ensures,
    ne_eqb _ _ c.if-word_at-eq0.false,
    c.signed_size.ensures,
    c.word_at-2.ensures,
  ),
  omega (arith, c.signed_size.ensures, size_bounds 64 c.word_at-2.result),
)
