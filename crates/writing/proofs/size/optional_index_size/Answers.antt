-- The first word says whether the index is there.
use native.Mathlib.Omega.{arith}
use mathlib.Core.Path.{sym}
use borrow.Author.Tests.{eq-eqb, ne_eqb}
use Rattle.writing.specs.inside.Size.{size}
use Rattle.writing.proofs.size.optional_index_size.Goals as goal

pub returns-then-word_at-eq0 : goal.returns-then-word_at-eq0
unfolding size
returns-then-word_at-eq0 c = (simp (sym c.word_at.ensures, eq-eqb _ _ c.if-word_at-eq0.true), omega arith)

pub returns : goal.returns
unfolding size
returns c = (simp (sym c.word_at.ensures, ne_eqb _ _ c.if-word_at-eq0.false, c.index_size.ensures.0), omega arith)
