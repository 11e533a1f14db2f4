-- The word read at i decides its flag.
use native.Mathlib.Omega.{arith}
use mathlib.Core.Path.{sym}
use borrow.Author.Tests.{eq-eqb, ne_eqb}
use Rattle.writing.specs.Binary.{flag}
use Rattle.writing.proofs.size.present_at.Goals as goal

pub returns-then-word_at-eq0 : goal.returns-then-word_at-eq0
unfolding flag
returns-then-word_at-eq0 c = (simp (sym c.word_at.ensures, eq-eqb _ _ c.if-word_at-eq0.true), omega arith)

pub returns : goal.returns
unfolding flag
returns c = (simp (sym c.word_at.ensures, ne_eqb _ _ c.if-word_at-eq0.false), omega arith)
