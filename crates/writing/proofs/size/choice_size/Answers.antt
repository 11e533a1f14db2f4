-- The first word, the option, says whether it has an index.
use native.Mathlib.Omega.{arith}
use mathlib.Core.Path.{sym}
use Rattle.writing.specs.inside.Size.{size}
use Rattle.writing.proofs.size.choice_size.Goals as goal

pub returns-then-is_indexed : goal.returns-then-is_indexed
unfolding size
returns-then-is_indexed c = (
  simp (
    sym c.word_at.ensures,
    sym c.is_indexed.ensures,
    c.if-is_indexed.true,
    c.index_size.ensures.0,
  ),
  omega arith,
)

pub returns : goal.returns
unfolding size
returns c = (simp (sym c.word_at.ensures, sym c.is_indexed.ensures, c.if-is_indexed.false), omega arith)
