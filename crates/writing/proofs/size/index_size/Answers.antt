-- The size is that of the word read at i; `size_bounds` keeps it at most five.
use native.Mathlib.Omega.{arith}
use Rattle.numbers.proofs.LebLaws.{size_bounds}
use Rattle.writing.proofs.size.index_size.Goals as goal

pub returns : goal.returns
returns c = (
  simp (c.unsigned_size.ensures, c.word_at.ensures),
  omega (
    arith,
    c.unsigned_size.ensures,
    size_bounds 128 c.word_at.result,
  ),
)
