-- The word after i says the length: its own bytes, five at most by `size_bounds`, and as many bytes as it says, which has 32 bits.
use native.Mathlib.Omega.{arith}
use Rattle.numbers.proofs.LebLaws.{size_bounds}
use Rattle.writing.proofs.size.name_size.Goals as goal

pub overflow_add-result : goal.overflow_add-result
overflow_add-result c = omega (arith, c.unsigned_size.ensures, size_bounds 128 c.word_at-size.result)

pub returns : goal.returns
returns c = (
  simp (c.unsigned_size.ensures, c.word_at-size.ensures),
  omega (
    arith,
    c.unsigned_size.ensures,
    size_bounds 128 c.word_at-size.result,
  ),
)
