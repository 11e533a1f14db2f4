-- `section_size` meets its contract: a number has at most five bytes, so nothing passes 32 bits.
use Prim.Native.Nat.{ℕ, ◌+◌}
use native.Mathlib.Omega.{arith}
use mathlib.Core.Path.{ap, ◌∙◌}
use lib.ListN.{length}
use Rattle.numbers.specs.Leb.{unsigned}
use Rattle.numbers.proofs.LebLaws.{size_bounds}
use Rattle.sheets.proofs.section_size.Goals as goal

-- the size of a section whose count has k bytes
abbrev sized : ℕ → ℕ → ℕ
sized k used = 1 + length (unsigned (k + used)) + (k + used)

pub overflow_add-size : goal.overflow_add-size
overflow_add-size c = omega (arith, c.unsigned_size.ensures, size_bounds 128 c.args.rows)

pub overflow_cast-size : goal.overflow_cast-size
overflow_cast-size c = omega (arith, c.unsigned_size.ensures, size_bounds 128 c.args.rows)

pub overflow_add-result : goal.overflow_add-result
overflow_add-result c = omega (arith, c.unsigned_size-2.ensures, size_bounds 128 (c.unsigned_size.result + c.args.used))

pub overflow_add-result-2 : goal.overflow_add-result-2
overflow_add-result-2 c =
    let a = c.args in
    omega (
      arith,
      c.unsigned_size-2.ensures,
      c.unsigned_size.ensures,
      size_bounds 128 a.rows,
      size_bounds 128 (c.unsigned_size.result + a.used),
    )

pub returns : goal.returns
returns c =
    ap (λ k. 1 + k + (c.unsigned_size.result + c.args.used)) c.unsigned_size-2.ensures
    ∙ ap (λ k. sized k c.args.used) c.unsigned_size.ensures
