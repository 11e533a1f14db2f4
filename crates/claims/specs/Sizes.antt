-- No row is TOO_BIG: the largest size that a row of any family has, less than an eighth of the most that a section may have, and a row
-- that has it. So neither a row writer nor a step tests for it.
use Rattle.std.specs.Prelude.{ℕ, zero, suc, ◌*◌, ◌≤◌, ◌≡◌, List, [], ◌∷◌, length, replicate, Ok}
use Rattle.numbers.specs.Bytes.{Bytes}
use Rattle.fields.specs.Words.{Words}
use Rattle.writing.specs.Largest.{largest_row}
use Rattle.writing.specs.Write.{measured}
use Rattle.types.specs.Write.{head_shape, result_shape}
use Rattle.sections.specs.Section.{measured_family, family_bytes}

-- n names of m bytes, each from the pool's first byte on
unfoldable pub names : ℕ → ℕ → List ℕ
names zero m = []
names (suc n) m = 0 ∷ m ∷ names n m

-- flags with as many names as a row has words for, each the whole of a pool as long as may be: 65,536 letters a
unfoldable pub largest_flags : List ℕ
largest_flags = 7 ∷ 8191 ∷ names 8191 65536

unfoldable pub largest_pool : List ℕ
largest_pool = replicate 65536 0x61

pub record NoRowTooBig : Type 0 where
  -- rows of types (family 7), imports (10), canonicals (8), core instances (2) and instances (5), which are right room apart
  pub rows : (family : ℕ) (row pool : List ℕ) (size : ℕ) → measured_family family row pool ≡ Ok size
      → (size ≡ length (family_bytes family pool row)) × (size ≤ largest_row)
  -- the parts of a function that goes in steps
  pub head : (words pool : List ℕ) (size : ℕ) → measured head_shape words 0 pool ≡ Ok size → size ≤ largest_row
  pub result : (tag x : ℕ) (size : ℕ) → measured result_shape (tag ∷ x ∷ []) 0 [] ≡ Ok size → size ≤ largest_row
  -- 8,191 names of 65,536 bytes, each with three bytes of length, behind a lead and a count of two bytes; and how far that is below
  pub reckoned : largest_row ≡ 536829952
  pub below : 8 * largest_row ≤ 4294967295
  -- met by a row
  pub words : Words largest_flags
  pub bytes : Bytes largest_pool
  pub met : measured_family 7 largest_flags largest_pool ≡ Ok largest_row
