-- A number is taken from exactly the core document's integers of 32 bits, which have at most five bytes.
use Rattle.std.specs.Prelude.{◌≡◌, ℕ, ◌+◌, ◌<◌, ◌≤◌, List, ◌++◌, length, take, slice_index}
use Rattle.numbers.specs.Bytes.{Bytes}
use Rattle.numbers.specs.Integers.{Integer}
use Rattle.numbers.specs.Leb.{take_in}
use Rattle.numbers.specs.Taken.{Value, Cut}

-- of the form that ends below `end` and gives the sign so many bits: the u32, and the s33 that is not below zero
pub record TakenExactly (end sign : ℕ) : Type 0 where
  -- what is taken is such an integer
  pub is_one : (s : List ℕ) (n t : ℕ) → Bytes s → take_in end s ≡ Value n t → (t ≤ length s) × Integer end sign (32 + sign) (take t s) n
  -- and every such integer is taken, whatever follows it
  pub is_taken : (bytes rest : List ℕ) (n : ℕ) → Integer end sign (32 + sign) bytes n → take_in end (bytes ++ rest) ≡ Value n (length bytes)
  -- it has at most five bytes
  pub five : (bytes : List ℕ) (n : ℕ) → Integer end sign (32 + sign) bytes n → length bytes ≤ 5
  -- the input ends inside a number exactly where fewer than five bytes are there and each says that another follows
  pub cut : (s : List ℕ) → take_in end s ≡ Cut → (length s < 5) × ((i : ℕ) → i < length s → 128 ≤ slice_index s i)
  pub is_cut : (s : List ℕ) → length s < 5 → ((i : ℕ) → i < length s → 128 ≤ slice_index s i) → take_in end s ≡ Cut
