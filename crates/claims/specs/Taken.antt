-- Numbers: taken are exactly the u32 of the core document and those of its s33 that are not below zero, padded or not; put is the
-- shortest of them.
use Rattle.std.specs.Prelude.{ℕ, ◌+◌, ◌^◌, ◌<◌, ◌≡◌, List, take}
use Rattle.numbers.specs.Again.{Again}
use Rattle.numbers.specs.Bytes.{Bytes}
use Rattle.numbers.specs.Exact.{TakenExactly}
use Rattle.numbers.specs.Integers.{Integer, Form}
use Rattle.numbers.specs.Leb.{bytes_of, take_in}
use Rattle.numbers.specs.Taken.{Value}

pub record NumbersTaken : Type 0 where
  pub exactly : {end sign : ℕ} → Form end sign → TakenExactly end sign
  -- what is put is one of them
  pub put : {end sign : ℕ} → Form end sign → (n : ℕ) → n < 2 ^ 32 → Integer end sign (32 + sign) (bytes_of end 5 n) n
  -- of those that stand for a number it has the fewest bytes, and no other has as few
  pub shortest : {end sign : ℕ} → Form end sign → (bytes : List ℕ) (n : ℕ) → Integer end sign (32 + sign) bytes n → Again bytes (bytes_of end 5 n)
  -- so what is taken is put again in no more bytes, and in as many only as it was
  pub again : {end sign : ℕ} → Form end sign → (s : List ℕ) (n t : ℕ) → Bytes s → take_in end s ≡ Value n t → Again (take t s) (bytes_of end 5 n)
