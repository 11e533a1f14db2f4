-- Bytes that were taken, and those that are written for them: byte for byte the same, but each integer, padded or not, in its shortest form.
use Rattle.std.specs.Prelude.{ℕ, ◌+◌, List, [], ◌∷◌, ◌++◌}
use Rattle.numbers.specs.Integers.{Integer, Form}
use Rattle.numbers.specs.Leb.{bytes_of}

pub data Padded : List ℕ → List ℕ → Type 0 where
  end : Padded [] []
  byte : (b : ℕ) {taken written : List ℕ} → Padded taken written → Padded (b ∷ taken) (b ∷ written)
  number : {last sign n : ℕ} {integer taken written : List ℕ} → Form last sign → Integer last sign (32 + sign) integer n → Padded taken written
      → Padded (integer ++ taken) (bytes_of last 5 n ++ written)
