-- The integers of the WebAssembly core document (5.2.2), a line for each production, and of sN the values that are not below zero:
--   uN ::= n:byte           => n                      (if n < 2^7 and n < 2^N)
--        | n:byte m:u(N-7)  => 2^7 * m + (n - 2^7)    (if n >= 2^7 and N > 7)
--   sN ::= n:byte           => n                      (if n < 2^6 and n < 2^(N-1))
--        | n:byte m:s(N-7)  => 2^7 * m + (n - 2^7)    (if n >= 2^7 and N > 7)
-- They differ in the bound of the last byte and in the bit that the sign takes, so both are one family. It allows padding: a number
-- is taken from exactly these bytes (`Exact.antt`), and put as the shortest of them (proofs/IntegerLaws.antt).
use Rattle.std.specs.Prelude.{ℕ, ◌+◌, ◌-◌, ◌*◌, ◌^◌, ◌<◌, ◌≤◌, List, [], ◌∷◌}

-- the bytes that stand for a value in N bits
pub data Integer (end sign : ℕ) : ℕ → List ℕ → ℕ → Type 0 where
  last : {N n : ℕ} → n < end → n < 2 ^ (N - sign) → Integer end sign N (n ∷ []) n
  more : {N n m : ℕ} {bytes : List ℕ} → 2 ^ 7 ≤ n → n < 2 ^ 8 → 7 < N → Integer end sign (N - 7) bytes m
      → Integer end sign N (n ∷ bytes) (2 ^ 7 * m + (n - 2 ^ 7))

abbrev pub UN : ℕ → List ℕ → ℕ → Type 0
UN = Integer (2 ^ 7) 0

abbrev pub SN : ℕ → List ℕ → ℕ → Type 0
SN = Integer (2 ^ 6) 1

-- the two forms in use: the u32, and the s33 that is not below zero
pub data Form : ℕ → ℕ → Type 0 where
  u32 : Form (2 ^ 7) 0
  s33 : Form (2 ^ 6) 1
