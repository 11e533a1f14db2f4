-- The laws of numbers for the layers above: what is put is taken back, and what is taken is put again in no more bytes, for both
-- number forms. From `ExactLaws` and `IntegerLaws`.
use Rattle.std.proofs.Common.{◌≡◌, ℕ, zero, suc, ◌+◌, ◌/◌, ◌%◌, ◌^◌, ◌<◌, ◌≤◌, Bool, true, false, cond, ltb, List, [], ◌∷◌, ◌++◌, length, get_or, take, refl, arith, ltb-true, lt-ltb}
use Rattle.numbers.specs.Again.{Again}
use Rattle.numbers.specs.Integers.{Form, u32, s33}
use Rattle.numbers.specs.Leb.{bytes_of, number_in, within32, take_in}
use Rattle.numbers.specs.Bytes.{Bytes}
use Rattle.numbers.specs.Taken.{Value}
use Rattle.numbers.proofs.ExactLaws.{taken-exactly, taken-small, taken_in, inside}
use Rattle.numbers.proofs.IntegerLaws.{put_is, integer-bytes, integer-again}
use Rattle.numbers.proofs.Shortest.{room, bytes-last, bytes-more, at_most, size_by_bounds}

-- what was put is taken back with its size, whatever follows
pub taken_back : {end sign : ℕ} → Form end sign → (n : ℕ) (rest : List ℕ) → n < 2 ^ 32
    → take_in end (bytes_of end 5 n ++ rest) ≡ Value n (length (bytes_of end 5 n))
taken_back {end} f n rest h = (taken-exactly f).is_taken (bytes_of end 5 n) rest n (put_is f n h)

-- what is taken is put again in no more bytes, and in as many only as it was; it has 32 bits
pub taken-again : {end sign : ℕ} → Form end sign → (s : List ℕ) (n t : ℕ) → Bytes s → take_in end s ≡ Value n t
    → Again (take t s) (bytes_of end 5 n) × (n < 2 ^ 32)
taken-again {end} f s n t b e = (integer-again ((taken-exactly f).is_one s n t b e).1 5, taken-small end s n t e)

-- a taken number has 1 to 5 bytes, and they lie inside the input
pub taken-inside : {end sign : ℕ} → Form end sign → (s : List ℕ) (n t : ℕ) → take_in end s ≡ Value n t → (0 < t) × (t ≤ 5) × (t ≤ length s)
taken-inside {end} f s n t e = inside end 5 s n t (taken_in end s n t e)

-- a number has 1 to 5 bytes
pub size_bounds : (end n : ℕ) → (0 < length (bytes_of end 5 n)) × (length (bytes_of end 5 n) ≤ 5)
size_bounds end n = (omega (arith, size_by_bounds 4 end n), at_most end 5 n)

-- a number below the bound of the last byte has one byte, below 128 times that two at most, and so on
few : (end j k n : ℕ) → n < room end k → length (bytes_of end j n) ≤ suc k
unfolding bytes_of
few end zero k n h = omega arith
few end (suc j) zero n h = simp (lt-ltb n end h) (omega arith)
few end (suc j) (suc k) n h = go (ltb n end) (few end j k (n / 128) (omega arith))
  where
    go : (t : Bool) → length (bytes_of end j (n / 128)) ≤ suc k
        → length (cond t (n ∷ []) ((n % 128 + 128) ∷ bytes_of end j (n / 128))) ≤ suc (suc k)
    go true h = omega arith
    go false h = omega arith

pub few_bytes : (end k n : ℕ) → n < room end k → length (bytes_of end 5 n) ≤ suc k
few_bytes end k n h = few end 5 k n h

-- a number below the bound of the last byte is that byte, and any other begins with a byte that another follows
pub one_byte : (end n : ℕ) → n < end → bytes_of end 5 n ≡ n ∷ []
one_byte end n h = bytes-last end 4 n h

pub many-bytes : (end n : ℕ) → end ≤ n → 2 ^ 7 ≤ get_or (bytes_of end 5 n) 0 0
many-bytes end n h = rw (bytes-more end 4 n h) (omega arith)

-- the same of the bytes that are taken
pub take-one : {end sign : ℕ} → Form end sign → (b : ℕ) (s : List ℕ) → b < end → take_in end (b ∷ s) ≡ Value b 1
unfolding take_in within32 number_in
take-one u32 b s h = simp (lt-ltb b 128 h, lt-ltb b (2 ^ 32) (omega arith))
take-one s33 b s h = simp (lt-ltb b 128 (omega arith), lt-ltb b 64 h, lt-ltb b (2 ^ 32) (omega arith))

-- what is put is bytes
pub put-bytes : {end sign : ℕ} → Form end sign → (n : ℕ) → n < 2 ^ 32 → Bytes (bytes_of end 5 n)
put-bytes {end} {sign} f n h = integer-bytes f (put_is f n h)

-- of any number, in any number of bytes
pub all-bytes : (end k n : ℕ) → end ≤ 128 → Bytes (bytes_of end k n)
unfolding bytes_of
all-bytes end zero n h i = omega arith
all-bytes end (suc k) n h i = go (ltb n end) refl (all-bytes end k (n / 128) h) i
  where
    go : (b : Bool) → ltb n end ≡ b → Bytes (bytes_of end k (n / 128)) → (j : ℕ) → get_or (cond b (n ∷ []) ((n % 128 + 128) ∷ bytes_of end k (n / 128))) j 0 < 2 ^ 8
    go true e f zero = omega (arith, ltb-true n end e)
    go true e f (suc j) = omega arith
    go false e f zero = omega arith
    go false e f (suc j) = f j
