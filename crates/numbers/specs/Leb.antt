-- Integers as LEB128 bytes (WebAssembly core, 5.2.2): seven bits a byte, the lowest first, and 128 added to each byte that another one
-- follows. `end` bounds the last byte: 128 in a u32, and 64 in an s33 that is not below zero, whose last byte leaves the sign's bit
-- clear. Put in the shortest form; taken in every form of 32 bits and five bytes, those that zeros pad included (`Exact.antt`).
use Rattle.std.specs.Prelude.{Ok, ℕ, zero, suc, ◌+◌, ◌-◌, ◌*◌, ◌/◌, ◌%◌, ◌^◌, cond, List, [], ◌∷◌, nat_lt}
use Rattle.numbers.specs.Taken.{Taken, Value, Cut, Bad}

-- ---- putting

-- n in at most k bytes
unfoldable pub bytes_of : ℕ → ℕ → ℕ → List ℕ
bytes_of end zero n = []
bytes_of end (suc k) n = cond (nat_lt n end) (n ∷ []) ((n % 128 + 128) ∷ bytes_of end k (n / 128))

-- the u32 n; the s33 n, which is not below zero
abbrev pub unsigned : ℕ → List ℕ
unsigned n = bytes_of 128 5 n

abbrev pub signed : ℕ → List ℕ
signed n = bytes_of 64 5 n

-- ---- taking

-- the byte b, which another follows, before what the bytes after it come to
unfoldable pub more : ℕ → Taken → Taken
more b (Ok taken) = Value (taken.value * 128 + (b - 128)) (taken.took + 1)
more b Cut = Cut
more b Bad = Bad

-- the number at the front of the bytes, of at most k bytes, and how many it has
unfoldable pub number_in : ℕ → ℕ → List ℕ → Taken
number_in end zero s = Bad
number_in end (suc k) [] = Cut
number_in end (suc k) (b ∷ s) = cond (nat_lt b 128) (cond (nat_lt b end) (Value b 1) Bad) (more b (number_in end k s))

-- a number of 32 bits
unfoldable pub within32 : Taken → Taken
within32 (Ok taken) = cond (nat_lt taken.value (2 ^ 32)) (Value taken.value taken.took) Bad
within32 Cut = Cut
within32 Bad = Bad

-- the number of at most five bytes at the front of the input
unfoldable pub take_in : ℕ → List ℕ → Taken
take_in end s = within32 (number_in end 5 s)

-- the u32; the s33, which is not below zero
abbrev pub take_unsigned : List ℕ → Taken
take_unsigned s = take_in 128 s

abbrev pub take_signed : List ℕ → Taken
take_signed s = take_in 64 s
