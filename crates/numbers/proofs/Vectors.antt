-- Numbers laid on the bench: what each is put as, and what bytes are taken as, unsigned and signed, by computation.
use Rattle.std.proofs.Common.{◌≡◌, ℕ, List, [], ◌∷◌, map, refl}
use Rattle.numbers.specs.Leb.{bytes_of, unsigned, signed, more, number_in, within32, take_in, take_unsigned, take_signed}
use Rattle.numbers.specs.Taken.{Taken, Value, Cut, Bad}

pub record Line : Type 0 where
  pub number : ℕ
  pub as_unsigned : List ℕ
  pub as_signed : List ℕ

abbrev line : ℕ → List ℕ → List ℕ → Line
line n u s = record { number = n; as_unsigned = u; as_signed = s }

abbrev pub bench : List Line
bench =
    line 63 (0x3f ∷ []) (0x3f ∷ [])
    ∷ line 64 (0x40 ∷ []) (0xc0 ∷ 0x00 ∷ [])
    ∷ line 115 (0x73 ∷ []) (0xf3 ∷ 0x00 ∷ [])
    ∷ line 127 (0x7f ∷ []) (0xff ∷ 0x00 ∷ [])
    ∷ line 128 (0x80 ∷ 0x01 ∷ []) (0x80 ∷ 0x01 ∷ [])
    ∷ line 16383 (0xff ∷ 0x7f ∷ []) (0xff ∷ 0xff ∷ 0x00 ∷ [])
    ∷ line 16384 (0x80 ∷ 0x80 ∷ 0x01 ∷ []) (0x80 ∷ 0x80 ∷ 0x01 ∷ [])
    ∷ line 4294967295 (0xff ∷ 0xff ∷ 0xff ∷ 0xff ∷ 0x0f ∷ []) (0xff ∷ 0xff ∷ 0xff ∷ 0xff ∷ 0x0f ∷ [])
    ∷ []

abbrev pub AsPut : Line → Type 0
AsPut l = (unsigned l.number ≡ l.as_unsigned) × (signed l.number ≡ l.as_signed)

abbrev pub All : List Line → Type 0
All [] = Unit {0}
All (l ∷ ls) = AsPut l × All ls

pub bench_is_put : All bench
unfolding bytes_of
bench_is_put = (
  (refl, refl),
  ((refl, refl), ((refl, refl), ((refl, refl), ((refl, refl), ((refl, refl), ((refl, refl), ((refl, refl), tt))))))),
)

-- bytes, and what is taken of them as a u32 and as an s33
abbrev pub takes : List (List ℕ × Taken × Taken)
takes =
    -- 0, 63, 64, 127, 128 and 4294967295 at each length
    (0x00 ∷ [], Value 0 1, Value 0 1)
    ∷ (0x80 ∷ 0x00 ∷ [], Value 0 2, Value 0 2)
    ∷ (0x80 ∷ 0x80 ∷ 0x00 ∷ [], Value 0 3, Value 0 3)
    ∷ (0x80 ∷ 0x80 ∷ 0x80 ∷ 0x00 ∷ [], Value 0 4, Value 0 4)
    ∷ (0x80 ∷ 0x80 ∷ 0x80 ∷ 0x80 ∷ 0x00 ∷ [], Value 0 5, Value 0 5)
    ∷ (0x3f ∷ [], Value 63 1, Value 63 1)
    ∷ (0xbf ∷ 0x00 ∷ [], Value 63 2, Value 63 2)
    ∷ (0xbf ∷ 0x80 ∷ 0x00 ∷ [], Value 63 3, Value 63 3)
    ∷ (0xbf ∷ 0x80 ∷ 0x80 ∷ 0x00 ∷ [], Value 63 4, Value 63 4)
    ∷ (0xbf ∷ 0x80 ∷ 0x80 ∷ 0x80 ∷ 0x00 ∷ [], Value 63 5, Value 63 5)
    ∷ (0x40 ∷ [], Value 64 1, Bad)
    ∷ (0xc0 ∷ 0x00 ∷ [], Value 64 2, Value 64 2)
    ∷ (0xc0 ∷ 0x80 ∷ 0x00 ∷ [], Value 64 3, Value 64 3)
    ∷ (0xc0 ∷ 0x80 ∷ 0x80 ∷ 0x00 ∷ [], Value 64 4, Value 64 4)
    ∷ (0xc0 ∷ 0x80 ∷ 0x80 ∷ 0x80 ∷ 0x00 ∷ [], Value 64 5, Value 64 5)
    ∷ (0x7f ∷ [], Value 127 1, Bad)
    ∷ (0xff ∷ 0x00 ∷ [], Value 127 2, Value 127 2)
    ∷ (0xff ∷ 0x80 ∷ 0x00 ∷ [], Value 127 3, Value 127 3)
    ∷ (0xff ∷ 0x80 ∷ 0x80 ∷ 0x00 ∷ [], Value 127 4, Value 127 4)
    ∷ (0xff ∷ 0x80 ∷ 0x80 ∷ 0x80 ∷ 0x00 ∷ [], Value 127 5, Value 127 5)
    ∷ (0x80 ∷ 0x01 ∷ [], Value 128 2, Value 128 2)
    ∷ (0x80 ∷ 0x81 ∷ 0x00 ∷ [], Value 128 3, Value 128 3)
    ∷ (0x80 ∷ 0x81 ∷ 0x80 ∷ 0x00 ∷ [], Value 128 4, Value 128 4)
    ∷ (0x80 ∷ 0x81 ∷ 0x80 ∷ 0x80 ∷ 0x00 ∷ [], Value 128 5, Value 128 5)
    ∷ (0xff ∷ 0xff ∷ 0xff ∷ 0xff ∷ 0x0f ∷ [], Value 4294967295 5, Value 4294967295 5)
    -- past 32 bits; with unused bits that are not 0; below zero as an s33; of more than five bytes; and one that is cut
    ∷ (0x80 ∷ 0x80 ∷ 0x80 ∷ 0x80 ∷ 0x10 ∷ [], Bad, Bad)
    ∷ (0x80 ∷ 0x80 ∷ 0x80 ∷ 0x80 ∷ 0x70 ∷ [], Bad, Bad)
    ∷ (0xff ∷ 0xff ∷ 0xff ∷ 0xff ∷ 0x7f ∷ [], Bad, Bad)
    ∷ (0xff ∷ 0x7f ∷ [], Value 16383 2, Bad)
    ∷ (0x80 ∷ 0x40 ∷ [], Value 8192 2, Bad)
    ∷ (0x80 ∷ 0x80 ∷ 0x80 ∷ 0x80 ∷ 0x80 ∷ [], Bad, Bad)
    ∷ (0x80 ∷ 0x80 ∷ 0x80 ∷ 0x80 ∷ 0x80 ∷ 0x00 ∷ [], Bad, Bad)
    ∷ (0x80 ∷ 0x80 ∷ 0x80 ∷ 0x80 ∷ [], Cut, Cut)
    ∷ []

pub takes_so : map {B = Taken × Taken} (λ e. (take_unsigned e.0, take_signed e.0)) takes ≡ map {B = Taken × Taken} (λ e. (e.1, e.2)) takes
unfolding take_in within32 number_in more
takes_so = refl
