-- Well-formed UTF-8, by table 3-7 of the Unicode Standard, a row for each line as printed.
use Rattle.std.specs.Prelude.{ℕ, suc, Bool, true, false, cond, ◌&&◌, List, [], ◌∷◌, nat_le}
use Rattle.numbers.specs.Spelling.{Spelling, Right, Stops}

-- the bytes low..high
pub record Range : Type 0 where
  pub low : ℕ
  pub high : ℕ

infix 70 ◌to◌
abbrev pub ◌to◌ : ℕ → ℕ → Range
l to h = record { low = l; high = h }

-- a first byte in a range is followed by bytes in others, the second, third and fourth
pub record Row : Type 0 where
  pub first : Range
  pub later : List Range

abbrev pub row : Range → List Range → Row
row r rs = record { first = r; later = rs }

abbrev pub table : List Row
table =
    row (0x00 to 0x7f) []
    ∷ row (0xc2 to 0xdf) (0x80 to 0xbf ∷ [])
    ∷ row (0xe0 to 0xe0) (0xa0 to 0xbf ∷ 0x80 to 0xbf ∷ [])
    ∷ row (0xe1 to 0xec) (0x80 to 0xbf ∷ 0x80 to 0xbf ∷ [])
    ∷ row (0xed to 0xed) (0x80 to 0x9f ∷ 0x80 to 0xbf ∷ [])
    ∷ row (0xee to 0xef) (0x80 to 0xbf ∷ 0x80 to 0xbf ∷ [])
    ∷ row (0xf0 to 0xf0) (0x90 to 0xbf ∷ 0x80 to 0xbf ∷ 0x80 to 0xbf ∷ [])
    ∷ row (0xf1 to 0xf3) (0x80 to 0xbf ∷ 0x80 to 0xbf ∷ 0x80 to 0xbf ∷ [])
    ∷ row (0xf4 to 0xf4) (0x80 to 0x8f ∷ 0x80 to 0xbf ∷ 0x80 to 0xbf ∷ [])
    ∷ []

abbrev pub among : Range → ℕ → Bool
among r b = nat_le r.low b && nat_le b r.high

-- what a byte leads to: bytes in these ranges are to follow, or it cannot stand there
pub data Step : Type 0 where
  Next : List Range → Step
  Bad : Step

-- a first byte, by its row
abbrev pub first_in : List Row → ℕ → Step
first_in [] b = Bad
first_in (r ∷ rs) b = cond (among r.first b) (Next r.later) (first_in rs b)

-- a byte where bytes in these ranges are to follow
unfoldable pub step : List Range → ℕ → Step
step [] b = first_in table b
step (r ∷ rs) b = cond (among r b) (Next rs) Bad

-- what `go` says after a step that is not bad, and `none` after one that is
abbrev pub onward : {A : Type 0} → A → Step → (List Range → A) → A
onward none (Next rs) go = go rs
onward none Bad go = none

abbrev pub is_empty : List Range → Bool
is_empty [] = true
is_empty (r ∷ rs) = false

-- whether bytes in these ranges follow, and then text
unfoldable pub rest : List Range → List ℕ → Bool
rest rs [] = is_empty rs
rest rs (b ∷ s) = onward false (step rs b) (λ more. rest more s)

unfoldable pub text : List ℕ → Bool
text s = rest [] s

-- how many bytes go before the first whose step is bad: all of them where none is
unfoldable pub goes : List Range → List ℕ → ℕ
goes rs [] = 0
goes rs (b ∷ s) = onward 0 (step rs b) (λ more. suc (goes more s))

-- the offset of the first byte at which no text can go on (Beginnings.antt): the length where there is none
unfoldable pub stop : List ℕ → ℕ
stop s = goes [] s

-- a name is text, or stops somewhere
unfoldable pub spelling_of : List ℕ → Spelling
spelling_of s = cond (text s) Right (Stops (stop s))
