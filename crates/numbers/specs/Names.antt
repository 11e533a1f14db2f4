-- Names by the WebAssembly core document, 5.2.4: utf8(c), a constructor for each line as printed, and utf8(c*).
-- A difference stops at 0 here, so what a number is taken from is said to be no less.
use Rattle.std.specs.Prelude.{◌≡◌, ℕ, ◌+◌, ◌-◌, ◌*◌, ◌^◌, ◌<◌, ◌≤◌, ◌⊎◌, List, [], ◌∷◌, ◌++◌}

-- a byte after the first
abbrev pub Later : ℕ → Type 0
Later b = (0x80 ≤ b) × (b < 0xc0)

-- the character c and its bytes
pub data Char : ℕ → List ℕ → Type 0 where
  one : {c b : ℕ} → c < 0x80
      → c ≡ b
      → Char c (b ∷ [])
  two : {c b₁ b₂ : ℕ} → (0x80 ≤ c) × (c < 0x800)
      → c ≡ 2 ^ 6 * (b₁ - 0xc0) + (b₂ - 0x80)
      → 0xc0 ≤ b₁ → Later b₂ → Char c (b₁ ∷ b₂ ∷ [])
  three : {c b₁ b₂ b₃ : ℕ} → ((0x800 ≤ c) × (c < 0xd800)) ⊎ ((0xe000 ≤ c) × (c < 0x10000))
      → c ≡ 2 ^ 12 * (b₁ - 0xe0) + 2 ^ 6 * (b₂ - 0x80) + (b₃ - 0x80)
      → 0xe0 ≤ b₁ → Later b₂ → Later b₃ → Char c (b₁ ∷ b₂ ∷ b₃ ∷ [])
  four : {c b₁ b₂ b₃ b₄ : ℕ} → (0x10000 ≤ c) × (c < 0x110000)
      → c ≡ 2 ^ 18 * (b₁ - 0xf0) + 2 ^ 12 * (b₂ - 0x80) + 2 ^ 6 * (b₃ - 0x80) + (b₄ - 0x80)
      → 0xf0 ≤ b₁ → Later b₂ → Later b₃ → Later b₄ → Char c (b₁ ∷ b₂ ∷ b₃ ∷ b₄ ∷ [])

-- the bytes of a name: those of its characters, one after the other
pub data Name : List ℕ → Type 0 where
  none : Name []
  more : {c : ℕ} {u s : List ℕ} → Char c u → Name s → Name (u ++ s)
