-- Windows of three bytes within a name, for the private functions of `text`.
use Rattle.std.specs.Prelude.{ℕ, ◌+◌, ◌-◌, ◌<◌, ◌≤◌, ◌⊎◌, List, length, slice_index}

-- a byte that follows another of its character
abbrev pub Later : ℕ → Type 0
Later b = (0x80 ≤ b) × (b ≤ 0xbf)

-- a byte that begins a character: of one byte, of two, or of three in the table's row e1..ec
abbrev pub First : ℕ → Type 0
First b = (b ≤ 0x7f) ⊎ (((0xc2 ≤ b) × (b ≤ 0xdf)) ⊎ ((0xe1 ≤ b) × (b ≤ 0xec)))

-- not c0, c1, e0 or above ec
abbrev pub Known : ℕ → Type 0
Known b = (b ≤ 0xec) × ((0xc0 ≤ b → 0xc2 ≤ b) × (0xe0 ≤ b → 0xe1 ≤ b))

-- behind q and p, b is in 80..bf exactly if p begins a character of two bytes or more or q one of three
abbrev pub Placed : ℕ → ℕ → ℕ → Type 0
Placed q p b = ((0xc2 ≤ p → Later b) × (0xe1 ≤ q → Later b)) × (p < 0xc2 → q < 0xe1 → (b < 0x80) ⊎ (0xc0 ≤ b))

-- the window at i, n windows from i on, and all windows of a name
abbrev pub Window : List ℕ → ℕ → Type 0
Window s i = Placed (slice_index s i) (slice_index s (i + 1)) (slice_index s (i + 2)) × Known (slice_index s (i + 2))

abbrev pub Windows : List ℕ → ℕ → ℕ → Type 0
Windows s i n = (k : ℕ) → k < n → Window s (i + k)

abbrev pub All : List ℕ → Type 0
All s = (i : ℕ) → i + 2 < length s → Window s i

-- the second byte of a name behind its first, p
abbrev pub Second : ℕ → ℕ → Type 0
Second p b = (0xc2 ≤ p → Later b) × (p < 0xc2 → First b)

-- the name's first two bytes are right, and no byte is to follow its last
abbrev pub Begun : List ℕ → Type 0
Begun s = First (slice_index s 0) × Second (slice_index s 0) (slice_index s 1)

abbrev pub Ended : List ℕ → Type 0
Ended s = (slice_index s (length s - 2) < 0xe1) × (slice_index s (length s - 1) < 0xc2)
