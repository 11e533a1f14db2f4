-- A byte sequence within a name, for the private functions of `text`.
use Rattle.std.specs.Prelude.{Ok, Err, ◌≡◌, ℕ, ◌+◌, ◌≤◌, Bool, false, ◌&&◌, List, [], length, drop, nat_lt, slice_index}
use Rattle.numbers.specs.Text.{Range, ◌to◌, among, rest, goes}
use Rattle.numbers.specs.inside.Sequence.{Sequence}

-- whether s has a byte at k, and it is in low..high
abbrev pub follows : List ℕ → ℕ → ℕ → ℕ → Bool
follows s k low high = nat_lt k (length s) && among (low to high) (slice_index s k)

-- a sequence that begins at i, of which bytes in these ranges are to follow from j on: after its n bytes the name goes on as text does,
-- or its byte n cannot stand there
abbrev pub Ends : List Range → List ℕ → ℕ → ℕ → Sequence → Type 0
Ends rs s j i (Ok n) =
    ((1 ≤ n) × (i + n ≤ length s))
    × ((rest rs (drop j s) ≡ rest [] (drop (i + n) s)) × (j + goes rs (drop j s) ≡ i + n + goes [] (drop (i + n) s)))
Ends rs s j i (Err broken) = (rest rs (drop j s) ≡ false) × (j + goes rs (drop j s) ≡ i + broken.after)
