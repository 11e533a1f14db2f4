-- What the test programs lend to be written: how it is filled, and what is kept of it.
use Rattle.std.specs.Prelude.{ℕ, zero, suc, ◌+◌, ◌-◌, ◌%◌, Bool, false, cond, List, [], ◌∷◌, ◌++◌, take, drop}
use Rattle.telling.specs.Lines.{starts}

-- what stands at a place: aa to e9, or, turned, what adds up to 255 with that
unfoldable pub pattern_at : Bool → ℕ → ℕ
pattern_at turned i = cond turned (85 - i % 64) (170 + i % 64)

-- the first n places
unfoldable pub filled : Bool → ℕ → List ℕ
filled turned zero = []
filled turned (suc n) = filled turned n ++ (pattern_at turned n ∷ [])

-- every byte outside the `size` bytes from `at` on is as it was
unfoldable pub kept : List ℕ → List ℕ → ℕ → ℕ → Bool
kept old out at size =
    cond (starts old (take at out)) (starts (drop (at + size) old) (drop (at + size) out)) false
