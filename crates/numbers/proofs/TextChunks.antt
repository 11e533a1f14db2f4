-- Bytes below a bound, chunk by chunk.
use Rattle.std.proofs.Common.{◌≡◌, ℕ, ◌+◌, ◌<◌, ◌≤◌, Bool, true, false, ltb, ◌⊎◌, List, refl, inl, inr, arith, ltb-false, ltb-true}
use Rattle.numbers.specs.inside.Below.{Below}

pub side : (a b : ℕ) → (a < b) ⊎ (b ≤ a)
side a b = go (ltb a b) refl
  where
    go : (t : Bool) → ltb a b ≡ t → (a < b) ⊎ (b ≤ a)
    go true e = inl (ltb-true a b e)
    go false e = inr (ltb-false a b e)

-- a chunk whose largest byte is below m
pub below_top : (m r : ℕ) (s : List ℕ) (a b : ℕ) → Below (r + 1) s a b → r < m → Below m s a b
below_top m r s a b all h j p q = omega (arith, all j p q)
