-- A line of the table of grades, beside a byte that is none of its own, and one that is.
use Prim.Native.Nat.{ℕ, ◌≤◌}
use native.Mathlib.Omega.{arith}
use mathlib.Core.Path.{◌≡◌, refl}
use mathlib.Core.Bool.{Bool, true, false, cond}
use borrow.Author.Tests.{le-ltb, ltb-false, eqb-true, eqb-false}
use lib.Dec.{ltb, eqb}

pub skip : (a z b r n : ℕ) → (a ≤ b → b ≤ z → ⊥) → cond (ltb b a) r (cond (ltb z b) r n) ≡ r
skip a z b r n h = go (ltb b a) (ltb z b) refl refl
  where
    go : (x y : Bool) → ltb b a ≡ x → ltb z b ≡ y → cond x r (cond y r n) ≡ r
    go true y p q = refl
    go false true p q = refl
    go false false p q = absurd (h (ltb-false b a p) (ltb-false z b q))

pub hit : (a z b r n : ℕ) → a ≤ b → b ≤ z → cond (ltb b a) r (cond (ltb z b) r n) ≡ n
hit a z b r n low high = simp (le-ltb b a low, le-ltb z b high)

-- ---- the leads of types, and of canonicals; the options

between : (b : ℕ) → (b ≡ 0x66 → ⊥) → 0x65 ≤ b → b ≤ 0x66 → b ≡ 0x65
between b n l h = go (eqb b 0x66) refl
  where
    go : (t : Bool) → eqb b 0x66 ≡ t → b ≡ 0x65
    go true t = absurd (n (eqb-true b 0x66 t))
    go false t = below (eqb-false b 0x66 t)
      where
        below : (b ≡ 0x66 → ⊥) → b ≡ 0x65
        below m = omega (arith, l, h, m)
