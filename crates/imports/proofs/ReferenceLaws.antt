-- What straight code sees of a reference makes its size, and its bytes by its sort.
use Rattle.std.specs.Prelude.{Some}
use Prim.Native.Nat.{ℕ, ◌+◌, ◌≤◌, ◌<◌}
use native.Mathlib.Omega.{arith}
use mathlib.Core.Path.{◌≡◌, refl, sym, ap, ◌∙◌, subst}
use mathlib.Core.Bool.{Bool, true, false, cond}
use mathlib.Core.List.{List, [], ◌∷◌}
use borrow.Author.Tests.{eq-eqb, ne_eqb, lt-ltb}
use lib.Dec.{eqb, ltb}
use lib.ListN.{length, drop}
use lib.Seq.{get_or-drop}
use Rattle.numbers.specs.Leb.{unsigned}
use Rattle.fields.specs.declared.Field.TheVariants as field
use Rattle.fields.specs.Flaw.{Right, Wrong}
use Rattle.fields.specs.declared.Refusal.TheVariants.{Tag}
use Rattle.fields.specs.Words.{word}
use Rattle.writing.specs.Binary.{valtype, typebound, externdesc, bytes}
use Rattle.writing.specs.Judge.{value, reference, flaw}
use Rattle.writing.specs.Sizes.{right_size}
use Rattle.writing.specs.inside.Rows.{Known}
use Rattle.writing.proofs.RowLaws.{known_of}
use Rattle.numbers.proofs.Impossible.{impossible}

module _ (sort x y : ℕ) where
  reference_known : {r : ℕ} → reference (sort ∷ x ∷ y ∷ []) ≡ Right → r ≡ length (externdesc sort x y)
      → (pool : List ℕ) → Known pool field.Reference (sort ∷ x ∷ y ∷ []) r
  unfolding flaw bytes
  reference_known e s pool = record { right = e; size = s }

  -- by sort
  value_right : sort ≡ 2 → value (x ∷ y ∷ []) 0 ≡ Right → reference (sort ∷ x ∷ y ∷ []) ≡ Right
  unfolding reference value
  value_right e h = simp (eq-eqb _ _ e) (go (eqb x 0) (ltb y 14) (eqb x 1) h)
    where
      go : (a b c : Bool) → cond a (cond b Right (Wrong Tag 1)) (cond c Right (Wrong Tag 0)) ≡ Right
          → cond a (cond b Right (Wrong Tag 2)) (cond c Right (Wrong Tag 1)) ≡ Right
      go true true c e = refl
      go true false c e = impossible cc
      go false b true e = refl
      go false b false e = impossible cc

  bound_right : sort ≡ 3 → x ≡ 0 → reference (sort ∷ x ∷ y ∷ []) ≡ Right
  unfolding reference
  bound_right e h = simp (e, h)

  resource_right : sort ≡ 3 → x ≡ 1 → y ≡ 0 → reference (sort ∷ x ∷ y ∷ []) ≡ Right
  unfolding reference
  resource_right e h z = simp (e, h, z)

  index_right : (sort ≡ 2 → ⊥) → (sort ≡ 3 → ⊥) → sort < 6 → y ≡ 0 → reference (sort ∷ x ∷ y ∷ []) ≡ Right
  unfolding reference
  index_right n m h z = simp (ne_eqb _ _ n, ne_eqb _ _ m, lt-ltb _ _ h, z)

  pub module_bytes : sort ≡ 0 → externdesc sort x y ≡ sort ∷ 0x11 ∷ unsigned x
  unfolding externdesc
  module_bytes e = simp e

  pub value_bytes : sort ≡ 2 → externdesc sort x y ≡ sort ∷ valtype x y
  unfolding externdesc
  value_bytes e = simp e

  pub bound_bytes : sort ≡ 3 → x ≡ 0 → externdesc sort x y ≡ sort ∷ 0x00 ∷ unsigned y
  unfolding externdesc typebound
  bound_bytes e z = simp (e, z)

  pub resource_bytes : sort ≡ 3 → (x ≡ 0 → ⊥) → externdesc sort x y ≡ sort ∷ 0x01 ∷ []
  unfolding externdesc typebound
  resource_bytes e n = simp (e, ne_eqb _ _ n)

  pub index_bytes : (sort ≡ 0 → ⊥) → (sort ≡ 2 → ⊥) → (sort ≡ 3 → ⊥) → externdesc sort x y ≡ sort ∷ unsigned x
  unfolding externdesc
  index_bytes o n m = simp (ne_eqb _ _ o, ne_eqb _ _ n, ne_eqb _ _ m)

  -- every reference has a byte
  pub reference_some : 1 ≤ length (externdesc sort x y)
  unfolding externdesc
  reference_some = go (eqb sort 0) (eqb sort 2) (eqb sort 3) (0x11 ∷ unsigned x) (valtype x y) (typebound x y) (unsigned x)
    where
      go : (m v t : Bool) (p q r s : List ℕ) → 1 ≤ length (cond m (0x00 ∷ p) (cond v (0x02 ∷ q) (cond t (0x03 ∷ r) (sort ∷ s))))
      go true v t p q r s = omega arith
      go false true t p q r s = omega arith
      go false false true p q r s = omega arith
      go false false false p q r s = omega arith

  -- seen
  pub value_reference : sort ≡ 2 → {v : ℕ} → Some v ≡ right_size [] field.Value (x ∷ y ∷ [])
      → (pool : List ℕ) → Known pool field.Reference (sort ∷ x ∷ y ∷ []) (1 + v)
  unfolding flaw bytes
  value_reference e {v} ev pool =
      let s : Known [] field.Value (x ∷ y ∷ []) v = known_of ev in
      reference_known (value_right e s.right) (omega (arith, ap length (value_bytes e), s.size)) pool

  pub bound_reference : sort ≡ 3 → x ≡ 0 → {n : ℕ} → n ≡ length (unsigned y)
      → (pool : List ℕ) → Known pool field.Reference (sort ∷ x ∷ y ∷ []) (2 + n)
  bound_reference e z en pool = reference_known (bound_right e z) (omega (arith, ap length (bound_bytes e z))) pool

  pub resource_reference : sort ≡ 3 → x ≡ 1 → y ≡ 0 → (pool : List ℕ) → Known pool field.Reference (sort ∷ x ∷ y ∷ []) 2
  resource_reference e o z pool =
      reference_known (resource_right e o z) (omega (arith, ap length (resource_bytes e (λ w. omega arith)))) pool

  pub module_reference : sort ≡ 0 → y ≡ 0 → {n : ℕ} → n ≡ length (unsigned x)
      → (pool : List ℕ) → Known pool field.Reference (sort ∷ x ∷ y ∷ []) (2 + n)
  module_reference e z en pool =
      reference_known (index_right (λ w. omega arith) (λ w. omega arith) (omega arith) z) (omega (arith, ap length (module_bytes e))) pool

  pub index_reference : (sort ≡ 0 → ⊥) → (sort ≡ 2 → ⊥) → (sort ≡ 3 → ⊥) → sort < 6 → y ≡ 0 → {n : ℕ} → n ≡ length (unsigned x)
      → (pool : List ℕ) → Known pool field.Reference (sort ∷ x ∷ y ∷ []) (1 + n)
  index_reference o n m h z en pool = reference_known (index_right n m h z) (omega (arith, ap length (index_bytes o n m))) pool

-- at its place in a row
pub reference_at : (pool ws : List ℕ) (n : ℕ) {r : ℕ} → Known pool field.Reference (word ws n ∷ word ws (n + 1) ∷ word ws (n + 2) ∷ []) r
    → Known pool field.Reference (drop n ws) r
unfolding flaw reference value bytes
reference_at pool ws n {r} s =
    let z : n + 0 ≡ n = omega arith in
    let a = get_or-drop n ws 0 0 ∙ ap (λ k. word ws k) z in
    let b = get_or-drop n ws 1 0 in
    let c = get_or-drop n ws 2 0 in
    let t : Known pool field.Reference (word (drop n ws) 0 ∷ word (drop n ws) 1 ∷ word (drop n ws) 2 ∷ []) r =
    subst (λ l. Known pool field.Reference l r) (λ i. sym a i ∷ sym b i ∷ sym c i ∷ []) s in
    record { right = t.right; size = t.size }
