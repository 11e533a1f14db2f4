-- Walks in steps, in either direction: one field, fields after others, and a loop over groups.
use Rattle.std.specs.Prelude.{Err, Ok}
use Prim.Native.Nat.{ℕ, suc, ◌+◌, ◌-◌, ◌≤◌, ◌<◌}
use native.Mathlib.Omega.{arith}
use mathlib.Core.Path.{◌≡◌, refl, sym, ap, ◌∙◌}
use mathlib.Core.List.{List, [], ◌∷◌, ◌++◌}
use lib.ListN.{drop}
use Rattle.fields.specs.declared.Field.{Field}
use Rattle.fields.specs.declared.Refusal.{Refusal}
use Rattle.fields.specs.Leaf.{Leaf, Fine, Bad}
use Rattle.fields.specs.inside.Run.{along, onward, after}
use Rattle.fields.specs.Shape.{repeated}
use Rattle.fields.proofs.RunLaws.{along-append}

-- one field, which l says of what stands at `at`
module _ (L : Field → List ℕ → Leaf) (xs : List ℕ) (f : Field) (at made : ℕ) (ys : List ℕ) (here : ys ≡ drop at xs) (l : Leaf) (el : l ≡ L f ys) where
  pub one_fine : (t m : ℕ) → l ≡ Fine t m → Fine (at + t) (made + m) ≡ onward L xs (f ∷ []) at made
  unfolding along
  one_fine t m e = rw (← here, ← el, e)

  pub one_bad : (w : Refusal) (j : ℕ) → l ≡ Bad w j → Bad w (at + j) ≡ onward L xs (f ∷ []) at made
  unfolding along
  one_bad w j e = rw (← here, ← el, e)

-- fields after fields are one walk
pub after_both : (L : Field → List ℕ → Leaf) (xs : List ℕ) (so l m : Leaf) (fs gs : List Field) → l ≡ after so (onward L xs fs)
    → m ≡ after l (onward L xs gs) → m ≡ after so (onward L xs (fs ++ gs))
after_both L xs so l m fs gs el em = em ∙ ap (λ l. after l (onward L xs gs)) el ∙ go so
  where
    go : (so : Leaf) → after (after so (onward L xs fs)) (onward L xs gs) ≡ after so (onward L xs (fs ++ gs))
    go (Ok span) = sym (along-append L fs gs xs span.took span.made)
    go (Err fault) = refl

-- two fields one by one are walked as the two: where the first is fine, and where it is not
module _ (L : Field → List ℕ → Leaf) (xs : List ℕ) (f g : Field) (at made : ℕ) (l : Leaf) (el : l ≡ onward L xs (f ∷ []) at made) where
  pub pair_fine : {next size : ℕ} → l ≡ Fine next size → (m : Leaf) → m ≡ onward L xs (g ∷ []) next size → m ≡ onward L xs (f ∷ g ∷ []) at made
  pair_fine e m em =
      after_both L xs (Fine at made) l m (f ∷ []) (g ∷ []) el (em ∙ sym (ap (λ l. after l (onward L xs (g ∷ []))) e))

  pub pair_bad : (w : Refusal) (j : ℕ) → l ≡ Bad w j → Bad w j ≡ onward L xs (f ∷ g ∷ []) at made
  pair_bad w j e =
      after_both L xs (Fine at made) l (Bad w j) (f ∷ []) (g ∷ []) el (sym (ap (λ l. after l (onward L xs (g ∷ []))) e))

-- with i groups walked, the walk over the rest of n, from here, is the whole
pub record Walked (L : Field → List ℕ → Leaf) (xs : List ℕ) (g : List Field) (n from base i at made : ℕ) : Type 0 where
  pub count : i ≤ n
  pub whole : onward L xs (repeated n g) from base ≡ onward L xs (repeated (n - i) g) at made

module _ (L : Field → List ℕ → Leaf) (xs : List ℕ) (g : List Field) (n from base : ℕ) where
  pub walked_start : Walked L xs g n from base 0 from base
  walked_start =
      let e : n ≡ n - 0 = omega arith in
      record { count = omega arith; whole = ap (λ k. onward L xs (repeated k g) from base) e }

  module _ (i at made : ℕ) (so : Walked L xs g n from base i at made) where
    pub walked_end : n ≤ i → Fine at made ≡ onward L xs (repeated n g) from base
    unfolding along repeated
    walked_end h =
        let e : n - i ≡ 0 = omega arith in
        sym (so.whole ∙ ap (λ k. onward L xs (repeated k g) at made) e)

    -- a round: l is what one group comes to
    module _ (h : i < n) (l : Leaf) (el : l ≡ onward L xs g at made) where
      round : onward L xs (repeated n g) from base ≡ after l (onward L xs (repeated (n - (i + 1)) g))
      unfolding repeated
      round =
          let e : n - i ≡ suc (n - (i + 1)) = omega arith in
          so.whole
          ∙ ap (λ k. onward L xs (repeated k g) at made) e
          ∙ along-append L g (repeated (n - (i + 1)) g) xs at made
          ∙ ap (λ l. after l (onward L xs (repeated (n - (i + 1)) g))) (sym el)

      pub walked_next : (a m : ℕ) → l ≡ Fine a m → Walked L xs g n from base (i + 1) a m
      walked_next a m e = record { count = omega arith; whole = round ∙ ap (λ l. after l (onward L xs (repeated (n - (i + 1)) g))) e }

      pub walked_bad : (w : Refusal) (j : ℕ) → l ≡ Bad w j → Bad w j ≡ onward L xs (repeated n g) from base
      walked_bad w j e = sym (round ∙ ap (λ l. after l (onward L xs (repeated (n - (i + 1)) g))) e)
