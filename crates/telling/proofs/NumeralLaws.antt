-- The laws of `specs/Numerals.antt`: a line's numbers stand in its parts between spaces, and what a loop over them does. Assumes nothing.
use Rattle.std.proofs.Common.{◌≡◌, ℕ, suc, ◌+◌, ◌%◌, ◌^◌, ◌<◌, ◌≤◌, Bool, true, false, eqb, List, [], ◌∷◌, ◌++◌, length, get_or, drop, set, map, refl, ap, ◌∙◌, add-zero, arith, drop_of_length-le, drop-cons, eq-eqb, ne_eqb, Option, Bor}
use Rattle.std.specs.List.{slice_split, slice_get}
use Rattle.std.specs.Option.{unwrap_or, option_map}
use Rattle.std.proofs.lemmas.Option.{unwrap_or-slice_get, slice_get-map}
use Rattle.std.proofs.lemmas.List.{length-map}
use lib.Seq.{sets}
use Rattle.telling.specs.Numerals.{with_digit, number_from, numbers_in, words_in, put, put_all}

-- ---- the number of a part

module _ (n : ℕ) (s : List ℕ) (i : ℕ) where
  pub number_here : i < length s → get_or s i 0 ≡ 32 → number_from n (drop i s) ≡ n
  unfolding number_from
  number_here l e = rw (drop-cons s i 0) (simp (eq-eqb _ _ e))

  pub number-on :
      i < length s → (get_or s i 0 ≡ 32 → ⊥) → number_from n (drop i s) ≡ number_from (with_digit n (get_or s i 0)) (drop (suc i) s)
  unfolding number_from
  number-on l e = rw (drop-cons s i 0) (simp (ne_eqb _ _ e))

  pub number_end : length s ≤ i → number_from n (drop i s) ≡ n
  unfolding number_from
  number_end l = rw (drop_of_length-le s l)

-- ---- the numbers of a line

-- the parts of a line between its spaces: the first has the digits up to the first space, and each other is a number
record IsSplit (s : List ℕ) (parts : List (List ℕ)) : Type 0 where
  first : List ℕ
  others : List (List ℕ)
  parts_are : parts ≡ first ∷ others
  first_has : (n : ℕ) → number_from n first ≡ number_from n s
  others_have : map (λ part. number_from 0 part) others ≡ numbers_in s

splits : (s : List ℕ) → IsSplit s (slice_split (λ b. eqb b 32) s)
unfolding number_from numbers_in
splits [] = record { first = []; others = []; parts_are = refl; first_has = λ n. refl; others_have = refl }
splits (b ∷ s) = go (eqb b 32) refl (splits s)
  where
    go :
        (t : Bool) → eqb b 32 ≡ t → IsSplit s (slice_split (λ b. eqb b 32) s) → IsSplit (b ∷ s) (slice_split (λ b. eqb b 32) (b ∷ s))
    go true e h = record {
      first = [];
      others = slice_split (λ b. eqb b 32) s;
      parts_are = rw e refl;
      first_has = λ n. rw e refl;
      others_have = rw (e, h.parts_are) (simp (h.first_has 0, h.others_have));
    }
    go false e h = record {
      first = b ∷ h.first;
      others = h.others;
      parts_are = rw (e, h.parts_are) refl;
      first_has = λ n. rw e (h.first_has (with_digit n b));
      others_have = rw e h.others_have;
    }

pub numbers-parts : (s : List ℕ) → map (λ part. number_from 0 part) (drop 1 (slice_split (λ b. eqb b 32) s)) ≡ numbers_in s
numbers-parts s = let h = splits s in rw h.parts_are h.others_have

pub number-at :
    (s : List ℕ) (place : ℕ) (r : Option (Bor (List ℕ)))
    → option_map (λ x. x.now) r ≡ slice_get (drop 1 (slice_split (λ b. eqb b 32) s)) place
    → unwrap_or (option_map (λ part. number_from 0 part) (option_map (λ x. x.now) r)) 0 ≡ get_or (numbers_in s) place 0
number-at s place r e =
    rw (e, ← slice_get-map (λ part. number_from 0 part) (drop 1 (slice_split (λ b. eqb b 32) s)) place, numbers-parts s) (unwrap_or-slice_get (numbers_in s) place 0)

-- ---- a word more

pub sets-append : (row : List ℕ) (i : ℕ) (words : List ℕ) (word : ℕ) → sets row i (words ++ (word ∷ [])) ≡ set (sets row i words) (i + length words) word
sets-append row i [] word = rw (add-zero i)
sets-append row i (w ∷ words) word = sets-append (set row i w) (suc i) words word ∙ ap (λ k. set (sets (set row i w) (suc i) words) k word) (omega arith)

-- ---- all of them

pub words-put :
    (s row : List ℕ) (parts : List (Bor (List ℕ)))
    → map (λ x. x.now) parts ≡ drop 1 (slice_split (λ b. eqb b 32) s)
    → put (length parts) (sets row 0 (map (λ part. number_from 0 part.now % 2 ^ 32) parts)) ≡ put_all (words_in s) row
words-put s row parts e = rw (← numbers-parts s, ← e, go parts, length-map)
  where
    go :
        (parts : List (Bor (List ℕ)))
        → map (λ n. n % 2 ^ 32) (map (λ part. number_from 0 part) (map (λ x. x.now) parts))
        ≡ map (λ part. number_from 0 part.now % 2 ^ 32) parts
    go [] = refl
    go (part ∷ parts) = rw (go parts)
