-- The laws of `specs/Lines.antt`: `starts` and `until` in the words of std. Assumes nothing.
use Rattle.std.proofs.Common.{◌≡◌, ℕ, suc, ◌≤◌, Bool, true, false, ◌&&◌, cond, eqb, List, [], ◌∷◌, length, take, refl, sym, one-add, arith, eqb-true, eq-eqb, ne_eqb, ltb, ltb-false, Some, None}
use Rattle.std.specs.Cmp.Lexicographic.{pointwise}
use Rattle.std.specs.List.{position_or_len}
use Rattle.std.specs.Option.{unwrap_or}
use Rattle.std.proofs.lemmas.Bool.{eqb-false}
use Rattle.std.proofs.lemmas.List.Recursion.{is_position_or_len}
use Rattle.telling.specs.Lines.{starts, until}

eqb-sym : (a b : ℕ) → eqb a b ≡ eqb b a
eqb-sym a b = go (eqb b a) refl
  where
    go : (t : Bool) → eqb b a ≡ t → eqb a b ≡ t
    go true e = eq-eqb a b (sym (eqb-true b a e))
    go false e = ne_eqb a b (λ h. eqb-false b a e (sym h))

-- the line's front is the word, byte by byte
pub starts_pointwise : (line word : List ℕ) → pointwise eqb word (take (length word) line) ≡ starts line word
unfolding starts
starts_pointwise line [] = refl
starts_pointwise [] (w ∷ word) = refl
starts_pointwise (b ∷ line) (w ∷ word) = rw (eqb-sym w b, starts_pointwise line word) (go (eqb b w))
  where
    go : (t : Bool) → t && starts line word ≡ cond t (starts line word) false
    go true = refl
    go false = refl

-- the first place that holds the byte
pub until_position : (byte : ℕ) (s : List ℕ) → until byte s ≡ position_or_len (λ b. eqb b byte) s
unfolding until
until_position byte = is_position_or_len (until byte) (λ b. eqb b byte) refl (λ b s. rw one-add refl)

until-within : (byte : ℕ) (s : List ℕ) → until byte s ≤ length s
unfolding until
until-within byte [] = omega arith
until-within byte (b ∷ s) = go (eqb b byte) (until-within byte s)
  where
    go : (t : Bool) → until byte s ≤ length s → cond t 0 (suc (until byte s)) ≤ suc (length s)
    go true h = omega arith
    go false h = omega arith

-- what `position` answers, or the length
pub next_position :
    (byte : ℕ) (s : List ℕ)
    → let n = position_or_len (λ b. eqb b byte) s in unwrap_or (cond (ltb n (length s)) (Some n) None) (length s) ≡ until byte s
next_position byte s = rw (← until_position byte s) (go (ltb (until byte s) (length s)) refl (until-within byte s))
  where
    go :
        (t : Bool) → ltb (until byte s) (length s) ≡ t → until byte s ≤ length s
        → unwrap_or (cond t (Some (until byte s)) None) (length s) ≡ until byte s
    go true e h = refl
    go false e h = let k = ltb-false _ _ e in omega arith
