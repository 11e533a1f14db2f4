-- A number is taken from exactly the core document's integers of 32 bits, and what is put is one of them.
use Rattle.std.specs.Prelude.{Ok}
use Rattle.std.proofs.Common.{◌≡◌, ℕ, zero, suc, ◌+◌, ◌-◌, ◌*◌, ◌^◌, ◌<◌, ◌≤◌, Bool, true, false, cond, ltb, List, [], ◌∷◌, ◌++◌, length, get_or, take, sym, refl, subst, add-one, arith, pow-add, ltb-false, ltb-true, le-ltb, lt-ltb}
use Rattle.numbers.specs.Bytes.{Bytes}
use Rattle.numbers.specs.Exact.{TakenExactly}
use Rattle.numbers.specs.Integers as integer
use Rattle.numbers.specs.Integers.{Integer, Form, u32, s33}
use Rattle.numbers.specs.Leb.{more, number_in, within32, take_in}
use Rattle.numbers.specs.Taken.{Taken, Value, Cut, Bad}
use Rattle.numbers.proofs.IntegerLaws.{bits, integer-size}
use Rattle.numbers.proofs.Impossible.{impossible}
use Rattle.numbers.proofs.OutcomeLaws.{value-same}

-- what is within 32 bits was there, and is
record Within (r : Taken) (n t : ℕ) : Type 0 where
  is : r ≡ Value n t
  small : n < 2 ^ 32

within : (r : Taken) (n t : ℕ) → within32 r ≡ Value n t → Within r n t
unfolding within32
within (Ok taken) n t e = go (ltb taken.value (2 ^ 32)) refl e
  where
    go : (q : Bool) → ltb taken.value (2 ^ 32) ≡ q → cond q (Value taken.value taken.took) Bad ≡ Value n t → Within (Value taken.value taken.took) n t
    go true h e =
        let x : taken.value ≡ n = cc in
        record { is = e; small = omega (arith, ltb-true taken.value (2 ^ 32) h) }
    go false h e = impossible cc
within Cut n t e = impossible cc
within Bad n t e = impossible cc

-- a number that was taken has 32 bits
pub taken-small : (end : ℕ) (s : List ℕ) (n t : ℕ) → take_in end s ≡ Value n t → n < 2 ^ 32
unfolding take_in
taken-small end s n t e = (within (number_in end 5 s) n t e).small

-- of at most five bytes
pub taken_in : (end : ℕ) (s : List ℕ) (n t : ℕ) → take_in end s ≡ Value n t → number_in end 5 s ≡ Value n t
unfolding take_in
taken_in end s n t e = (within (number_in end 5 s) n t e).is

module _ (end : ℕ) where
  -- a number of at most k bytes has one at least, and they are there
  pub inside : (k : ℕ) (s : List ℕ) (v t : ℕ) → number_in end k s ≡ Value v t → (0 < t) × (t ≤ k) × (t ≤ length s)
  unfolding number_in more
  inside zero s v t e = impossible cc
  inside (suc k) [] v t e = impossible cc
  inside (suc k) (b ∷ s) v t e = go (ltb b 128) (ltb b end) e (inside k s)
    where
      later : Type 0
      later = (w u : ℕ) → number_in end k s ≡ Value w u → (0 < u) × (u ≤ k) × (u ≤ length s)

      rest : (r : Taken) → number_in end k s ≡ r → more b r ≡ Value v t → later → (0 < t) × (t ≤ suc k) × (t ≤ suc (length s))
      rest (Ok taken) r e ih = let a : taken.took + 1 ≡ t = (value-same e).1 in omega (arith, ih taken.value taken.took r)
      rest Cut r e ih = impossible cc
      rest Bad r e ih = impossible cc

      go : (p q : Bool) → cond p (cond q (Value b 1) Bad) (more b (number_in end k s)) ≡ Value v t → later → (0 < t) × (t ≤ suc k) × (t ≤ suc (length s))
      go true true e ih = let a : 1 ≡ t = (value-same e).1 in omega arith
      go true false e ih = impossible cc
      go false q e ih = rest (number_in end k s) refl e ih

  -- where the input ends inside a number
  cut_in : (k : ℕ) (s : List ℕ) → number_in end k s ≡ Cut → (length s < k) × ((i : ℕ) → i < length s → 128 ≤ get_or s i 0)
  unfolding number_in more
  cut_in zero s e = impossible cc
  cut_in (suc k) [] e = (omega arith, λ i h. absurd (omega arith))
  cut_in (suc k) (b ∷ s) e = go (ltb b 128) (ltb b end) refl e (cut_in k s)
    where
      All : List ℕ → Type 0
      All l = (i : ℕ) → i < length l → 128 ≤ get_or l i 0

      all : 128 ≤ b → All s → All (b ∷ s)
      all m h zero p = m
      all m h (suc i) p = h i (omega arith)

      later : Type 0
      later = number_in end k s ≡ Cut → (length s < k) × All s

      rest : (r : Taken) → number_in end k s ≡ r → 128 ≤ b → more b r ≡ Cut → later → (suc (length s) < suc k) × All (b ∷ s)
      rest (Ok taken) r m e ih = impossible cc
      rest Cut r m e ih = let h = ih r in (omega (arith, h.0), all m h.1)
      rest Bad r m e ih = impossible cc

      go : (p q : Bool) → ltb b 128 ≡ p → cond p (cond q (Value b 1) Bad) (more b (number_in end k s)) ≡ Cut → later
          → (suc (length s) < suc k) × All (b ∷ s)
      go true true ep e ih = impossible cc
      go true false ep e ih = impossible cc
      go false q ep e ih = rest (number_in end k s) refl (ltb-false b 128 ep) e ih

  in_cut : (k : ℕ) (s : List ℕ) → length s < k → ((i : ℕ) → i < length s → 128 ≤ get_or s i 0) → number_in end k s ≡ Cut
  unfolding number_in more
  in_cut zero s h f = absurd (omega arith)
  in_cut (suc k) [] h f = refl
  in_cut (suc k) (b ∷ s) h f =
      simp (le-ltb b 128 (f 0 (omega arith)), in_cut k s (omega arith) (λ i p. f (suc i) (omega arith)))

  cut : (s : List ℕ) → take_in end s ≡ Cut → (length s < 5) × ((i : ℕ) → i < length s → 128 ≤ get_or s i 0)
  unfolding take_in within32
  cut s e = go (number_in end 5 s) refl e
    where
      fit : (w u : ℕ) (q : Bool) → cond q (Value w u) Bad ≡ Cut → (length s < 5) × ((i : ℕ) → i < length s → 128 ≤ get_or s i 0)
      fit w u true e = impossible cc
      fit w u false e = impossible cc

      go : (r : Taken) → number_in end 5 s ≡ r → within32 r ≡ Cut → (length s < 5) × ((i : ℕ) → i < length s → 128 ≤ get_or s i 0)
      go (Ok taken) r e = fit taken.value taken.took (ltb taken.value (2 ^ 32)) e
      go Cut r e = cut_in 5 s r
      go Bad r e = impossible cc

  is_cut : (s : List ℕ) → length s < 5 → ((i : ℕ) → i < length s → 128 ≤ get_or s i 0) → take_in end s ≡ Cut
  unfolding take_in within32
  is_cut s h f = rw (in_cut 5 s h f)

module _ (end sign : ℕ) (low : 63 < end) (high : end ≤ 128) (slight : sign ≤ 1) where
  -- ---- every integer is taken

  taking : (j : ℕ) {N : ℕ} {bytes : List ℕ} {n : ℕ} → N ≡ bits j + sign → Integer end sign N bytes n → (rest : List ℕ)
      → (number_in end (suc j) (bytes ++ rest) ≡ Value n (length bytes)) × (n < 2 ^ bits j)
  unfolding number_in more
  taking j e (integer.last {N} {n} l h) rest =
      let d : N - sign ≡ bits j = omega arith in
      (simp (lt-ltb n 128 (omega arith), lt-ltb n end l), subst (λ m. n < 2 ^ m) d h)
  taking zero e (integer.more {N} {n} {m} {bytes} l h p i) rest = absurd (omega arith)
  taking (suc j) e (integer.more {N} {n} {m} {bytes} l h p i) rest =
      let d : N - 7 ≡ bits j + sign = omega arith in
      let k = taking j d i rest in
      let v : m * 128 + (n - 128) ≡ 2 ^ 7 * m + (n - 2 ^ 7) = omega arith in
      (simp (le-ltb n 128 l, k.0) (λ x. Value (v x) (add-one (length bytes) x)), omega (arith, pow-add 2 7 (bits j), k.1))

  is_taken : (bytes rest : List ℕ) (n : ℕ) → Integer end sign (32 + sign) bytes n → take_in end (bytes ++ rest) ≡ Value n (length bytes)
  unfolding take_in within32
  is_taken bytes rest n i =
      let k = taking 4 refl i rest in
      rw k.0 (simp (lt-ltb n (2 ^ 32) k.1))

  -- ---- what is taken is an integer

  -- a last byte, and a byte before an integer
  ends : (j b : ℕ) (s : List ℕ) (v t : ℕ) → b < end → Value b 1 ≡ Value v t → v < 2 ^ bits j → Integer end sign (bits j + sign) (take t (b ∷ s)) v
  ends j b s v t l e h =
      let (x, a) = value-same e in
      let d : bits j + sign - sign ≡ bits j = omega arith in
      rw (← a, ← x) (integer.last l (subst (λ m. b < 2 ^ m) (sym d) (subst (λ m. m < 2 ^ bits j) (sym x) h)))

  goes_on : (j b : ℕ) (s : List ℕ) (w u v t : ℕ) → 2 ^ 7 ≤ b → b < 2 ^ 8 → Value (w * 128 + (b - 128)) (u + 1) ≡ Value v t
      → 7 < bits (suc j) → Integer end sign (bits j + sign) (take u s) w → Integer end sign (bits (suc j) + sign) (take t (b ∷ s)) v
  goes_on j b s w u v t l h e p i =
      let (x, a) = value-same e in
      let y : 2 ^ 7 * w + (b - 2 ^ 7) ≡ v = omega arith in
      let d : bits (suc j) + sign - 7 ≡ bits j + sign = omega arith in
      rw (← a, add-one)
      (subst (λ m. Integer end sign (bits (suc j) + sign) (b ∷ take u s) m) y
      (integer.more l h (omega arith) (subst (λ m. Integer end sign m (take u s) w) (sym d) i)))

  some : (j : ℕ) → 7 < bits (suc j)
  some zero = omega arith
  some (suc j) = omega (arith, some j)

  only : (j : ℕ) (s : List ℕ) → Bytes s → (v t : ℕ) → number_in end (suc j) s ≡ Value v t → v < 2 ^ bits j
      → Integer end sign (bits j + sign) (take t s) v
  unfolding number_in more
  only j [] f v t e h = impossible cc
  only zero (b ∷ s) f v t e h = go (ltb b 128) (ltb b end) refl e
    where
      go : (p q : Bool) → ltb b end ≡ q → cond p (cond q (Value b 1) Bad) Bad ≡ Value v t → Integer end sign (4 + sign) (take t (b ∷ s)) v
      go true true eq e = ends zero b s v t (ltb-true b end eq) e h
      go true false eq e = impossible cc
      go false q eq e = impossible cc
  only (suc j) (b ∷ s) f v t e h = go (ltb b 128) (ltb b end) refl refl e (only j s (λ i. f (suc i)))
    where
      goal : Type 0
      goal = Integer end sign (bits (suc j) + sign) (take t (b ∷ s)) v

      later : Type 0
      later = (w u : ℕ) → number_in end (suc j) s ≡ Value w u → w < 2 ^ bits j → Integer end sign (bits j + sign) (take u s) w

      rest : (r : Taken) → number_in end (suc j) s ≡ r → 128 ≤ b → more b r ≡ Value v t → later → goal
      rest (Ok taken) r m e ih =
          let x : taken.value * 128 + (b - 128) ≡ v = (value-same e).0 in
          goes_on j b s taken.value taken.took v t m (f 0) e (some j) (ih taken.value taken.took r (omega (arith, pow-add 2 7 (bits j))))
      rest Cut r m e ih = impossible cc
      rest Bad r m e ih = impossible cc

      go : (p q : Bool) → ltb b 128 ≡ p → ltb b end ≡ q → cond p (cond q (Value b 1) Bad) (more b (number_in end (suc j) s)) ≡ Value v t → later → goal
      go true true ep eq e ih = ends (suc j) b s v t (ltb-true b end eq) e h
      go true false ep eq e ih = impossible cc
      go false q ep eq e ih = rest (number_in end (suc j) s) refl (ltb-false b 128 ep) e ih

  exact : TakenExactly end sign
  exact =
      record {
        is_one = λ s n t f e. ((inside end 5 s n t (taken_in end s n t e)).2, only 4 s f n t (taken_in end s n t e) (taken-small end s n t e));
        is_taken = is_taken;
        five = λ bytes n i. integer-size 4 refl slight i;
        cut = cut end;
        is_cut = is_cut end;
      }

-- ---- the laws for both forms

pub taken-exactly : {end sign : ℕ} → Form end sign → TakenExactly end sign
taken-exactly u32 = exact 128 0 (omega arith) (omega arith) (omega arith)
taken-exactly s33 = exact 64 1 (omega arith) (omega arith) (omega arith)
