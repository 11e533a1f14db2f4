-- What the loop that reads a number keeps. Assumes nothing.
use Rattle.std.specs.Prelude.{Ok}
use Rattle.std.proofs.Common.{◌≡◌, ℕ, zero, suc, ◌+◌, ◌-◌, ◌*◌, ◌^◌, ◌<◌, ◌≤◌, List, length, get_or, drop, refl, ap, ◌∙◌, mul-le-mul_right, mul_assoc, mul_comm, add-mul, add-one, arith, drop_of_length-le, drop-cons, le-ltb, lt-ltb}
use Rattle.numbers.specs.Leb.{more, number_in, within32, take_in}
use Rattle.numbers.specs.Taken.{Taken, Value, Cut, Bad}
use Rattle.numbers.proofs.Shortest.{room}

pub number_end : (end k : ℕ) (s : List ℕ) (i : ℕ) → length s ≤ i → number_in end (suc k) (drop i s) ≡ Cut
unfolding number_in
number_end end k s i h = rw (drop_of_length-le s h)

pub number-last : (end k : ℕ) (s : List ℕ) (i : ℕ) → i < length s → get_or s i 0 < 128 → get_or s i 0 < end
    → number_in end (suc k) (drop i s) ≡ Value (get_or s i 0) 1
unfolding number_in
number-last end k s i h l e = rw (drop-cons s i 0 h) (simp (lt-ltb _ _ l, lt-ltb _ _ e))

pub number_past : (end k : ℕ) (s : List ℕ) (i : ℕ) → i < length s → get_or s i 0 < 128 → end ≤ get_or s i 0
    → number_in end (suc k) (drop i s) ≡ Bad
unfolding number_in
number_past end k s i h l e = rw (drop-cons s i 0 h) (simp (lt-ltb _ _ l, le-ltb _ _ e))

pub number_more : (end k : ℕ) (s : List ℕ) (i : ℕ) → i < length s → 128 ≤ get_or s i 0
    → number_in end (suc k) (drop i s) ≡ more (get_or s i 0) (number_in end k (drop (suc i) s))
unfolding number_in
number_more end k s i h l = rw (drop-cons s i 0 h) (simp (le-ltb _ _ l))

-- the number that the first i bytes begin, which come to `low`, where those from i on read as r
abbrev pub after : ℕ → ℕ → ℕ → Taken → Taken
after low scale i (Ok taken) = Value (low + taken.value * scale) (i + taken.took)
after low scale i Cut = Cut
after low scale i Bad = Bad

pub after_none : (r : Taken) → r ≡ after 0 1 0 r
after_none (Ok taken) =
    let p : taken.value ≡ 0 + taken.value * 1 = omega arith in
    let q : taken.took ≡ 0 + taken.took = omega arith in
    λ j. Value (p j) (q j)
after_none Cut = refl
after_none Bad = refl

pub after_more : (low scale i b : ℕ) (r : Taken) → after low scale i (more b r) ≡ after (low + (b - 128) * scale) (scale * 128) (i + 1) r
unfolding more
after_more low scale i b (Ok taken) =
    let sum : low + (taken.value * 128 + (b - 128)) * scale ≡ low + (b - 128) * scale + taken.value * (scale * 128) =
    omega (arith, add-mul (taken.value * 128) (b - 128) scale, mul_assoc taken.value 128 scale, ap (λ (k : ℕ). taken.value * k) (mul_comm 128 scale)) in
    let place : i + (taken.took + 1) ≡ i + 1 + taken.took = omega arith in
    λ j. Value (sum j) (place j)
after_more low scale i b Cut = refl
after_more low scale i b Bad = refl

pub scale_bound : (i : ℕ) → i < 5 → room 1 i ≤ 2 ^ 28
scale_bound zero h = omega arith
scale_bound (suc zero) h = omega arith
scale_bound (suc (suc zero)) h = omega arith
scale_bound (suc (suc (suc zero))) h = omega arith
scale_bound (suc (suc (suc (suc zero)))) h = omega arith
scale_bound (suc (suc (suc (suc (suc i))))) h = absurd (omega arith)

-- the loop's invariant: the whole reads as what the bytes before i come to, with what those from i on read as
pub record Begun (s : List ℕ) (end i low scale : ℕ) : Type 0 where
  pub k : ℕ
  pub due : k + i ≡ 5
  pub scaled : scale ≡ room 1 i
  pub below : low < scale
  pub is : number_in end 5 s ≡ after low scale i (number_in end k (drop i s))

pub begun : (s : List ℕ) (end : ℕ) → Begun s end 0 0 1
begun s end =
    record { k = 5; due = omega arith; scaled = refl; below = omega arith; is = after_none (number_in end 5 s) }

-- one byte more may be read
record Open (s : List ℕ) (end i low scale : ℕ) : Type 0 where
  j : ℕ
  due : suc j + i ≡ 5
  is : number_in end 5 s ≡ after low scale i (number_in end (suc j) (drop i s))

opened : {s : List ℕ} {end i low scale : ℕ} → Begun s end i low scale → i < 5 → Open s end i low scale
opened {s} {end} {i} {low} {scale} B h = go B.k B.due B.is
  where
    go : (k : ℕ) → k + i ≡ 5 → number_in end 5 s ≡ after low scale i (number_in end k (drop i s)) → Open s end i low scale
    go zero l e = absurd (omega arith)
    go (suc j) l e = record { j = j; due = l; is = e }

module _ {s : List ℕ} {end i low scale : ℕ} (B : Begun s end i low scale) (h : i < 5) where
  O : Open s end i low scale
  O = opened B h

  pub cut : length s ≤ i → Cut ≡ take_in end s
  unfolding take_in within32
  cut l = rw (O.is, number_end end O.j s i l)

  module _ (l : i < length s) where
    b : ℕ
    b = get_or s i 0

    pub past : get_or s i 0 < 128 → end ≤ get_or s i 0 → Bad ≡ take_in end s
    unfolding take_in within32
    past m e = rw (O.is, number_past end O.j s i l m e)

    pub wide : get_or s i 0 < 128 → get_or s i 0 < end → 0xffff_ffff < low + get_or s i 0 * scale → Bad ≡ take_in end s
    unfolding take_in within32
    wide m e g = rw (O.is, number-last end O.j s i l m e) (simp (le-ltb _ _ g))

    pub value : get_or s i 0 < 128 → get_or s i 0 < end → low + get_or s i 0 * scale ≤ 0xffff_ffff
        → Value (low + get_or s i 0 * scale) (i + 1) ≡ take_in end s
    unfolding take_in within32
    value m e g = rw (O.is, number-last end O.j s i l m e) (simp (lt-ltb (low + get_or s i 0 * scale) (2 ^ 32) (omega arith)))

    pub again : 128 ≤ get_or s i 0 → get_or s i 0 < 256 → Begun s end (i + 1) (low + (get_or s i 0 - 128) * scale) (scale * 128)
    again m f =
        record {
          k = O.j;
          due = omega (arith, O.due);
          scaled = rw add-one (omega (arith, B.scaled));
          below = omega (arith, B.below, mul-le-mul_right {m = get_or s i 0 - 128} {n = 127} scale (omega arith));
          is = O.is ∙ ap (after low scale i) (number_more end O.j s i l m)
              ∙ after_more low scale i (get_or s i 0) (number_in end O.j (drop (suc i) s))
              ∙ rw add-one;
        }

pub five : {s : List ℕ} {end i low scale : ℕ} → Begun s end i low scale → 5 ≤ i → Bad ≡ take_in end s
unfolding take_in within32 number_in
five {s} {end} {i} {low} {scale} B h = go B.k B.due B.is
  where
    go : (k : ℕ) → k + i ≡ 5 → number_in end 5 s ≡ after low scale i (number_in end k (drop i s)) → Bad ≡ within32 (number_in end 5 s)
    go zero l e = rw e
    go (suc j) l e = absurd (omega arith)
