-- A number as straight code sees it: when there is one, what it then is, what the first byte tells of it, and the short numbers of two
-- or three bytes.
use Rattle.std.specs.Prelude.{Ok, Err, Option, Some, None}
use Rattle.std.proofs.Common.{◌≡◌, ℕ, zero, suc, ◌+◌, ◌-◌, ◌*◌, ◌/◌, ◌%◌, ◌^◌, ◌<◌, ◌≤◌, Bool, true, false, cond, ltb, List, [], ◌∷◌, ◌++◌, length, get_or, take, drop, sym, refl, ap, ◌∙◌, mul-zero, mul-one, arith, take-append-drop, ltb-false, ltb-true, le-ltb, lt-ltb}
use Rattle.numbers.specs.Integers.{Form, u32, s33}
use Rattle.numbers.specs.Leb.{more, number_in, within32, take_in, take_unsigned, take_signed}
use Rattle.numbers.specs.Seen.{number, seen, short_signed}
use Rattle.numbers.specs.declared.leb.Number.{Number}
use Rattle.numbers.specs.Taken.{Taken, Value, Cut, Bad}
use Rattle.numbers.proofs.ExactLaws.{taken-small}
use Rattle.numbers.proofs.LebLaws.{taken-inside, take-one}
use Rattle.numbers.proofs.Impossible.{impossible}

-- ---- what is seen

-- a number that was taken is seen
pub seen_value : (t : Taken) (n k : ℕ) → t ≡ Value n k → seen t ≡ Some (number n k)
seen_value t n k e = ap seen e

-- where nothing was taken, nothing is seen
pub seen-cut : (t : Taken) → t ≡ Cut → seen t ≡ None
seen-cut t e = ap seen e

pub seen_bad : (t : Taken) → t ≡ Bad → seen t ≡ None
seen_bad t e = ap seen e

-- what is seen was taken
pub seen-taken : (t : Taken) (r : Number) → seen t ≡ Some r → t ≡ Ok r
seen-taken (Ok taken) r e = cc
seen-taken (Err why) r e = impossible cc

-- a number that was taken has 32 bits, of each form
pub index-small : (s : List ℕ) (n t : ℕ) → take_unsigned s ≡ Value n t → n < 2 ^ 32
index-small s n t e = taken-small 128 s n t e

pub signed-small : (s : List ℕ) (n t : ℕ) → take_signed s ≡ Value n t → n < 2 ^ 32
signed-small s n t e = taken-small 64 s n t e

-- a number that is seen is the one that is taken; it has 1 to 5 bytes, which are there, and 32 bits
pub seen-some : {end sign : ℕ} → Form end sign → (s : List ℕ) (r : Number) → seen (take_in end s) ≡ Some r
    → (take_in end s ≡ Ok r) × (0 < r.took) × (r.took ≤ 5) × (r.took ≤ length s) × (r.value < 2 ^ 32)
seen-some {end} f s r h =
    let e = seen-taken (take_in end s) r h in
    let k = taken-inside f s r.value r.took e in
    (e, k.0, k.1, k.2, taken-small end s r.value r.took e)

-- where none is seen, none is taken
pub seen_none : (t : Taken) → seen t ≡ None → (n k : ℕ) → t ≡ Value n k → ⊥
seen_none (Ok taken) z n k e = impossible cc
seen_none (Err why) z n k e = impossible cc

-- ---- what the first byte tells

-- no byte, as a list and by its length
pub take_empty : (end : ℕ) → take_in end [] ≡ Cut
unfolding take_in within32 number_in
take_empty end = refl

pub take_none : (end : ℕ) (s : List ℕ) → length s ≡ 0 → take_in end s ≡ Cut
take_none end [] e = take_empty end
take_none end (b ∷ s) e = absurd (omega arith)

-- one byte
pub take-low : {end sign : ℕ} → Form end sign → (s : List ℕ) → 0 < length s → get_or s 0 0 < end → take_in end s ≡ Value (get_or s 0 0) 1
take-low f [] h k = absurd (omega arith)
take-low f (b ∷ s) h k = take-one f b s k

-- a last byte that is too great
pub take_past : {end sign : ℕ} → Form end sign → (s : List ℕ) → end ≤ get_or s 0 0 → get_or s 0 0 < 128 → take_in end s ≡ Bad
unfolding take_in within32 number_in
take_past u32 s h k = absurd (omega arith)
take_past s33 [] h k = absurd (omega arith)
take_past s33 (b ∷ s) h k = simp (lt-ltb b 128 k, le-ltb b 64 h)

-- ---- numbers of two and of three bytes

-- what the bytes come to: the second tells whether there is a third
abbrev few : ℕ → ℕ → ℕ → ℕ
few b c d = b % 128 + 128 * (c % 128) + 16384 * (d * (c / 128))

few-two : (b c d : ℕ) → 128 ≤ b → b < 256 → c < 128 → few b c d ≡ c * 128 + (b - 128)
few-two b c d hb kb hc =
    let none : c / 128 ≡ 0 = omega arith in
    let zero : d * (c / 128) ≡ 0 = ap (λ k. d * k) none ∙ mul-zero d in
    omega arith

few-three : (b c d : ℕ) → 128 ≤ b → b < 256 → 128 ≤ c → c < 256 → few b c d ≡ (d * 128 + (c - 128)) * 128 + (b - 128)
few-three b c d hb kb hc kc =
    let one : c / 128 ≡ 1 = omega arith in
    let same : d * (c / 128) ≡ d = ap (λ k. d * k) one ∙ mul-one d in
    omega arith

-- the number of two bytes, its last below 64; and a last byte that is too great
two_is : (b c : ℕ) (s : List ℕ) → 128 ≤ b → b < 256 → c < 64 → take_signed (b ∷ c ∷ s) ≡ Value (c * 128 + (b - 128)) 2
unfolding take_in within32 number_in more
two_is b c s hb kb hc =
    simp (le-ltb b 128 hb, lt-ltb c 128 (omega arith), lt-ltb c 64 hc, lt-ltb (c * 128 + (b - 128)) (2 ^ 32) (omega arith))

two_past : (b c : ℕ) (s : List ℕ) → 128 ≤ b → 64 ≤ c → c < 128 → take_signed (b ∷ c ∷ s) ≡ Bad
unfolding take_in within32 number_in more
two_past b c s hb hc kc = simp (le-ltb b 128 hb, lt-ltb c 128 kc, le-ltb c 64 hc)

-- the same of three bytes; and a third that is not the last
three_is_lem : (b c d : ℕ) (s : List ℕ) → 128 ≤ b → b < 256 → 128 ≤ c → c < 256 → d < 64
    → take_signed (b ∷ c ∷ d ∷ s) ≡ Value ((d * 128 + (c - 128)) * 128 + (b - 128)) 3
unfolding take_in within32 number_in more
three_is_lem b c d s hb kb hc kc hd =
    let n = (d * 128 + (c - 128)) * 128 + (b - 128) in
    simp (le-ltb b 128 hb, le-ltb c 128 hc, lt-ltb d 128 (omega arith), lt-ltb d 64 hd, lt-ltb n (2 ^ 32) (omega arith))

three-past : (b c d : ℕ) (s : List ℕ) → 128 ≤ b → 128 ≤ c → 64 ≤ d → d < 128 → take_signed (b ∷ c ∷ d ∷ s) ≡ Bad
unfolding take_in within32 number_in more
three-past b c d s hb hc hd kd = simp (le-ltb b 128 hb, le-ltb c 128 hc, lt-ltb d 128 kd, le-ltb d 64 hd)

three-cut : (b c d : ℕ) → 128 ≤ b → 128 ≤ c → 128 ≤ d → take_signed (b ∷ c ∷ d ∷ []) ≡ Cut
unfolding take_in within32 number_in more
three-cut b c d hb hc hd = simp (le-ltb b 128 hb, le-ltb c 128 hc, le-ltb d 128 hd)

-- where the last byte is y, what the bytes come to is seen where y is below 64, and nothing else
module _ (b c d y : ℕ) (hb : 128 ≤ b) (kb : b < 256) (kc : c < 256) (two : c < 128 → y ≡ c) (three : 128 ≤ c → y ≡ d) where
  few_above : 64 ≤ y → None ≡ seen (take_signed (b ∷ c ∷ d ∷ []))
  few_above h = go (ltb c 128) refl (ltb d 128) refl
    where
      go : (t : Bool) → ltb c 128 ≡ t → (u : Bool) → ltb d 128 ≡ u → None ≡ seen (take_signed (b ∷ c ∷ d ∷ []))
      go true e u q =
          let hc : c < 128 = ltb-true c 128 e in
          sym (seen_bad _ (two_past b c (d ∷ []) hb (omega (arith, two hc)) hc))
      go false e true q =
          let hc : 128 ≤ c = ltb-false c 128 e in
          sym (seen_bad _ (three-past b c d [] hb hc (omega (arith, three hc)) (ltb-true d 128 q)))
      go false e false q = sym (seen-cut _ (three-cut b c d hb (ltb-false c 128 e) (ltb-false d 128 q)))

  few_is : y < 64 → Some (number (few b c y) (2 + c / 128)) ≡ seen (take_signed (b ∷ c ∷ d ∷ []))
  few_is h = go (ltb c 128) refl
    where
      go : (t : Bool) → ltb c 128 ≡ t → Some (number (few b c y) (2 + c / 128)) ≡ seen (take_signed (b ∷ c ∷ d ∷ []))
      go true e =
          let hc : c < 128 = ltb-true c 128 e in
          let value = few-two b c y hb kb hc in
          let took : 2 + c / 128 ≡ 2 = omega arith in
          (λ i. Some (number (value i) (took i))) ∙ sym (seen_value _ _ _ (two_is b c (d ∷ []) hb kb (omega (arith, two hc))))
      go false e =
          let hc : 128 ≤ c = ltb-false c 128 e in
          let value = ap (λ n. few b c n) (three hc) ∙ few-three b c d hb kb hc kc in
          let took : 2 + c / 128 ≡ 3 = omega arith in
          (λ i. Some (number (value i) (took i))) ∙ sym (seen_value _ _ _ (three_is_lem b c d [] hb kb hc kc (omega (arith, three hc))))

-- ---- a short number at the front

-- fewer than three bytes, or a first that is the last: none
pub short-few : (s : List ℕ) → length s < 3 → short_signed s ≡ None
unfolding short_signed
short-few s h = simp (lt-ltb (length s) 3 h)

pub short-low : (s : List ℕ) → 3 ≤ length s → get_or s 0 0 < 128 → short_signed s ≡ None
unfolding short_signed
short-low s h k = simp (le-ltb (length s) 3 h, lt-ltb (get_or s 0 0) 128 k)

-- what is seen of the first three bytes
first_three : (s : List ℕ) → 3 ≤ length s → take 3 s ≡ get_or s 0 0 ∷ get_or s 1 0 ∷ get_or s 2 0 ∷ []
first_three [] h = absurd (omega arith)
first_three (b ∷ []) h = absurd (omega arith)
first_three (b ∷ c ∷ []) h = absurd (omega arith)
first_three (b ∷ c ∷ d ∷ s) h = refl

short_is : (s : List ℕ) → 3 ≤ length s → 128 ≤ get_or s 0 0
    → seen (take_signed (get_or s 0 0 ∷ get_or s 1 0 ∷ get_or s 2 0 ∷ [])) ≡ short_signed s
unfolding short_signed
short_is s h k =
    simp (le-ltb (length s) 3 h, le-ltb (get_or s 0 0) 128 k) (ap (λ (l : List ℕ). seen (take_signed l)) (sym (first_three s h)))

-- its last byte, where the second is the last, and where it is not
abbrev last : List ℕ → ℕ
last s = get_or s (get_or s 1 0 / 128 + 1) 0

last-two : (s : List ℕ) → get_or s 1 0 < 128 → last s ≡ get_or s 1 0
last-two s h =
    let none : get_or s 1 0 / 128 ≡ 0 = omega arith in
    ap (λ k. get_or s (k + 1) 0) none

last-three : (s : List ℕ) → get_or s 1 0 < 256 → 128 ≤ get_or s 1 0 → last s ≡ get_or s 2 0
last-three s k h =
    let one : get_or s 1 0 / 128 ≡ 1 = omega arith in
    ap (λ k. get_or s (k + 1) 0) one

-- it tells whether there is one
module _ (s : List ℕ) (h : 3 ≤ length s) (hb : 128 ≤ get_or s 0 0) (kb : get_or s 0 0 < 256) (kc : get_or s 1 0 < 256) where
  pub short_above : 64 ≤ last s → None ≡ short_signed s
  short_above k = few_above _ _ _ _ hb kb kc (last-two s) (last-three s kc) k ∙ short_is s h hb

  pub short_below : last s < 64 → Some (number (few (get_or s 0 0) (get_or s 1 0) (last s)) (2 + get_or s 1 0 / 128)) ≡ short_signed s
  short_below k = few_is _ _ _ _ hb kb kc (last-two s) (last-three s kc) k ∙ short_is s h hb

-- a number at the front is there whatever follows
module _ (end : ℕ) where
  -- after the number of at most k bytes
  Longer : ℕ → List ℕ → List ℕ → Type 0
  Longer k s rest = (v t : ℕ) → number_in end k s ≡ Value v t → number_in end k (s ++ rest) ≡ Value v t

  longer_cons : (k b : ℕ) (s rest : List ℕ) → Longer k s rest → Longer (suc k) (b ∷ s) rest
  unfolding Longer number_in more
  longer_cons k b s rest ih v t e = go (ltb b 128) refl e
    where
      goal : Bool → Type 0
      goal p = cond p (cond (ltb b end) (Value b 1) Bad) (more b (number_in end k (s ++ rest))) ≡ Value v t

      last : (r : Taken) → number_in end k s ≡ r → more b r ≡ Value v t → goal false
      last (Ok taken) r e = ap (λ (x : Taken). more b x) (ih taken.value taken.took r) ∙ e
      last Cut r e = impossible cc
      last Bad r e = impossible cc

      go : (p : Bool) → ltb b 128 ≡ p → cond p (cond (ltb b end) (Value b 1) Bad) (more b (number_in end k s)) ≡ Value v t → goal p
      go true q e = e
      go false q e = last (number_in end k s) refl e

  longer : (k : ℕ) (s rest : List ℕ) → Longer k s rest
  unfolding Longer number_in
  longer zero s rest v t e = impossible cc
  longer (suc k) [] rest v t e = impossible cc
  longer (suc k) (b ∷ s) rest v t e = longer_cons k b s rest (longer k s rest) v t e

  pub take_longer : (s rest : List ℕ) (n t : ℕ) → take_in end s ≡ Value n t → take_in end (s ++ rest) ≡ Value n t
  unfolding Longer take_in within32
  take_longer s rest n t e = go (number_in end 5 s) refl e
    where
      go : (r : Taken) → number_in end 5 s ≡ r → within32 r ≡ Value n t → within32 (number_in end 5 (s ++ rest)) ≡ Value n t
      go (Ok taken) r e = ap within32 (longer 5 s rest taken.value taken.took r) ∙ e
      go Cut r e = impossible cc
      go Bad r e = impossible cc

-- a short number is the one that is taken from the whole, and another byte follows its first
pub short-some : (s : List ℕ) (r : Number) → short_signed s ≡ Some r → (take_signed s ≡ Ok r) × (128 ≤ get_or s 0 0) × (0 < length s)
unfolding short_signed
short-some s r h = go (ltb (length s) 3) refl (ltb (get_or s 0 0) 128) refl h
  where
    what : Bool → Bool → Option Number
    what p q = cond p None (cond q None (seen (take_signed (take 3 s))))

    go : (p : Bool) → ltb (length s) 3 ≡ p → (q : Bool) → ltb (get_or s 0 0) 128 ≡ q → what p q ≡ Some r
        → (take_signed s ≡ Ok r) × (128 ≤ get_or s 0 0) × (0 < length s)
    go true ep q eq h = impossible cc
    go false ep true eq h = impossible cc
    go false ep false eq h =
        let size : 3 ≤ length s = ltb-false (length s) 3 ep in (
          ap take_signed (sym (take-append-drop 3 s))
              ∙ take_longer 64 (take 3 s) (drop 3 s) r.value r.took (seen-taken (take_signed (take 3 s)) r h),
          ltb-false (get_or s 0 0) 128 eq,
          omega arith,
        )
