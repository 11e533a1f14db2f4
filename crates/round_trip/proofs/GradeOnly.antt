-- What is read of a field at a grade has no byte above it, and its words are words of 32 bits.
use Rattle.std.specs.Prelude.{Err, Ok}
use Prim.Native.Nat.{ℕ, zero, suc, ◌-◌, ◌^◌, ◌≤◌, ◌<◌}
use native.Mathlib.Omega.{arith}
use mathlib.Core.Path.{◌≡◌, refl}
use mathlib.Core.Bool.{Bool, true, false, cond}
use mathlib.Core.List.{List, [], ◌∷◌, ◌++◌}
use borrow.Author.Tests.{ltb-false, le-ltb, eq-eqb, ne_eqb}
use lib.Dec.{eqb, ltb}
use lib.ListN.{length, drop}
use Rattle.numbers.specs.Leb.{take_unsigned, take_signed}
use Rattle.fields.specs.declared.Refusal.TheVariants.{Code, Newer}
use Rattle.fields.specs.Leaf.{Leaf, Fine, Bad}
use Rattle.fields.proofs.OutcomeLaws.{fine-same}
use Rattle.fields.specs.Words.{word, Words}
use Rattle.reading.specs.Fill.{value_in, primitive, fill_value, fill_optional, fill_reference}
use Rattle.fields.specs.Grades.{grade_of}
use Rattle.fields.specs.declared.Site.TheVariants.{CanonOption}
use Rattle.reading.specs.Scan.{byte, chosen, scan_choice, asked, past, numbered, zero_at, then_zero, three, scan_primitive, scan_value, scan_optional, scan_result, scan_either, scan_module, scan_bound, scan_index, scan_reference}
use Rattle.round_trip.specs.Mark.{Clear, At, asks, primitive_grade, value_mark}
use Rattle.round_trip.proofs.ExternBack as extern
use Rattle.round_trip.proofs.ExternBack.{NameRight, Slot}
use Rattle.round_trip.proofs.FieldBack.{Valued, primed, typed, Optioned, none, some, Bit, off, on, Primed, old, new, Present, absent, present, Chosen, with, bare, Referred, core, valued, equal, fresh, other}
use Rattle.round_trip.proofs.ScanOnly.{there-fine, past-fine, Either, first, second, either-fine}
use Rattle.numbers.proofs.Impossible.{impossible}

-- ---- words

pub no_words : Words []
no_words i = omega arith

pub word_and : (a : ℕ) (l : List ℕ) → a < 2 ^ 32 → Words l → Words (a ∷ l)
word_and a l h w zero = h
word_and a l h w (suc i) = w i

pub words_and : (a b : List ℕ) → Words a → Words b → Words (a ++ b)
words_and [] b wa wb = wb
words_and (x ∷ a) b wa wb = word_and x (a ++ b) (wa 0) (words_and a b (λ i. wa (suc i)) wb)

pub one_word : (a : ℕ) → a < 2 ^ 32 → Words (a ∷ [])
one_word a h = word_and a [] h no_words

pub two_words : (a b : ℕ) → a < 2 ^ 32 → b < 2 ^ 32 → Words (a ∷ b ∷ [])
two_words a b h k = word_and a (b ∷ []) h (one_word b k)

three-words : (a b c : ℕ) → a < 2 ^ 32 → b < 2 ^ 32 → c < 2 ^ 32 → Words (a ∷ b ∷ c ∷ [])
three-words a b c h k l = word_and a (b ∷ c ∷ []) h (two_words b c k l)

pub prime_small : {p : ℕ} → Primed p → p < 2 ^ 32
prime_small (old h) = omega arith
prime_small new = omega arith

value-small : {k x : ℕ} → Valued k x → (k < 2 ^ 32) × (x < 2 ^ 32)
value-small (primed p) = (omega arith, prime_small p)
value-small (typed h) = (omega arith, h)

pub value_words : {k x : ℕ} → Valued k x → Words (k ∷ x ∷ [])
value_words {k} {x} v = two_words k x (value-small v).0 (value-small v).1

pub optional-words : {k x : ℕ} → Optioned k x → Words (k ∷ x ∷ [])
optional-words none = two_words 2 0 (omega arith) (omega arith)
optional-words (some v) = value_words v

pub bit-words : {k : ℕ} → Bit k → Words (k ∷ [])
bit-words off = one_word 0 (omega arith)
bit-words on = one_word 1 (omega arith)

pub present-words : {k x : ℕ} → Present k x → Words (k ∷ x ∷ [])
present-words absent = two_words 0 0 (omega arith) (omega arith)
present-words (present {x} h) = two_words 1 x (omega arith) h

pub choice-words : {k x : ℕ} → Chosen k x → Words (k ∷ x ∷ [])
choice-words (with {k} {x} h i s) = two_words k x (omega arith) s
choice-words (bare {k} h i) = two_words k 0 (omega arith) (omega arith)

pub reference-words : {s x y : ℕ} → Referred s x y → Words (s ∷ x ∷ y ∷ [])
reference-words (core {x} h) = three-words 0 x 0 (omega arith) h (omega arith)
reference-words (valued {k} {x} v) = three-words 2 k x (omega arith) (value-small v).0 (value-small v).1
reference-words (equal {x} h) = three-words 3 0 x (omega arith) (omega arith) h
reference-words fresh = three-words 3 1 0 (omega arith) (omega arith) (omega arith)
reference-words (other {s} {x} a b c h k) = three-words s x 0 (omega arith) k (omega arith)

pub name_words : {pool : List ℕ} {start size : ℕ} → length pool < 2 ^ 32 → NameRight pool start size → Words (start ∷ size ∷ [])
name_words {pool} {start} {size} few r = two_words start size (omega (arith, r.inside)) r.small

pub slot-words : {pool : List ℕ} {w start size : ℕ} → length pool < 2 ^ 32 → Slot pool w start size → Words (w ∷ start ∷ size ∷ [])
slot-words few extern.absent = three-words 0 0 0 (omega arith) (omega arith) (omega arith)
slot-words few (extern.present {start} {size} r) = word_and 1 (start ∷ size ∷ []) (omega arith) (name_words few r)

-- ---- what is asked for is there

pub asked_clear : (g n i : ℕ) (l : Leaf) (t m : ℕ) → asked g n i l ≡ Fine t m → (j : ℕ) → asks g n j ≡ Clear
asked_clear g n i l t m e j = go (ltb g n) e
  where
    go : (b : Bool) → cond b (Bad Newer i) l ≡ Fine t m → cond b (At j) Clear ≡ Clear
    go true e = impossible cc
    go false e = refl

module _ (g : ℕ) (any : 1 ≤ g) where
  pub prime_clear : (y n t m : ℕ) → scan_primitive g y (Fine 1 n) ≡ Fine t m → (j : ℕ) → asks g (primitive_grade (primitive y)) j ≡ Clear
  unfolding scan_primitive primitive
  prime_clear y n t m e j = go (eqb y 0x64) (ltb y 0x73) refl e
    where
      go : (a b : Bool) → ltb y 0x73 ≡ b
          → cond a (asked g 2 0 (Fine 1 n)) (cond b (Bad Code 0) (cond (ltb y 0x80) (Fine 1 n) (Bad Code 0))) ≡ Fine t m
          → asks g (primitive_grade (cond a 13 (0x7f - y))) j ≡ Clear
      go true b hb e = asked_clear g 2 0 (Fine 1 n) t m e j
      go false true hb e = impossible cc
      go false false hb e =
          let low = ltb-false y 0x73 hb in
          let d : 0x7f - y ≡ 13 → ⊥ = λ z. omega arith in
          simp (ne_eqb (0x7f - y) 13 d, le-ltb g 1 any)

  -- two words that say a V, at most
  abbrev pub ClearPair : List ℕ → Type 0
  ClearPair ws = (j : ℕ) → value_mark g (word ws 0) (word ws 1) j ≡ Clear

  pub value_clear : (xs : List ℕ) (t m : ℕ) → scan_value g xs ≡ Fine t m → ClearPair (fill_value xs)
  unfolding scan_value fill_value
  value_clear xs t m e j = go (ltb (byte xs 0) 0x40) (ltb (byte xs 0) 0x80) (there-fine xs 0 _ t m e).1
    where
      words : Bool → Bool → List ℕ
      words a b = cond a (1 ∷ byte xs 0 ∷ []) (cond b (0 ∷ primitive (byte xs 0) ∷ []) (1 ∷ value_in (take_signed xs) ∷ []))

      go : (a b : Bool) → cond a (Fine 1 2) (cond b (scan_primitive g (byte xs 0) (Fine 1 2)) (numbered xs (take_signed xs) 2)) ≡ Fine t m
          → value_mark g (word (words a b) 0) (word (words a b) 1) j ≡ Clear
      go true b e = refl
      go false true e = prime_clear (byte xs 0) 2 t m e j
      go false false e = refl

  pub optional_clear : (xs : List ℕ) (t m : ℕ) → scan_optional g xs ≡ Fine t m → ClearPair (fill_optional 0x01 xs)
  unfolding scan_optional fill_optional
  optional_clear xs t m e j = go (either-fine xs 0x00 _ 0x01 _ t m e).1
    where
      go : Either (byte xs 0) 0x00 (Fine 1 2) 0x01 (past 1 (scan_value g (drop 1 xs))) t m
          → value_mark g (word (fill_optional 0x01 xs) 0) (word (fill_optional 0x01 xs) 1) j ≡ Clear
      go (first y e) = simp y
      go (second y n e) =
          let p = past-fine 1 (scan_value g (drop 1 xs)) t m e in
          simp y (value_clear (drop 1 xs) p.0 m p.1 j)

  pub zero_clear : (xs : List ℕ) (t m : ℕ) → then_zero xs (scan_optional g xs) ≡ Fine t m → ClearPair (fill_optional 0x01 xs)
  zero_clear xs t m e = go (scan_optional g xs) refl e
    where
      go : (l : Leaf) → scan_optional g xs ≡ l → then_zero xs l ≡ Fine t m → ClearPair (fill_optional 0x01 xs)
      go (Ok span) s e = optional_clear xs span.took span.made s
      go (Err fault) s e = impossible cc

  pub result_clear : (xs : List ℕ) (t m : ℕ) → scan_result g xs ≡ Fine t m → ClearPair (fill_optional 0x00 xs)
  unfolding scan_result fill_optional
  result_clear xs t m e j = go (either-fine xs 0x00 _ 0x01 _ t m e).1
    where
      go : Either (byte xs 0) 0x00 (past 1 (scan_value g (drop 1 xs))) 0x01 (zero_at xs 1 (Fine 2 2)) t m
          → value_mark g (word (fill_optional 0x00 xs) 0) (word (fill_optional 0x00 xs) 1) j ≡ Clear
      go (first y e) =
          let p = past-fine 1 (scan_value g (drop 1 xs)) t m e in
          simp y (value_clear (drop 1 xs) p.0 m p.1 j)
      go (second y n e) = simp y

  pub async_clear : (xs : List ℕ) (t m : ℕ) → scan_either g 2 0x40 0x43 xs ≡ Fine t m
      → cond (eqb (cond (eqb (byte xs 0) 0x40) 0 1) 0) Clear (asks g 2 0) ≡ Clear
  unfolding scan_either
  async_clear xs t m e = go (either-fine xs 0x40 _ 0x43 _ t m e).1
    where
      go : Either (byte xs 0) 0x40 (Fine 1 1) 0x43 (asked g 2 0 (Fine 1 1)) t m
          → cond (eqb (cond (eqb (byte xs 0) 0x40) 0 1) 0) Clear (asks g 2 0) ≡ Clear
      go (first q e) = simp (eq-eqb _ _ q)
      go (second q d e) = simp (ne_eqb _ _ d) (asked_clear g 2 0 (Fine 1 1) t m e 0)

  pub choice_clear : (xs : List ℕ) (t m : ℕ) → scan_choice g xs ≡ Fine t m → asks g (grade_of CanonOption (byte xs 0)) 0 ≡ Clear
  unfolding scan_choice
  choice_clear xs t m e = go (ltb (byte xs 0) 10) (there-fine xs 0 _ t m e).1
    where
      go : (b : Bool) → cond b (asked g (grade_of CanonOption (byte xs 0)) 0 (chosen xs)) (Bad Code 0) ≡ Fine t m
          → asks g (grade_of CanonOption (byte xs 0)) 0 ≡ Clear
      go true e = asked_clear g (grade_of CanonOption (byte xs 0)) 0 (chosen xs) t m e 0
      go false e = impossible cc

  three_one : (l : Leaf) (t m : ℕ) → three l ≡ Fine t m → (c : ℕ) × (l ≡ Fine t c)
  three_one (Ok span) t m e = (span.made, let q : span.took ≡ t = (fine-same e).0 in (λ i. Fine (q i) span.made))
  three_one (Err fault) t m e = impossible cc

  pub reference_clear : (xs : List ℕ) (t m : ℕ) → scan_reference g xs ≡ Fine t m
      → cond (eqb (word (fill_reference xs) 0) 2) (value_mark g (word (fill_reference xs) 1) (word (fill_reference xs) 2) 1) Clear ≡ Clear
  unfolding scan_reference fill_reference
  reference_clear xs t m e = go (eqb y 0) (eqb y 2) (eqb y 3) refl (there-fine xs 0 _ t m e).1
    where
      y : ℕ
      y = byte xs 0

      words : Bool → Bool → Bool → List ℕ
      words a b c =
          cond a (0 ∷ value_in (take_unsigned (drop 2 xs)) ∷ 0 ∷ [])
          (cond b (2 ∷ fill_value (drop 1 xs))
          (cond c (3 ∷ cond (eqb (byte xs 1) 0) (0 ∷ value_in (take_unsigned (drop 2 xs)) ∷ []) (1 ∷ 0 ∷ []))
          (y ∷ value_in (take_unsigned (drop 1 xs)) ∷ 0 ∷ [])))

      go : (a b c : Bool) → eqb y 2 ≡ b
          → cond a (scan_module 3 xs)
          (cond b (three (past 1 (scan_value g (drop 1 xs)))) (cond c (scan_bound xs) (cond (ltb y 6) (past 1 (scan_index 3 (drop 1 xs))) (Bad Code 0))))
          ≡ Fine t m
          → cond (eqb (word (words a b c) 0) 2) (value_mark g (word (words a b c) 1) (word (words a b c) 2) 1) Clear ≡ Clear
      go true b c hb e = refl
      go false true c hb e =
          let p = three_one (past 1 (scan_value g (drop 1 xs))) t m e in
          let q = past-fine 1 (scan_value g (drop 1 xs)) t p.0 p.1 in
          value_clear (drop 1 xs) q.0 p.0 q.1 1
      go false false true hb e = refl
      go false false false hb e = simp hb
