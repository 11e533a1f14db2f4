-- Each field that was written is read back, or refused at its byte above the grade.
use Prim.Native.Nat.{ℕ, suc, ◌+◌, ◌-◌, ◌^◌, ◌≤◌, ◌<◌}
use native.Mathlib.Omega.{arith}
use mathlib.Core.Path.{◌≡◌, refl, sym, ap, ◌∙◌, subst}
use mathlib.Core.Bool.{Bool, true, false, cond}
use mathlib.Core.List.{List, [], ◌∷◌, ◌++◌, append_assoc}
use borrow.Author.Tests.{ltb-true, ltb-false, eqb-true, eqb-false, lt-ltb, le-ltb, lt-leb, eq-eqb, ne_eqb}
use lib.Dec.{eqb, ltb, leb}
use lib.ListN.{length, drop, length-append, get_or-append}
use lib.Seq.{get_or_at}
use Rattle.numbers.specs.Integers.{u32, s33}
use Rattle.numbers.specs.Leb.{unsigned, signed}
use Rattle.numbers.proofs.LebLaws.{taken_back, one_byte, many-bytes, size_bounds}
use Rattle.fields.specs.declared.Field.{Field}
use Rattle.fields.specs.declared.Field.TheVariants as field
use Rattle.fields.specs.Flaw.{Right, Wrong}
use Rattle.fields.specs.declared.Refusal.TheVariants.{Tag, Newer}
use Rattle.fields.specs.Leaf.{Leaf, Fine, Bad}
use Rattle.fields.specs.Words.{word, Words, indexed, wide}
use Rattle.writing.specs.Binary.{name, primvaltype, valtype, optional, resultlist, functype, flag, representation, destructor, canonopt, typebound, externdesc, bytes, argument, coresortidx, sortidx}
use Rattle.reading.specs.Fill.{index, primitive, fill_value, fill_optional, fill_reference, fill, fill_sort_index}
use Rattle.writing.specs.Judge.{below, value, optional_value, optional_index, choice, reference, flaw}
use Rattle.round_trip.specs.Mark.{Mark, Clear, At, primitive_grade, value_mark, mark}
use Rattle.fields.specs.Grades.{grade_of}
use Rattle.fields.specs.declared.Site.TheVariants.{CanonOption}
use Rattle.reading.specs.Scan.{byte, past, numbered, scan_index, scan_primitive, scan_value, scan_optional, then_zero, scan_result, scan_choice, scan_bound, scan_module, three, scan_reference, scan_either, scan_optional_index, scan, scan_argument, scan_core_sort_index, scan_sort_index}
use Rattle.fields.specs.View.{Name, view, said}
use Rattle.round_trip.proofs.Back.{Back, answer}
use Rattle.round_trip.proofs.ExternBack.{name_right, name_back, extern_back}
use Rattle.writing.proofs.FlawLaws.{extern_right, below_is}
use Rattle.numbers.proofs.Impossible.{impossible}

-- a list has a first element, and a second
pub some-there : (n : ℕ) → leb (suc n) 0 ≡ false
some-there n = lt-leb (suc n) 0 (omega arith)

two-there : (n : ℕ) → leb (suc (suc n)) 1 ≡ false
two-there n = lt-leb (suc (suc n)) 1 (omega arith)

pub one_more : (n : ℕ) → 1 + n ≡ suc n
one_more n = omega arith

-- ---- an index

module _ (x : ℕ) (small : x < 2 ^ 32) (rest : List ℕ) where
  pub index_scans : (m : ℕ) → scan_index m (unsigned x ++ rest) ≡ Fine (length (unsigned x)) m
  unfolding scan_index
  index_scans m = ap (λ r. numbered (unsigned x ++ rest) r m) (taken_back u32 x rest small)

  pub index_says : index (unsigned x ++ rest) ≡ x
  index_says = rw (taken_back u32 x rest small)

-- ---- a primitive

asked-answer : (b : Bool) (j t m : ℕ) → cond b (Bad Newer j) (Fine t m) ≡ answer (cond b (At j) Clear) t m
asked-answer true j t m = refl
asked-answer false j t m = refl

pub data Primed : ℕ → Type 0 where
  old : {p : ℕ} → p < 13 → Primed p
  new : Primed 13

prime_right : (ws : List ℕ) (i : ℕ) → below 14 ws i ≡ Right → Primed (word ws i)
prime_right ws i e = go (ltb (word ws i) 14) (eqb (word ws i) 13) refl refl e
  where
    go : (a b : Bool) → ltb (word ws i) 14 ≡ a → eqb (word ws i) 13 ≡ b → cond a Right (Wrong Tag i) ≡ Right → Primed (word ws i)
    go true true ha hb e = rw (eqb-true (word ws i) 13 hb) new
    go true false ha hb e = let n = eqb-false (word ws i) 13 hb in old {p = word ws i} (omega (arith, ltb-true))
    go false b ha hb e = impossible cc

prime_scans : (g : ℕ) → 1 ≤ g → (m : ℕ) {p : ℕ} → Primed p
    → scan_primitive g (primvaltype p) (Fine 1 m) ≡ answer (cond (ltb g (primitive_grade p)) (At 0) Clear) 1 m
unfolding scan_primitive primvaltype
prime_scans g any m {p} (old h) =
    let n : p ≡ 13 → ⊥ = omega arith in
    let b : 0x7f - p ≡ 0x64 → ⊥ = omega arith in
    let c : 0x73 ≤ 0x7f - p = omega arith in
    let d : 0x7f - p < 0x80 = omega arith in
    simp (ne_eqb p 13 n, ne_eqb _ _ b, le-ltb _ _ c, lt-ltb _ _ d, le-ltb g 1 any)
prime_scans g any m new = asked-answer (ltb g 2) 0 1 m

prime_says : {p : ℕ} → Primed p → primitive (primvaltype p) ≡ p
unfolding primitive primvaltype
prime_says {p} (old h) =
    let n : p ≡ 13 → ⊥ = omega arith in
    let b : 0x7f - p ≡ 0x64 → ⊥ = omega arith in
    let u : 0x7f - (0x7f - p) ≡ p = omega arith in
    simp (ne_eqb p 13 n, ne_eqb _ _ b, u)
prime_says new = refl

-- its byte is no index, and no byte that another follows
prime_range : {p : ℕ} → Primed p → (0x40 ≤ primvaltype p) × (primvaltype p < 0x80)
unfolding primvaltype
prime_range {p} (old h) =
    let n : p ≡ 13 → ⊥ = omega arith in
    simp (ne_eqb p 13 n) (omega arith, omega arith)
prime_range new = (omega arith, omega arith)

-- ---- a value

-- words of a V that are right
pub data Valued : ℕ → ℕ → Type 0 where
  primed : {x : ℕ} → Primed x → Valued 0 x
  typed : {x : ℕ} → x < 2 ^ 32 → Valued 1 x

pub value_right : (ws : List ℕ) (i : ℕ) → Words ws → value ws i ≡ Right → Valued (word ws i) (word ws (i + 1))
unfolding value
value_right ws i fw e = go (eqb k 0) (eqb k 1) refl refl e
  where
    k : ℕ
    k = word ws i

    go : (a c : Bool) → eqb k 0 ≡ a → eqb k 1 ≡ c → cond a (below 14 ws (i + 1)) (cond c Right (Wrong Tag i)) ≡ Right
        → Valued k (word ws (i + 1))
    go true c ha hc e = rw (eqb-true k 0 ha) (primed (prime_right ws (i + 1) e))
    go false true ha hc e = rw (eqb-true k 1 hc) (typed (fw (i + 1)))
    go false false ha hc e = impossible cc

-- a number of many bytes is told by its first
many-scans : (g x : ℕ) → x < 2 ^ 32 → 64 ≤ x → (rest : List ℕ)
    → (scan_value g (signed x ++ rest) ≡ Fine (length (signed x)) 2) × (fill_value (signed x ++ rest) ≡ 1 ∷ x ∷ [])
unfolding scan_value fill_value
many-scans g x small h rest =
    let bs = signed x in
    let some : 0 < length bs = (size_bounds 64 x).0 in
    let first : byte (bs ++ rest) 0 ≡ byte bs 0 = get_or-append bs rest 0 0 some in
    let large : 2 ^ 7 ≤ byte bs 0 = many-bytes 64 x h in
    let here : leb (length (bs ++ rest)) 0 ≡ false = lt-leb (length (bs ++ rest)) 0 (omega (arith, length-append bs rest)) in
    let low : ltb (byte (bs ++ rest) 0) 0x40 ≡ false = le-ltb (byte (bs ++ rest) 0) 0x40 (omega arith) in
    let high : ltb (byte (bs ++ rest) 0) 0x80 ≡ false = le-ltb (byte (bs ++ rest) 0) 0x80 (omega arith) in
    (simp (here, low, high, taken_back s33 x rest small), simp (low, high, taken_back s33 x rest small))

module _ (g : ℕ) (any : 1 ≤ g) (rest : List ℕ) where
  pub value_scans : {k x : ℕ} → Valued k x → scan_value g (valtype k x ++ rest) ≡ answer (value_mark g k x 0) (length (valtype k x)) 2
  unfolding scan_value valtype
  value_scans (primed p) =
      let r = prime_range p in
      simp (some-there, le-ltb _ _ r.0, lt-ltb _ _ r.1) (prime_scans g any 2 p)
  value_scans {k} {x} (typed h) = go (ltb x 64) refl
    where
      go : (t : Bool) → ltb x 64 ≡ t → scan_value g (signed x ++ rest) ≡ Fine (length (signed x)) 2
      go true q =
          subst (λ l. scan_value g (l ++ rest) ≡ Fine (length l) 2) (sym (one_byte 64 x (ltb-true _ _ q))) (simp (some-there, q))
      go false q = (many-scans g x h (ltb-false _ _ q) rest).0

  pub value_says : {k x : ℕ} → Valued k x → fill_value (valtype k x ++ rest) ≡ k ∷ x ∷ []
  unfolding fill_value valtype
  value_says (primed p) =
      let r = prime_range p in
      simp (le-ltb _ _ r.0, lt-ltb _ _ r.1) (ap (λ n. 0 ∷ n ∷ []) (prime_says p))
  value_says {k} {x} (typed h) = go (ltb x 64) refl
    where
      go : (t : Bool) → ltb x 64 ≡ t → fill_value (signed x ++ rest) ≡ 1 ∷ x ∷ []
      go true q = subst (λ l. fill_value (l ++ rest) ≡ 1 ∷ x ∷ []) (sym (one_byte 64 x (ltb-true _ _ q))) (simp q)
      go false q = (many-scans g x h (ltb-false _ _ q) rest).1

-- the same one byte further
abbrev further : Mark → Mark
further Clear = Clear
further (At j) = At (1 + j)

past-answer : (m : Mark) (l : Leaf) (t n : ℕ) → l ≡ answer m t n → past 1 l ≡ answer (further m) (suc t) n
past-answer Clear l t n e = ap (λ l. past 1 l) e ∙ ap (λ k. Fine k n) (one_more t)
past-answer (At j) l t n e = ap (λ l. past 1 l) e

further-mark : (g k x : ℕ) → further (value_mark g k x 0) ≡ value_mark g k x 1
further-mark g k x = go (eqb k 0) (ltb g (primitive_grade x))
  where
    go : (a b : Bool) → further (cond a (cond b (At 0) Clear) Clear) ≡ cond a (cond b (At 1) Clear) Clear
    go true true = refl
    go true false = refl
    go false b = refl

-- ---- an optional value

pub data Optioned : ℕ → ℕ → Type 0 where
  none : Optioned 2 0
  some : {k x : ℕ} → Valued k x → Optioned k x

pub optional-right : (ws : List ℕ) → Words ws → optional_value ws 0 ≡ Right → Optioned (word ws 0) (word ws 1)
unfolding optional_value
optional-right ws fw e = go (eqb (word ws 0) 2) (eqb (word ws 1) 0) refl refl e
  where
    go : (a b : Bool) → eqb (word ws 0) 2 ≡ a → eqb (word ws 1) 0 ≡ b → cond a (cond b Right (Wrong Tag 1)) (value ws 0) ≡ Right
        → Optioned (word ws 0) (word ws 1)
    go true true ha hb e = rw (eqb-true (word ws 0) 2 ha, eqb-true (word ws 1) 0 hb) none
    go true false ha hb e = impossible cc
    go false b ha hb e = some (value_right ws 0 fw e)

pub not_two : {k x : ℕ} → Valued k x → eqb k 2 ≡ false
not_two (primed p) = refl
not_two (typed h) = refl

module _ (g : ℕ) (any : 1 ≤ g) (rest : List ℕ) where
  behind : {k x : ℕ} → Valued k x → past 1 (scan_value g (valtype k x ++ rest)) ≡ answer (value_mark g k x 1) (suc (length (valtype k x))) 2
  behind {k} {x} v =
      past-answer (value_mark g k x 0) (scan_value g (valtype k x ++ rest)) (length (valtype k x)) 2 (value_scans g any rest v)
      ∙ ap (λ m. answer m (suc (length (valtype k x))) 2) (further-mark g k x)

  optional_scans : {k x : ℕ} → Optioned k x → scan_optional g (optional k x ++ rest) ≡ answer (value_mark g k x 1) (length (optional k x)) 2
  unfolding scan_optional optional
  optional_scans none = simp some-there
  optional_scans (some v) = simp (not_two v, some-there) (behind v)

  optional_says : {k x : ℕ} → Optioned k x → fill_optional 0x01 (optional k x ++ rest) ≡ k ∷ x ∷ []
  unfolding fill_optional optional
  optional_says none = refl
  optional_says (some v) = simp (not_two v) (value_says g any rest v)

  result_scans : {k x : ℕ} → Optioned k x → scan_result g (resultlist k x ++ rest) ≡ answer (value_mark g k x 1) (length (resultlist k x)) 2
  unfolding scan_result resultlist
  result_scans none = simp (some-there, two-there)
  result_scans (some v) = simp (not_two v, some-there) (behind v)

  ResultSays : {k x : ℕ} → Optioned k x → fill_optional 0x00 (resultlist k x ++ rest) ≡ k ∷ x ∷ []
  unfolding fill_optional resultlist
  ResultSays none = refl
  ResultSays (some v) = simp (not_two v) (value_says g any rest v)

-- a byte 00 behind a field
zero-behind : (bs rest : List ℕ) (m : Mark) (l : Leaf) (n : ℕ) → l ≡ answer m (length bs) n
    → then_zero ((bs ++ 0x00 ∷ []) ++ rest) l ≡ answer m (length (bs ++ 0x00 ∷ [])) n
zero-behind bs rest (At j) l n e = ap (λ l. then_zero ((bs ++ 0x00 ∷ []) ++ rest) l) e
zero-behind bs rest Clear l n e =
    let xs = (bs ++ 0x00 ∷ []) ++ rest in
    let whole : xs ≡ bs ++ 0x00 ∷ rest = append_assoc bs (0x00 ∷ []) rest in
    let here : leb (length xs) (length bs) ≡ false =
    lt-leb (length xs) (length bs) (omega (arith, ap length whole, length-append bs (0x00 ∷ rest))) in
    let zero : byte xs (length bs) ≡ 0 = ap (λ l. byte l (length bs)) whole ∙ get_or_at bs 0x00 rest 0 (length bs) refl in
    let long : length bs + 1 ≡ length (bs ++ 0x00 ∷ []) = omega (arith, length-append bs (0x00 ∷ [])) in
    ap (λ l. then_zero xs l) e ∙ simp (here, eq-eqb _ _ zero) (ap (λ k. Fine k n) long)

-- ---- one of two bytes

pub data Bit : ℕ → Type 0 where
  off : Bit 0
  on : Bit 1

bit-right : (ws : List ℕ) → below 2 ws 0 ≡ Right → Bit (word ws 0)
bit-right ws e = go (ltb (word ws 0) 2) (eqb (word ws 0) 0) refl refl e
  where
    go : (a b : Bool) → ltb (word ws 0) 2 ≡ a → eqb (word ws 0) 0 ≡ b → cond a Right (Wrong Tag 0) ≡ Right → Bit (word ws 0)
    go true true ha hb e = rw (eqb-true (word ws 0) 0 hb) off
    go true false ha hb e =
        let n = eqb-false (word ws 0) 0 hb in
        let o : word ws 0 ≡ 1 = omega (arith, ltb-true) in
        rw o on
    go false b ha hb e = impossible cc

-- ---- an index behind a byte

module _ (x : ℕ) (small : x < 2 ^ 32) (rest : List ℕ) where
  past_one : (m : ℕ) → past 1 (scan_index m (unsigned x ++ rest)) ≡ Fine (suc (length (unsigned x))) m
  past_one m = ap (λ l. past 1 l) (index_scans x small rest m) ∙ ap (λ k. Fine k m) (one_more (length (unsigned x)))

  past_two : (m : ℕ) → past 2 (scan_index m (unsigned x ++ rest)) ≡ Fine (suc (suc (length (unsigned x)))) m
  past_two m =
      let two : 2 + length (unsigned x) ≡ suc (suc (length (unsigned x))) = omega arith in
      ap (λ l. past 2 l) (index_scans x small rest m) ∙ ap (λ k. Fine k m) two

pub data Present : ℕ → ℕ → Type 0 where
  absent : Present 0 0
  present : {x : ℕ} → x < 2 ^ 32 → Present 1 x

present-right : (ws : List ℕ) → Words ws → optional_index ws ≡ Right → Present (word ws 0) (word ws 1)
unfolding optional_index
present-right ws fw e = go (eqb (word ws 0) 0) (eqb (word ws 1) 0) (eqb (word ws 0) 1) refl refl refl e
  where
    go : (a b c : Bool) → eqb (word ws 0) 0 ≡ a → eqb (word ws 1) 0 ≡ b → eqb (word ws 0) 1 ≡ c
        → cond a (cond b Right (Wrong Tag 1)) (cond c Right (Wrong Tag 0)) ≡ Right → Present (word ws 0) (word ws 1)
    go true true c ha hb hc e = rw (eqb-true (word ws 0) 0 ha, eqb-true (word ws 1) 0 hb) absent
    go true false c ha hb hc e = impossible cc
    go false b true ha hb hc e = rw (eqb-true (word ws 0) 1 hc) (present (fw 1))
    go false b false ha hb hc e = impossible cc

present-scans : {k x : ℕ} → Present k x → (rest : List ℕ) → scan_optional_index (destructor k x ++ rest) ≡ Fine (length (destructor k x)) 2
unfolding scan_optional_index destructor
present-scans absent rest = simp some-there
present-scans {k} {x} (present h) rest = simp some-there (past_one x h rest 2)

present-says : {k x : ℕ} → Present k x → (rest : List ℕ)
    → cond (eqb (byte (destructor k x ++ rest) 0) 0x00) (0 ∷ 0 ∷ []) (1 ∷ index (drop 1 (destructor k x ++ rest)) ∷ []) ≡ k ∷ x ∷ []
unfolding destructor
present-says absent rest = refl
present-says {k} {x} (present h) rest = ap (λ n. 1 ∷ n ∷ []) (index_says x h rest)

-- ---- a choice

pub data Chosen : ℕ → ℕ → Type 0 where
  with : {k x : ℕ} → k < 10 → indexed k ≡ true → x < 2 ^ 32 → Chosen k x
  bare : {k : ℕ} → k < 10 → indexed k ≡ false → Chosen k 0

choice-right : (ws : List ℕ) → Words ws → choice ws ≡ Right → Chosen (word ws 0) (word ws 1)
unfolding choice
choice-right ws fw e = go (ltb (word ws 0) 10) (indexed (word ws 0)) (eqb (word ws 1) 0) refl refl refl e
  where
    go : (a b c : Bool) → ltb (word ws 0) 10 ≡ a → indexed (word ws 0) ≡ b → eqb (word ws 1) 0 ≡ c
        → cond a (cond b Right (cond c Right (Wrong Tag 1))) (Wrong Tag 0) ≡ Right → Chosen (word ws 0) (word ws 1)
    go true true c ha hb hc e = with (ltb-true _ _ ha) hb (fw 1)
    go true false true ha hb hc e = rw (eqb-true (word ws 1) 0 hc) (bare (ltb-true _ _ ha) hb)
    go true false false ha hb hc e = impossible cc
    go false b c ha hb hc e = impossible cc

choice-scans : (g : ℕ) {k x : ℕ} → Chosen k x → (rest : List ℕ)
    → scan_choice g (canonopt k x ++ rest) ≡ answer (cond (ltb g (grade_of CanonOption k)) (At 0) Clear) (length (canonopt k x)) 2
unfolding scan_choice canonopt
choice-scans g {k} {x} (with h i s) rest =
    simp (some-there, lt-ltb k 10 h, i)
    (ap (λ l. cond (ltb g (grade_of CanonOption k)) (Bad Newer 0) l) (past_one x s rest 2) ∙ asked-answer (ltb g (grade_of CanonOption k)) 0 _ 2)
choice-scans g {k} (bare h i) rest = simp (some-there, lt-ltb k 10 h, i) (asked-answer (ltb g (grade_of CanonOption k)) 0 1 2)

choice-says : {k x : ℕ} → Chosen k x → (rest : List ℕ)
    → byte (canonopt k x ++ rest) 0 ∷ cond (indexed (byte (canonopt k x ++ rest) 0)) (index (drop 1 (canonopt k x ++ rest))) 0 ∷ [] ≡ k ∷ x ∷ []
unfolding canonopt
choice-says {k} {x} (with h i s) rest = simp i (ap (λ n. k ∷ n ∷ []) (index_says x s rest))
choice-says (bare h i) rest = simp i

-- ---- a reference

pub data Referred : ℕ → ℕ → ℕ → Type 0 where
  core : {x : ℕ} → x < 2 ^ 32 → Referred 0 x 0
  valued : {k x : ℕ} → Valued k x → Referred 2 k x
  equal : {x : ℕ} → x < 2 ^ 32 → Referred 3 0 x
  fresh : Referred 3 1 0
  other : {s x : ℕ} → eqb s 0 ≡ false → eqb s 2 ≡ false → eqb s 3 ≡ false → s < 6 → x < 2 ^ 32 → Referred s x 0

reference-right : (ws : List ℕ) → Words ws → reference ws ≡ Right → Referred (word ws 0) (word ws 1) (word ws 2)
unfolding reference
reference-right ws fw e = go (eqb s 0) (eqb s 2) (eqb s 3) (ltb s 6) refl refl refl refl e
  where
    s : ℕ
    s = word ws 0

    x : ℕ
    x = word ws 1

    y : ℕ
    y = word ws 2

    bound : (a b c : Bool) → eqb x 0 ≡ a → eqb x 1 ≡ b → eqb y 0 ≡ c → s ≡ 3
        → cond a Right (cond b (cond c Right (Wrong Tag 2)) (Wrong Tag 1)) ≡ Right → Referred s x y
    bound true b c ha hb hc es e = rw (es, eqb-true x 0 ha) (equal (fw 2))
    bound false true true ha hb hc es e = rw (es, eqb-true x 1 hb, eqb-true y 0 hc) fresh
    bound false true false ha hb hc es e = impossible cc
    bound false false c ha hb hc es e = impossible cc

    plain : (z c : Bool) → eqb s 0 ≡ z → eqb y 0 ≡ c → eqb s 2 ≡ false → eqb s 3 ≡ false → s < 6
        → cond c Right (Wrong Tag 2) ≡ Right → Referred s x y
    plain true true hz hc h₂ h₃ h₆ e = rw (eqb-true s 0 hz, eqb-true y 0 hc) (core (fw 1))
    plain false true hz hc h₂ h₃ h₆ e = rw (eqb-true y 0 hc) (other hz h₂ h₃ h₆ (fw 1))
    plain z false hz hc h₂ h₃ h₆ e = impossible cc

    go : (z a b c : Bool) → eqb s 0 ≡ z → eqb s 2 ≡ a → eqb s 3 ≡ b → ltb s 6 ≡ c
        → cond a (value ws 1)
        (cond b (cond (eqb x 0) Right (cond (eqb x 1) (cond (eqb y 0) Right (Wrong Tag 2)) (Wrong Tag 1)))
        (cond c (cond (eqb y 0) Right (Wrong Tag 2)) (Wrong Tag 0))) ≡ Right
        → Referred s x y
    go z true b c hz ha hb hc e = rw (eqb-true s 2 ha) (valued (value_right ws 1 fw e))
    go z false true c hz ha hb hc e = bound (eqb x 0) (eqb x 1) (eqb y 0) refl refl refl (eqb-true s 3 hb) e
    go z false false true hz ha hb hc e = plain z (eqb y 0) hz refl ha hb (ltb-true _ _ hc) e
    go z false false false hz ha hb hc e = impossible cc

three-answer : (m : Mark) (l : Leaf) (t n : ℕ) → l ≡ answer m t n → three l ≡ answer m t 3
three-answer Clear l t n e = ap three e
three-answer (At j) l t n e = ap three e

module _ (g : ℕ) (any : 1 ≤ g) (rest : List ℕ) where
  reference_scans : {s x y : ℕ} → Referred s x y
      → scan_reference g (externdesc s x y ++ rest) ≡ answer (cond (eqb s 2) (value_mark g x y 1) Clear) (length (externdesc s x y)) 3
  unfolding scan_reference scan_module scan_bound externdesc typebound
  reference_scans {s} {x} (core h) = simp (some-there, two-there) (past_two x h rest 3)
  reference_scans {s} {x} {y} (valued v) =
      simp some-there
      (three-answer (value_mark g x y 1) (past 1 (scan_value g (valtype x y ++ rest))) (suc (length (valtype x y))) 2 (behind g any rest v))
  reference_scans {s} {x} {y} (equal h) = simp (some-there, two-there) (past_two y h rest 3)
  reference_scans fresh = simp (some-there, two-there)
  reference_scans {s} {x} (other h₀ h₂ h₃ h₆ h) = simp (h₀, h₂, h₃, some-there, lt-ltb s 6 h₆) (past_one x h rest 3)

  reference_says : {s x y : ℕ} → Referred s x y → fill_reference (externdesc s x y ++ rest) ≡ s ∷ x ∷ y ∷ []
  unfolding fill_reference externdesc typebound
  reference_says {s} {x} (core h) = ap (λ n. 0 ∷ n ∷ 0 ∷ []) (index_says x h rest)
  reference_says (valued v) = ap (λ l. 2 ∷ l) (value_says g any rest v)
  reference_says {s} {x} {y} (equal h) = ap (λ n. 3 ∷ 0 ∷ n ∷ []) (index_says y h rest)
  reference_says fresh = refl
  reference_says {s} {x} (other h₀ h₂ h₃ h₆ h) = simp (h₀, h₂, h₃) (ap (λ n. s ∷ n ∷ 0 ∷ []) (index_says x h rest))

-- ---- arguments and items of instances

argument-scans : (x : ℕ) → x < 2 ^ 32 → (rest : List ℕ) → scan_argument (argument x ++ rest) ≡ Fine (length (argument x)) 1
unfolding scan_argument argument
argument-scans x h rest = simp some-there (past_one x h rest 1)

argument-says : (x : ℕ) → x < 2 ^ 32 → (rest : List ℕ) → index (drop 1 (argument x ++ rest)) ∷ [] ≡ x ∷ []
unfolding argument
argument-says x h rest = ap (λ n. n ∷ []) (index_says x h rest)

core_sort_scans : (s x : ℕ) → s < 5 → x < 2 ^ 32 → (rest : List ℕ) → scan_core_sort_index (coresortidx s x ++ rest) ≡ Fine (length (coresortidx s x)) 2
unfolding scan_core_sort_index coresortidx
core_sort_scans s x k h rest = simp (some-there, lt-ltb s 5 k) (past_one x h rest 2)

core_sort_says : (s x : ℕ) → x < 2 ^ 32 → (rest : List ℕ)
    → byte (coresortidx s x ++ rest) 0 ∷ index (drop 1 (coresortidx s x ++ rest)) ∷ [] ≡ s ∷ x ∷ []
unfolding coresortidx
core_sort_says s x h rest = ap (λ n. s ∷ n ∷ []) (index_says x h rest)

pub data OfSort : ℕ → Type 0 where
  core : OfSort 0
  other : {s : ℕ} → eqb s 0 ≡ false → s < 6 → OfSort s

sort_right : (ws : List ℕ) → below 6 ws 0 ≡ Right → OfSort (word ws 0)
sort_right ws e = go (eqb (word ws 0) 0) refl
  where
    go : (b : Bool) → eqb (word ws 0) 0 ≡ b → OfSort (word ws 0)
    go true t = rw (eqb-true (word ws 0) 0 t) core
    go false t = other t (below_is 6 ws 0 e)

sort_scans : {s x : ℕ} → OfSort s → x < 2 ^ 32 → (rest : List ℕ) → scan_sort_index (sortidx s x ++ rest) ≡ Fine (length (sortidx s x)) 2
unfolding scan_sort_index scan_module sortidx
sort_scans {s} {x} core h rest = simp (some-there, two-there) (past_two x h rest 2)
sort_scans {s} {x} (other z k) h rest = simp (z, some-there, lt-ltb s 6 k) (past_one x h rest 2)

sort_says : {s x : ℕ} → OfSort s → x < 2 ^ 32 → (rest : List ℕ) → fill_sort_index (sortidx s x ++ rest) ≡ s ∷ x ∷ []
unfolding fill_sort_index sortidx
sort_says {s} {x} core h rest = ap (λ n. 0 ∷ n ∷ []) (index_says x h rest)
sort_says {s} {x} (other z k) h rest = simp z (ap (λ n. s ∷ n ∷ []) (index_says x h rest))

-- ---- each field

-- a field whose words are read as they stand
as_words : {lead g : ℕ} {pool input : List ℕ} {f : Field} {ws rest : List ℕ} {b : ℕ} (words : List ℕ)
    → scan lead g f (bytes pool f ws ++ rest) ≡ answer (mark lead g f ws) (length (bytes pool f ws)) (wide f)
    → fill g f b (bytes pool f ws ++ rest) ≡ words → length words ≡ wide f
    → ((more : List ℕ) → view input f (words ++ more) ≡ view pool f ws)
    → ((more : List ℕ) → said input f (words ++ more) ≡ said pool f ws) → Back lead g pool input f ws rest b
as_words {input = input} {f} words s e l v p =
    record {
      scans = s;
      fills = ap length e ∙ l;
      says = λ c more. ap (λ k. view input f (k ++ more)) e ∙ v more;
      same = λ c more. ap (λ k. said input f (k ++ more)) e ∙ p more;
    }

module _ (lead g : ℕ) (any : 1 ≤ g) (pool input : List ℕ) where
  -- one of two bytes, the second of grade n
  bit_scans : {k : ℕ} (n x y : ℕ) → Bit k → eqb y x ≡ false → (rest : List ℕ)
      → scan_either g n x y (cond (eqb k 0) x y ∷ rest) ≡ answer (cond (eqb k 0) Clear (cond (ltb g n) (At 0) Clear)) 1 1
  unfolding scan_either
  bit_scans n x y off d rest = simp (some-there, eq-eqb x x refl)
  bit_scans n x y on d rest = simp (some-there, d, eq-eqb y y refl) (asked-answer (ltb g n) 0 1 1)

  bit_says : {k : ℕ} (x y : ℕ) → Bit k → eqb y x ≡ false → cond (eqb (cond (eqb k 0) x y) x) 0 1 ∷ [] ≡ k ∷ []
  bit_says x y off d = simp (eq-eqb x x refl)
  bit_says x y on d = simp d

  -- grade 1 marks nothing
  no_mark : (t : Bool) → cond t Clear (cond (ltb g 1) (At 0) Clear) ≡ Clear
  no_mark true = refl
  no_mark false = simp (le-ltb g 1 any)

  pub field_back : (f : Field) (ws : List ℕ) → Words ws → flaw pool f ws ≡ Right → (rest : List ℕ) (b : ℕ)
      → drop b input ≡ bytes pool f ws ++ rest → Back lead g pool input f ws rest b
  unfolding flaw bytes scan fill view said wide mark functype flag representation
  field_back field.Nothing ws fw e rest b q = as_words [] refl refl refl (λ more. refl) (λ more. refl)
  field_back (field.Fixed x) ws fw e rest b q =
      as_words [] (simp (some-there, eq-eqb x x refl) (asked-answer (ltb g lead) 0 1 0)) refl refl (λ more. refl) (λ more. refl)
  field_back field.Primitive ws fw e rest b q =
      let p = prime_right ws 0 e in
      as_words (word ws 0 ∷ []) (simp some-there (prime_scans g any 1 p)) (ap (λ x. x ∷ []) (prime_says p)) refl (λ more. refl) (λ more. refl)
  field_back field.Value ws fw e rest b q =
      let v = value_right ws 0 fw e in
      as_words (word ws 0 ∷ word ws 1 ∷ []) (value_scans g any rest v) (value_says g any rest v) refl (λ more. refl) (λ more. refl)
  field_back field.Optional ws fw e rest b q =
      let o = optional-right ws fw e in
      as_words (word ws 0 ∷ word ws 1 ∷ []) (optional_scans g any rest o) (optional_says g any rest o) refl (λ more. refl) (λ more. refl)
  field_back field.OptionalThenZero ws fw e rest b q =
      let o = optional-right ws fw e in
      let bs = optional (word ws 0) (word ws 1) in
      let whole : (bs ++ 0x00 ∷ []) ++ rest ≡ bs ++ 0x00 ∷ rest = append_assoc bs (0x00 ∷ []) rest in
      as_words (word ws 0 ∷ word ws 1 ∷ [])
      (zero-behind bs rest (value_mark g (word ws 0) (word ws 1) 1) (scan_optional g ((bs ++ 0x00 ∷ []) ++ rest)) 2
      (ap (λ l. scan_optional g l) whole ∙ optional_scans g any (0x00 ∷ rest) o))
      (ap (λ l. fill_optional 0x01 l) whole ∙ optional_says g any (0x00 ∷ rest) o) refl (λ more. refl) (λ more. refl)
  field_back field.Result ws fw e rest b q =
      let o = optional-right ws fw e in
      as_words (word ws 0 ∷ word ws 1 ∷ []) (result_scans g any rest o) (ResultSays g any rest o) refl (λ more. refl) (λ more. refl)
  field_back field.Name ws fw e rest b q =
      let back = name_back (name_right pool ws 0 fw e) input (name pool (word ws 0) (word ws 1) ++ rest) rest b 0 q refl in
      as_words ((b + (0 + length (unsigned (word ws 1)))) ∷ word ws 1 ∷ []) back.scans back.fills refl
      (λ more. ap (λ l. word ws 1 ∷ l) back.says) (λ more. ap (λ l. Name (word ws 1) l ∷ []) back.says)
  field_back field.Index ws fw e rest b q =
      as_words (word ws 0 ∷ []) (index_scans (word ws 0) (fw 0) rest 1) (ap (λ x. x ∷ []) (index_says (word ws 0) (fw 0) rest)) refl (λ more. refl) (λ more. refl)
  field_back field.Async ws fw e rest b q =
      let k = bit-right ws e in
      as_words (word ws 0 ∷ []) (bit_scans 2 0x40 0x43 k refl rest) (bit_says 0x40 0x43 k refl) refl (λ more. refl) (λ more. refl)
  field_back field.Flag ws fw e rest b q =
      let k = bit-right ws e in
      as_words (word ws 0 ∷ []) (bit_scans 1 0x00 0x01 k refl rest ∙ ap (λ m. answer m 1 1) (no_mark (eqb (word ws 0) 0)))
      (bit_says 0x00 0x01 k refl) refl (λ more. refl) (λ more. refl)
  field_back field.Rep ws fw e rest b q =
      let k = bit-right ws e in
      as_words (word ws 0 ∷ []) (bit_scans 1 0x7f 0x7e k refl rest ∙ ap (λ m. answer m 1 1) (no_mark (eqb (word ws 0) 0)))
      (bit_says 0x7f 0x7e k refl) refl (λ more. refl) (λ more. refl)
  field_back field.OptionalIndex ws fw e rest b q =
      let p = present-right ws fw e in
      as_words (word ws 0 ∷ word ws 1 ∷ []) (present-scans p rest) (present-says p rest) refl (λ more. refl) (λ more. refl)
  field_back field.Choice ws fw e rest b q =
      let c = choice-right ws fw e in
      as_words (word ws 0 ∷ word ws 1 ∷ []) (choice-scans g c rest) (choice-says c rest) refl (λ more. refl) (λ more. refl)
  field_back field.ExternName ws fw e rest b q = extern_back lead g pool input ws fw (extern_right pool ws e) rest b q
  field_back field.Reference ws fw e rest b q =
      let r = reference-right ws fw e in
      as_words (word ws 0 ∷ word ws 1 ∷ word ws 2 ∷ []) (reference_scans g any rest r) (reference_says g any rest r) refl (λ more. refl) (λ more. refl)
  field_back field.Argument ws fw e rest b q =
      as_words (word ws 0 ∷ []) (argument-scans (word ws 0) (fw 0) rest) (argument-says (word ws 0) (fw 0) rest) refl (λ more. refl) (λ more. refl)
  field_back field.CoreSortIndex ws fw e rest b q =
      as_words (word ws 0 ∷ word ws 1 ∷ []) (core_sort_scans (word ws 0) (word ws 1) (below_is 5 ws 0 e) (fw 1) rest)
      (core_sort_says (word ws 0) (word ws 1) (fw 1) rest) refl (λ more. refl) (λ more. refl)
  field_back field.SortIndex ws fw e rest b q =
      let s = sort_right ws e in
      as_words (word ws 0 ∷ word ws 1 ∷ []) (sort_scans s (fw 1) rest) (sort_says s (fw 1) rest) refl (λ more. refl) (λ more. refl)
