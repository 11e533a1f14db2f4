-- What the bytes are that a reader accepts: the words that are made of them are right, and their bytes are those that were taken, with
-- each number in its shortest form.
use Rattle.std.specs.Prelude.{Err, Ok}
use Prim.Native.Nat.{ℕ, suc, ◌+◌, ◌-◌, ◌^◌, ◌≤◌, ◌<◌}
use native.Mathlib.Omega.{arith}
use mathlib.Core.Path.{◌≡◌, refl, sym, ap, ◌∙◌}
use mathlib.Core.Bool.{Bool, true, false, cond}
use mathlib.Core.List.{List, [], ◌∷◌}
use borrow.Author.Tests.{ltb-true, ltb-false, leb-false, eqb-true, eqb-false, lt-ltb, eq-eqb, ne_eqb}
use lib.Dec.{eqb, ltb, leb}
use lib.ListN.{length, take, drop, length-drop}
use lib.Seq.{get_or-drop}
use Rattle.numbers.specs.Taken.{Taken}
use Rattle.numbers.specs.Taken as taken
use Rattle.numbers.specs.Bytes.{Bytes}
use Rattle.numbers.specs.Integers.{u32, s33}
use Rattle.numbers.specs.Leb.{unsigned, take_unsigned, take_signed}
use Rattle.numbers.proofs.ExactLaws.{taken-small}
use Rattle.numbers.proofs.LebLaws.{taken-inside, one_byte}
use Rattle.fields.specs.Flaw.{Right}
use Rattle.fields.specs.declared.Refusal.TheVariants.{Code, Newer}
use Rattle.fields.specs.Leaf.{Leaf, Fine, Bad}
use Rattle.fields.proofs.OutcomeLaws.{fine-same}
use Rattle.writing.specs.Binary.{primvaltype, valtype, optional, resultlist, destructor, canonopt, typebound, externdesc, argument, coresortidx, sortidx}
use Rattle.fields.specs.Words.{indexed}
use Rattle.reading.specs.Fill.{index, value_in, primitive, fill_value, fill_optional, fill_reference, fill_sort_index}
use Rattle.writing.specs.Judge.{below, value, optional_value, optional_index, choice, reference}
use Rattle.fields.specs.Grades.{grade_of}
use Rattle.fields.specs.declared.Site.TheVariants.{CanonOption}
use Rattle.reading.specs.Scan.{byte, cut, there, asked, past, numbered, either, zero_at, scan_index, scan_primitive, scan_value, scan_optional, scan_result, scan_choice, scan_bound, scan_module, three, scan_reference, scan_either, scan_optional_index, scan_argument, scan_core_sort_index, scan_sort_index}
use Rattle.round_trip.specs.Padded.{Padded}
use Rattle.round_trip.proofs.PaddedLaws.{padded-same, padded_by, padded-behind, padded-number}
use Rattle.round_trip.proofs.FieldBack.{Valued, primed, typed, Optioned, none, some, not_two, Bit, off, on, Primed, old, new, Present, absent, present, Chosen, with, bare, Referred, core, valued, equal, fresh, other, one_more}
use Rattle.numbers.proofs.Impossible.{impossible}

-- ---- where an answer comes from

pub there-fine : (bs : List ℕ) (i : ℕ) (l : Leaf) (t m : ℕ) → there bs i l ≡ Fine t m → (i < length bs) × (l ≡ Fine t m)
there-fine bs i l t m e = go (leb (length bs) i) refl e
  where
    go : (x : Bool) → leb (length bs) i ≡ x → cond x (cut bs) l ≡ Fine t m → (i < length bs) × (l ≡ Fine t m)
    go true h e = impossible cc
    go false h e = (leb-false _ _ h, e)

pub asked-fine : (g n j : ℕ) (l : Leaf) (t m : ℕ) → asked g n j l ≡ Fine t m → l ≡ Fine t m
asked-fine g n j l t m e = go (ltb g n) e
  where
    go : (x : Bool) → cond x (Bad Newer j) l ≡ Fine t m → l ≡ Fine t m
    go true e = impossible cc
    go false e = e

pub past-fine : (k : ℕ) (l : Leaf) (t m : ℕ) → past k l ≡ Fine t m → (a : ℕ) × (l ≡ Fine a m) × (t ≡ k + a)
past-fine k (Ok span) t m e = let s = fine-same e in (span.took, ap (λ n. Fine span.took n) s.1, sym s.0)
past-fine k (Err fault) t m e = impossible cc

-- one of two bytes at the front
pub data Either (y a : ℕ) (l : Leaf) (b : ℕ) (r : Leaf) (t m : ℕ) : Type 0 where
  first : y ≡ a → l ≡ Fine t m → Either y a l b r t m
  second : y ≡ b → (y ≡ a → ⊥) → r ≡ Fine t m → Either y a l b r t m

pub either-fine : (bs : List ℕ) (a : ℕ) (l : Leaf) (b : ℕ) (r : Leaf) (t m : ℕ) → either bs a l b r ≡ Fine t m
    → (0 < length bs) × Either (byte bs 0) a l b r t m
either-fine bs a l b r t m e = let p = there-fine bs 0 _ t m e in (p.0, go (eqb (byte bs 0) a) (eqb (byte bs 0) b) refl refl p.1)
  where
    go : (x y : Bool) → eqb (byte bs 0) a ≡ x → eqb (byte bs 0) b ≡ y → cond x l (cond y r (Bad Code 0)) ≡ Fine t m
        → Either (byte bs 0) a l b r t m
    go true y h k e = first (eqb-true _ _ h) e
    go false true h k e = second (eqb-true _ _ k) (eqb-false _ _ h) e
    go false false h k e = impossible cc

-- ---- fronts of lists

pub front : (xs : List ℕ) (n : ℕ) → 0 < length xs → take (1 + n) xs ≡ byte xs 0 ∷ take n (drop 1 xs)
front [] n h = absurd (omega arith)
front (y ∷ ys) n h = ap (λ k. take k (y ∷ ys)) (one_more n)

pub front-two : (xs : List ℕ) (n : ℕ) → 1 < length xs → take (2 + n) xs ≡ byte xs 0 ∷ byte xs 1 ∷ take n (drop 2 xs)
front-two [] n h = absurd (omega arith)
front-two (y ∷ []) n h = absurd (omega arith)
front-two (y ∷ z ∷ ys) n h = let two : 2 + n ≡ suc (suc n) = omega arith in ap (λ k. take k (y ∷ z ∷ ys)) two

pub bytes-behind : (xs : List ℕ) (k : ℕ) → Bytes xs → Bytes (drop k xs)
bytes-behind xs k f i = rw (get_or-drop k xs i 0) (f (k + i))

-- what was written behind a byte that was taken, and behind two
lead_padded : (xs : List ℕ) (y k t : ℕ) {v : List ℕ} → byte xs 0 ≡ y → 0 < length xs → t ≡ 1 + k → Padded (take k (drop 1 xs)) v
    → Padded (take t xs) (y ∷ v)
lead_padded xs y k t e h et a =
    padded_by refl (padded-behind (y ∷ []) a) (ap (λ n. n ∷ take k (drop 1 xs)) (sym e) ∙ sym (front xs k h) ∙ ap (λ n. take n xs) (sym et))

leads-padded : (xs : List ℕ) (y z k t : ℕ) {v : List ℕ} → byte xs 0 ≡ y → byte xs 1 ≡ z → 1 < length xs → t ≡ 2 + k
    → Padded (take k (drop 2 xs)) v → Padded (take t xs) (y ∷ z ∷ v)
leads-padded xs y z k t ey ez h et a =
    let ey' = sym ey in
    let ez' = sym ez in
    padded_by refl (padded-behind (y ∷ z ∷ []) a)
    ((λ i. ey' i ∷ ez' i ∷ take k (drop 2 xs)) ∙ sym (front-two xs k h) ∙ ap (λ n. take n xs) (sym et))

-- ---- an index

pub record IndexSeen (xs : List ℕ) (n t m : ℕ) : Type 0 where
  pub x : ℕ
  pub small : x < 2 ^ 32
  pub reads : index xs ≡ x
  pub again : Padded (take t xs) (unsigned x)
  pub inside : t ≤ length xs
  pub makes : m ≡ n

pub index_seen : (xs : List ℕ) (n t m : ℕ) → Bytes xs → scan_index n xs ≡ Fine t m → IndexSeen xs n t m
unfolding scan_index
index_seen xs n t m f e = go (take_unsigned xs) refl e
  where
    go : (r : Taken) → take_unsigned xs ≡ r → numbered xs r n ≡ Fine t m → IndexSeen xs n t m
    go (Ok got) q e =
        let et : got.took ≡ t = (fine-same e).0 in
        let q' : take_unsigned xs ≡ taken.Value got.value t = q ∙ ap (λ k. taken.Value got.value k) et in
        record { x = got.value; small = taken-small 128 xs got.value t q'; reads = ap value_in q; again = padded-number u32 xs got.value t f q'; inside = (taken-inside u32 xs got.value t q').2; makes = sym (fine-same e).1 }
    go taken.Cut q e = impossible cc
    go taken.Bad q e = impossible cc

-- ---- a primitive

pub record PrimeSeen (y n t m : ℕ) : Type 0 where
  pub p : ℕ
  pub right : Primed p
  pub reads : primitive y ≡ p
  pub again : primvaltype p ≡ y
  pub took : t ≡ 1
  pub makes : m ≡ n

pub prime_seen : (g y n t m : ℕ) → scan_primitive g y (Fine 1 n) ≡ Fine t m → PrimeSeen y n t m
unfolding scan_primitive primitive primvaltype
prime_seen g y n t m e = go (eqb y 0x64) (ltb y 0x73) (ltb y 0x80) refl refl refl e
  where
    go : (a b c : Bool) → eqb y 0x64 ≡ a → ltb y 0x73 ≡ b → ltb y 0x80 ≡ c
        → cond a (asked g 2 0 (Fine 1 n)) (cond b (Bad Code 0) (cond c (Fine 1 n) (Bad Code 0))) ≡ Fine t m → PrimeSeen y n t m
    go true b c ha hb hc e =
        let q = asked-fine g 2 0 (Fine 1 n) t m e in
        record { p = 13; right = new; reads = simp ha; again = sym (eqb-true y 0x64 ha); took = sym (fine-same q).0; makes = sym (fine-same q).1 }
    go false true c ha hb hc e = impossible cc
    go false false true ha hb hc e =
        let low = ltb-false y 0x73 hb in
        let high = ltb-true y 0x80 hc in
        let d : 0x7f - y ≡ 13 → ⊥ = omega arith in
        let u : 0x7f - (0x7f - y) ≡ y = omega arith in
        let k : 0x7f - y < 13 = omega arith in
        record { p = 0x7f - y; right = old k; reads = simp ha; again = simp (ne_eqb _ _ d, u); took = sym (fine-same e).0; makes = sym (fine-same e).1 }
    go false false false ha hb hc e = impossible cc

-- ---- two words: R is what is right of them, E their bytes, and `words` what is made of the bytes

pub record PairSeen (R : ℕ → ℕ → Type 0) (E : ℕ → ℕ → List ℕ) (words xs : List ℕ) (t m : ℕ) : Type 0 where
  pub a : ℕ
  pub b : ℕ
  pub right : R a b
  pub fills : words ≡ a ∷ b ∷ []
  pub again : Padded (take t xs) (E a b)
  pub inside : t ≤ length xs
  pub makes : m ≡ 2

pub value-seen : (g : ℕ) (xs : List ℕ) (t m : ℕ) → Bytes xs → scan_value g xs ≡ Fine t m → PairSeen Valued valtype (fill_value xs) xs t m
unfolding scan_value fill_value valtype
value-seen g xs t m f e =
    let p = there-fine xs 0 _ t m e in
    go (ltb (byte xs 0) 0x40) (ltb (byte xs 0) 0x80) refl refl p.0 p.1
  where
    y : ℕ
    y = byte xs 0

    number : (r : Taken) → take_signed xs ≡ r → numbered xs r 2 ≡ Fine t m → PairSeen Valued valtype (1 ∷ value_in (take_signed xs) ∷ []) xs t m
    number (Ok got) q e =
        let et : got.took ≡ t = (fine-same e).0 in
        let q' : take_signed xs ≡ taken.Value got.value t = q ∙ ap (λ k. taken.Value got.value k) et in
        record {
          a = 1;
          b = got.value;
          right = typed (taken-small 64 xs got.value t q');
          fills = ap (λ r. 1 ∷ value_in r ∷ []) q;
          again = padded-number s33 xs got.value t f q';
          inside = (taken-inside s33 xs got.value t q').2;
          makes = sym (fine-same e).1;
        }
    number taken.Cut q e = impossible cc
    number taken.Bad q e = impossible cc

    go : (a b : Bool) → ltb y 0x40 ≡ a → ltb y 0x80 ≡ b → 0 < length xs
        → cond a (Fine 1 2) (cond b (scan_primitive g y (Fine 1 2)) (numbered xs (take_signed xs) 2)) ≡ Fine t m
        → PairSeen Valued valtype (cond a (1 ∷ y ∷ []) (cond b (0 ∷ primitive y ∷ []) (1 ∷ value_in (take_signed xs) ∷ []))) xs t m
    go true b ha hb h e =
        let et : 1 ≡ t = (fine-same e).0 in
        let low = ltb-true y 0x40 ha in
        let small : y < 2 ^ 32 = omega arith in
        record {
          a = 1;
          b = y;
          right = typed small;
          fills = refl;
          again = padded-same (one_byte 64 y low ∙ sym (front xs 0 h) ∙ ap (λ k. take k xs) et);
          inside = omega arith;
          makes = sym (fine-same e).1;
        }
    go false true ha hb h e =
        let s = prime_seen g y 2 t m e in
        let et = s.took in
        record {
          a = 0;
          b = s.p;
          right = primed s.right;
          fills = ap (λ n. 0 ∷ n ∷ []) s.reads;
          again = padded-same (ap (λ n. n ∷ []) s.again ∙ sym (front xs 0 h) ∙ ap (λ k. take k xs) (sym et));
          inside = omega arith;
          makes = s.makes;
        }
    go false false ha hb h e = number (take_signed xs) refl e

module _ (g : ℕ) (xs : List ℕ) (t m : ℕ) (f : Bytes xs) where
  -- nothing, by the one byte y
  nothing : (E : ℕ → ℕ → List ℕ) (n : ℕ) → E 2 0 ≡ take n xs → n ≤ length xs → Fine n 2 ≡ Fine t m → (words : List ℕ) → words ≡ 2 ∷ 0 ∷ []
      → PairSeen Optioned E words xs t m
  nothing E n w h e words q =
      let et : n ≡ t = (fine-same e).0 in
      record { a = 2; b = 0; right = none; fills = q; again = padded-same (w ∙ ap (λ k. take k xs) et); inside = omega arith; makes = sym (fine-same e).1 }

  -- a value behind the byte y
  something : (E : ℕ → ℕ → List ℕ) (y : ℕ) → byte xs 0 ≡ y → 0 < length xs → ((k x : ℕ) → Valued k x → E k x ≡ y ∷ valtype k x)
      → past 1 (scan_value g (drop 1 xs)) ≡ Fine t m → (words : List ℕ) → words ≡ fill_value (drop 1 xs) → PairSeen Optioned E words xs t m
  something E y ey h w e words q =
      let p = past-fine 1 (scan_value g (drop 1 xs)) t m e in
      let a = p.0 in
      let s = value-seen g (drop 1 xs) a m (bytes-behind xs 1 f) p.1 in
      let i = s.inside in
      record {
        a = s.a;
        b = s.b;
        right = some s.right;
        fills = q ∙ s.fills;
        again = padded_by (w s.a s.b s.right) (lead_padded xs y a t ey h p.2 s.again) refl;
        inside = omega (arith, length-drop 1 xs, p.2);
        makes = s.makes;
      }

  pub optional_seen : scan_optional g xs ≡ Fine t m → PairSeen Optioned optional (fill_optional 0x01 xs) xs t m
  unfolding scan_optional fill_optional optional
  optional_seen e = let p = either-fine xs 0x00 _ 0x01 _ t m e in go p.0 p.1
    where
      go : 0 < length xs → Either (byte xs 0) 0x00 (Fine 1 2) 0x01 (past 1 (scan_value g (drop 1 xs))) t m
          → PairSeen Optioned optional (fill_optional 0x01 xs) xs t m
      go h (first y e) =
          nothing optional 1 (ap (λ n. n ∷ []) (sym y) ∙ sym (front xs 0 h)) (omega arith) e (fill_optional 0x01 xs) (simp y)
      go h (second y n e) =
          something optional 0x01 y h (λ k x v. simp (not_two v)) e (fill_optional 0x01 xs) (simp y)

  pub result_seen : scan_result g xs ≡ Fine t m → PairSeen Optioned resultlist (fill_optional 0x00 xs) xs t m
  unfolding scan_result fill_optional resultlist
  result_seen e = let p = either-fine xs 0x00 _ 0x01 _ t m e in go p.0 p.1
    where
      zero : (b : Bool) → 1 < length xs → eqb (byte xs 1) 0 ≡ b → byte xs 0 ≡ 1 → cond b (Fine 2 2) (Bad Code 1) ≡ Fine t m
          → PairSeen Optioned resultlist (fill_optional 0x00 xs) xs t m
      zero true h q y e =
          let z = sym (eqb-true (byte xs 1) 0 q) in
          let o = sym y in
          nothing resultlist 2 ((λ i. o i ∷ z i ∷ []) ∙ sym (front-two xs 0 h)) (omega arith) e (fill_optional 0x00 xs) (simp y)
      zero false h q y e = impossible cc

      go : 0 < length xs → Either (byte xs 0) 0x00 (past 1 (scan_value g (drop 1 xs))) 0x01 (zero_at xs 1 (Fine 2 2)) t m
          → PairSeen Optioned resultlist (fill_optional 0x00 xs) xs t m
      go h (first y e) =
          something resultlist 0x00 y h (λ k x v. simp (not_two v)) e (fill_optional 0x00 xs) (simp y)
      go h (second y n e) = let p = there-fine xs 1 _ t m e in zero (eqb (byte xs 1) 0) p.0 refl y p.1

  pub present_seen : scan_optional_index xs ≡ Fine t m
      → PairSeen Present destructor (cond (eqb (byte xs 0) 0x00) (0 ∷ 0 ∷ []) (1 ∷ index (drop 1 xs) ∷ [])) xs t m
  unfolding scan_optional_index destructor
  present_seen e = let p = either-fine xs 0x00 _ 0x01 _ t m e in go p.0 p.1
    where
      go : 0 < length xs → Either (byte xs 0) 0x00 (Fine 1 2) 0x01 (past 1 (scan_index 2 (drop 1 xs))) t m
          → PairSeen Present destructor (cond (eqb (byte xs 0) 0x00) (0 ∷ 0 ∷ []) (1 ∷ index (drop 1 xs) ∷ [])) xs t m
      go h (first y e) =
          let et : 1 ≡ t = (fine-same e).0 in
          record {
            a = 0;
            b = 0;
            right = absent;
            fills = simp y;
            again = padded-same (ap (λ n. n ∷ []) (sym y) ∙ sym (front xs 0 h) ∙ ap (λ k. take k xs) et);
            inside = omega arith;
            makes = sym (fine-same e).1;
          }
      go h (second y n e) =
          let p = past-fine 1 (scan_index 2 (drop 1 xs)) t m e in
          let a = p.0 in
          let s = index_seen (drop 1 xs) 2 a m (bytes-behind xs 1 f) p.1 in
          let i = s.inside in
          let et : t ≡ 1 + a = p.2 in
          record {
            a = 1;
            b = s.x;
            right = present s.small;
            fills = simp y (ap (λ n. 1 ∷ n ∷ []) s.reads);
            again = lead_padded xs 0x01 a t y h et s.again;
            inside = omega (arith, length-drop 1 xs);
            makes = s.makes;
          }

  pub choice_seen : scan_choice g xs ≡ Fine t m
      → PairSeen Chosen canonopt (byte xs 0 ∷ cond (indexed (byte xs 0)) (index (drop 1 xs)) 0 ∷ []) xs t m
  unfolding scan_choice canonopt
  choice_seen e =
      let p = there-fine xs 0 _ t m e in
      go (ltb (byte xs 0) 10) (indexed (byte xs 0)) refl refl p.0 p.1
    where
      go : (x y : Bool) → ltb (byte xs 0) 10 ≡ x → indexed (byte xs 0) ≡ y → 0 < length xs
          → cond x (asked g (grade_of CanonOption (byte xs 0)) 0 (cond y (past 1 (scan_index 2 (drop 1 xs))) (Fine 1 2))) (Bad Code 0) ≡ Fine t m
          → PairSeen Chosen canonopt (byte xs 0 ∷ cond y (index (drop 1 xs)) 0 ∷ []) xs t m
      go true true hx hy h asks =
          let e = asked-fine g (grade_of CanonOption (byte xs 0)) 0 (past 1 (scan_index 2 (drop 1 xs))) t m asks in
          let p = past-fine 1 (scan_index 2 (drop 1 xs)) t m e in
          let a = p.0 in
          let s = index_seen (drop 1 xs) 2 a m (bytes-behind xs 1 f) p.1 in
          let i = s.inside in
          let et : t ≡ 1 + a = p.2 in
          record {
            a = byte xs 0;
            b = s.x;
            right = with (ltb-true _ _ hx) hy s.small;
            fills = ap (λ n. byte xs 0 ∷ n ∷ []) s.reads;
            again = simp hy (lead_padded xs (byte xs 0) a t refl h et s.again);
            inside = omega (arith, length-drop 1 xs);
            makes = s.makes;
          }
      go true false hx hy h asks =
          let e = asked-fine g (grade_of CanonOption (byte xs 0)) 0 (Fine 1 2) t m asks in
          let et : 1 ≡ t = (fine-same e).0 in
          record {
            a = byte xs 0;
            b = 0;
            right = bare (ltb-true _ _ hx) hy;
            fills = refl;
            again = simp hy (padded-same (sym (front xs 0 h) ∙ ap (λ k. take k xs) et));
            inside = omega arith;
            makes = sym (fine-same e).1;
          }
      go false y hx hy h e = impossible cc

-- ---- one of two bytes

pub record BitSeen (x y : ℕ) (xs : List ℕ) (t m : ℕ) : Type 0 where
  pub k : ℕ
  pub right : Bit k
  pub reads : cond (eqb (byte xs 0) x) 0 1 ≡ k
  pub again : cond (eqb k 0) x y ∷ [] ≡ take t xs
  pub inside : t ≤ length xs
  pub makes : m ≡ 1

pub bit-seen : (g n x y : ℕ) (xs : List ℕ) (t m : ℕ) → scan_either g n x y xs ≡ Fine t m → BitSeen x y xs t m
unfolding scan_either
bit-seen g n x y xs t m e = let p = either-fine xs x _ y _ t m e in go p.0 p.1
  where
    go : 0 < length xs → Either (byte xs 0) x (Fine 1 1) y (asked g n 0 (Fine 1 1)) t m → BitSeen x y xs t m
    go h (first q e) =
        let et : 1 ≡ t = (fine-same e).0 in
        record {
          k = 0;
          right = off;
          reads = simp (eq-eqb _ _ q);
          again = ap (λ n. n ∷ []) (sym q) ∙ sym (front xs 0 h) ∙ ap (λ k. take k xs) et;
          inside = omega arith;
          makes = sym (fine-same e).1;
        }
    go h (second q d e) =
        let e' = asked-fine g n 0 (Fine 1 1) t m e in
        let et : 1 ≡ t = (fine-same e').0 in
        record {
          k = 1;
          right = on;
          reads = simp (ne_eqb _ _ d);
          again = ap (λ n. n ∷ []) (sym q) ∙ sym (front xs 0 h) ∙ ap (λ k. take k xs) et;
          inside = omega arith;
          makes = sym (fine-same e').1;
        }

-- ---- a reference

pub record ReferenceSeen (xs : List ℕ) (t m : ℕ) : Type 0 where
  pub s : ℕ
  pub x : ℕ
  pub y : ℕ
  pub right : Referred s x y
  pub fills : fill_reference xs ≡ s ∷ x ∷ y ∷ []
  pub again : Padded (take t xs) (externdesc s x y)
  pub inside : t ≤ length xs
  pub makes : m ≡ 3

three-fine : (l : Leaf) (t m : ℕ) → three l ≡ Fine t m → (c : ℕ) × (l ≡ Fine t c) × (m ≡ 3)
three-fine (Ok span) t m e = let s = fine-same e in (span.made, ap (λ n. Fine n span.made) s.0, sym s.1)
three-fine (Err fault) t m e = impossible cc

-- an index behind two bytes
record BehindTwo (n : ℕ) (xs : List ℕ) (a b t m : ℕ) : Type 0 where
  pub x : ℕ
  pub small : x < 2 ^ 32
  pub reads : index (drop 2 xs) ≡ x
  pub again : Padded (take t xs) (a ∷ b ∷ unsigned x)
  pub inside : t ≤ length xs
  pub makes : m ≡ n

behind-two : (n : ℕ) (xs : List ℕ) (a b t m : ℕ) → Bytes xs → 1 < length xs → byte xs 0 ≡ a → byte xs 1 ≡ b
    → past 2 (scan_index n (drop 2 xs)) ≡ Fine t m → BehindTwo n xs a b t m
behind-two n xs a b t m f h ea eb e =
    let p = past-fine 2 (scan_index n (drop 2 xs)) t m e in
    let k = p.0 in
    let s = index_seen (drop 2 xs) n k m (bytes-behind xs 2 f) p.1 in
    let i = s.inside in
    let et : t ≡ 2 + k = p.2 in
    record {
      x = s.x;
      small = s.small;
      reads = s.reads;
      again = leads-padded xs a b k t ea eb h et s.again;
      inside = omega (arith, length-drop 2 xs);
      makes = s.makes;
    }

pub reference-seen : (g : ℕ) (xs : List ℕ) (t m : ℕ) → Bytes xs → scan_reference g xs ≡ Fine t m → ReferenceSeen xs t m
unfolding scan_reference scan_module scan_bound fill_reference externdesc typebound
reference-seen g xs t m f e =
    let p = there-fine xs 0 _ t m e in
    go (eqb y₀ 0) (eqb y₀ 2) (eqb y₀ 3) (ltb y₀ 6) refl refl refl refl p.0 p.1
  where
    y₀ : ℕ
    y₀ = byte xs 0

    y₁ : ℕ
    y₁ = byte xs 1

    module_seen : (b : Bool) → 1 < length xs → eqb y₁ 0x11 ≡ b → y₀ ≡ 0 → cond b (past 2 (scan_index 3 (drop 2 xs))) (Bad Code 1) ≡ Fine t m
        → ReferenceSeen xs t m
    module_seen true h q z e =
        let k = behind-two 3 xs 0 0x11 t m f h z (eqb-true _ _ q) e in
        record {
          s = 0;
          x = k.x;
          y = 0;
          right = core k.small;
          fills = simp z (ap (λ n. 0 ∷ n ∷ 0 ∷ []) k.reads);
          again = k.again;
          inside = k.inside;
          makes = k.makes;
        }
    module_seen false h q z e = impossible cc

    bound_seen : (b c : Bool) → 1 < length xs → eqb y₁ 0 ≡ b → eqb y₁ 1 ≡ c → y₀ ≡ 3
        → cond b (past 2 (scan_index 3 (drop 2 xs))) (cond c (Fine 2 3) (Bad Code 1)) ≡ Fine t m → ReferenceSeen xs t m
    bound_seen true c h p q z e =
        let k = behind-two 3 xs 3 0 t m f h z (eqb-true _ _ p) e in
        record {
          s = 3;
          x = 0;
          y = k.x;
          right = equal k.small;
          fills = simp (z, p) (ap (λ n. 3 ∷ 0 ∷ n ∷ []) k.reads);
          again = k.again;
          inside = k.inside;
          makes = k.makes;
        }
    bound_seen false true h p q z e =
        let et : 2 ≡ t = (fine-same e).0 in
        let z' = sym z in
        let o' = sym (eqb-true y₁ 1 q) in
        record {
          s = 3;
          x = 1;
          y = 0;
          right = fresh;
          fills = simp (z, p);
          again = padded-same ((λ i. z' i ∷ o' i ∷ []) ∙ sym (front-two xs 0 h) ∙ ap (λ k. take k xs) et);
          inside = omega arith;
          makes = sym (fine-same e).1;
        }
    bound_seen false false h p q z e = impossible cc

    go : (a b c d : Bool) → eqb y₀ 0 ≡ a → eqb y₀ 2 ≡ b → eqb y₀ 3 ≡ c → ltb y₀ 6 ≡ d → 0 < length xs
        → cond a (scan_module 3 xs)
        (cond b (three (past 1 (scan_value g (drop 1 xs)))) (cond c (scan_bound xs) (cond d (past 1 (scan_index 3 (drop 1 xs))) (Bad Code 0)))) ≡ Fine t m
        → ReferenceSeen xs t m
    go true b c d ha hb hc hd h e =
        let p = there-fine xs 1 _ t m e in
        module_seen (eqb y₁ 0x11) p.0 refl (eqb-true _ _ ha) p.1
    go false true c d ha hb hc hd h e =
        let p = three-fine (past 1 (scan_value g (drop 1 xs))) t m e in
        let q = past-fine 1 (scan_value g (drop 1 xs)) t p.0 p.1 in
        let a = q.0 in
        let v = value-seen g (drop 1 xs) a p.0 (bytes-behind xs 1 f) q.1 in
        let i = v.inside in
        let et : t ≡ 1 + a = q.2 in
        let z = eqb-true y₀ 2 hb in
        record {
          s = 2;
          x = v.a;
          y = v.b;
          right = valued v.right;
          fills = simp z (ap (λ l. 2 ∷ l) v.fills);
          again = lead_padded xs 2 a t z h et v.again;
          inside = omega (arith, length-drop 1 xs);
          makes = p.2;
        }
    go false false true d ha hb hc hd h e =
        let p = there-fine xs 1 _ t m e in
        bound_seen (eqb y₁ 0) (eqb y₁ 1) p.0 refl refl (eqb-true _ _ hc) p.1
    go false false false true ha hb hc hd h e =
        let p = past-fine 1 (scan_index 3 (drop 1 xs)) t m e in
        let a = p.0 in
        let s = index_seen (drop 1 xs) 3 a m (bytes-behind xs 1 f) p.1 in
        let i = s.inside in
        let et : t ≡ 1 + a = p.2 in
        record {
          s = y₀;
          x = s.x;
          y = 0;
          right = other ha hb hc (ltb-true _ _ hd) s.small;
          fills = simp (ha, hb, hc) (ap (λ n. y₀ ∷ n ∷ 0 ∷ []) s.reads);
          again = simp (ha, hb, hc) (lead_padded xs y₀ a t refl h et s.again);
          inside = omega (arith, length-drop 1 xs);
          makes = s.makes;
        }
    go false false false false ha hb hc hd h e = impossible cc

-- ---- arguments and items of instances

-- an index behind one byte
record BehindOne (n : ℕ) (xs : List ℕ) (t m : ℕ) : Type 0 where
  pub x : ℕ
  pub small : x < 2 ^ 32
  pub reads : index (drop 1 xs) ≡ x
  pub again : Padded (take t xs) (byte xs 0 ∷ unsigned x)
  pub inside : t ≤ length xs
  pub makes : m ≡ n

behind-one : (n : ℕ) (xs : List ℕ) (t m : ℕ) → Bytes xs → 0 < length xs → past 1 (scan_index n (drop 1 xs)) ≡ Fine t m → BehindOne n xs t m
behind-one n xs t m f h e =
    let p = past-fine 1 (scan_index n (drop 1 xs)) t m e in
    let k = p.0 in
    let s = index_seen (drop 1 xs) n k m (bytes-behind xs 1 f) p.1 in
    let i = s.inside in
    let et : t ≡ 1 + k = p.2 in
    record {
      x = s.x;
      small = s.small;
      reads = s.reads;
      again = lead_padded xs (byte xs 0) k t refl h et s.again;
      inside = omega (arith, length-drop 1 xs);
      makes = s.makes;
    }

pub record ArgumentSeen (xs : List ℕ) (t m : ℕ) : Type 0 where
  pub x : ℕ
  pub small : x < 2 ^ 32
  pub reads : index (drop 1 xs) ≡ x
  pub again : Padded (take t xs) (argument x)
  pub inside : t ≤ length xs
  pub makes : m ≡ 1

pub argument-seen : (xs : List ℕ) (t m : ℕ) → Bytes xs → scan_argument xs ≡ Fine t m → ArgumentSeen xs t m
unfolding scan_argument argument
argument-seen xs t m f e = let p = there-fine xs 0 _ t m e in go (eqb (byte xs 0) 0x12) refl p.0 p.1
  where
    go : (b : Bool) → eqb (byte xs 0) 0x12 ≡ b → 0 < length xs → cond b (past 1 (scan_index 1 (drop 1 xs))) (Bad Code 0) ≡ Fine t m → ArgumentSeen xs t m
    go true q h e =
        let k = behind-one 1 xs t m f h e in
        let z = sym (eqb-true (byte xs 0) 0x12 q) in
        record { x = k.x; small = k.small; reads = k.reads; again = padded_by (ap (λ n. n ∷ unsigned k.x) z) k.again refl; inside = k.inside; makes = k.makes }
    go false q h e = impossible cc

-- a sort below n and an index, of bytes E
pub record SortSeen (n : ℕ) (E : ℕ → ℕ → List ℕ) (words xs : List ℕ) (t m : ℕ) : Type 0 where
  pub s : ℕ
  pub x : ℕ
  pub right : s < n
  pub small : x < 2 ^ 32
  pub fills : words ≡ s ∷ x ∷ []
  pub again : Padded (take t xs) (E s x)
  pub inside : t ≤ length xs
  pub makes : m ≡ 2

pub core_sort_seen : (xs : List ℕ) (t m : ℕ) → Bytes xs → scan_core_sort_index xs ≡ Fine t m
    → SortSeen 5 coresortidx (byte xs 0 ∷ index (drop 1 xs) ∷ []) xs t m
unfolding scan_core_sort_index coresortidx
core_sort_seen xs t m f e = let p = there-fine xs 0 _ t m e in go (ltb (byte xs 0) 5) refl p.0 p.1
  where
    go : (b : Bool) → ltb (byte xs 0) 5 ≡ b → 0 < length xs → cond b (past 1 (scan_index 2 (drop 1 xs))) (Bad Code 0) ≡ Fine t m
        → SortSeen 5 coresortidx (byte xs 0 ∷ index (drop 1 xs) ∷ []) xs t m
    go true q h e =
        let k = behind-one 2 xs t m f h e in
        record {
          s = byte xs 0;
          x = k.x;
          right = ltb-true _ _ q;
          small = k.small;
          fills = ap (λ n. byte xs 0 ∷ n ∷ []) k.reads;
          again = k.again;
          inside = k.inside;
          makes = k.makes;
        }
    go false q h e = impossible cc

pub sort_seen : (xs : List ℕ) (t m : ℕ) → Bytes xs → scan_sort_index xs ≡ Fine t m → SortSeen 6 sortidx (fill_sort_index xs) xs t m
unfolding scan_sort_index scan_module fill_sort_index sortidx
sort_seen xs t m f e = let p = there-fine xs 0 _ t m e in go (eqb (byte xs 0) 0) (ltb (byte xs 0) 6) refl refl p.0 p.1
  where
    modules : (b : Bool) → 1 < length xs → eqb (byte xs 1) 0x11 ≡ b → byte xs 0 ≡ 0 → cond b (past 2 (scan_index 2 (drop 2 xs))) (Bad Code 1) ≡ Fine t m
        → SortSeen 6 sortidx (fill_sort_index xs) xs t m
    modules true h q z e =
        let k = behind-two 2 xs 0 0x11 t m f h z (eqb-true _ _ q) e in
        record {
          s = 0;
          x = k.x;
          right = omega arith;
          small = k.small;
          fills = simp z (ap (λ n. 0 ∷ n ∷ []) k.reads);
          again = k.again;
          inside = k.inside;
          makes = k.makes;
        }
    modules false h q z e = impossible cc

    go : (a b : Bool) → eqb (byte xs 0) 0 ≡ a → ltb (byte xs 0) 6 ≡ b → 0 < length xs
        → cond a (scan_module 2 xs) (cond b (past 1 (scan_index 2 (drop 1 xs))) (Bad Code 0)) ≡ Fine t m
        → SortSeen 6 sortidx (fill_sort_index xs) xs t m
    go true b ha hb h e =
        let p = there-fine xs 1 _ t m e in
        modules (eqb (byte xs 1) 0x11) p.0 refl (eqb-true _ _ ha) p.1
    go false true ha hb h e =
        let k = behind-one 2 xs t m f h e in
        record {
          s = byte xs 0;
          x = k.x;
          right = ltb-true _ _ hb;
          small = k.small;
          fills = simp ha (ap (λ n. byte xs 0 ∷ n ∷ []) k.reads);
          again = simp ha k.again;
          inside = k.inside;
          makes = k.makes;
        }
    go false false ha hb h e = impossible cc

-- ---- words that are right are judged so

module _ (more : List ℕ) where
  pub prime_judged : {p : ℕ} → Primed p → below 14 (p ∷ more) 0 ≡ Right
  prime_judged {p} (old h) = simp (lt-ltb p 14 (omega arith))
  prime_judged new = refl

  pub value_judged : {k x : ℕ} → Valued k x → value (k ∷ x ∷ more) 0 ≡ Right
  unfolding value
  value_judged (primed {x} (old h)) = simp (lt-ltb x 14 (omega arith))
  value_judged (primed new) = refl
  value_judged (typed h) = refl

  pub optional_judged : {k x : ℕ} → Optioned k x → optional_value (k ∷ x ∷ more) 0 ≡ Right
  unfolding optional_value
  optional_judged none = refl
  optional_judged (some v) = simp (not_two v) (value_judged v)

  pub present_judged : {k x : ℕ} → Present k x → optional_index (k ∷ x ∷ more) ≡ Right
  unfolding optional_index
  present_judged absent = refl
  present_judged (present h) = refl

  pub choice_judged : {k x : ℕ} → Chosen k x → choice (k ∷ x ∷ more) ≡ Right
  unfolding choice
  choice_judged {k} (with h i s) = simp (lt-ltb k 10 h, i)
  choice_judged {k} (bare h i) = simp (lt-ltb k 10 h, i)

  pub reference_judged : {s x y : ℕ} → Referred s x y → reference (s ∷ x ∷ y ∷ more) ≡ Right
  unfolding reference value
  reference_judged (core h) = refl
  reference_judged (valued (primed {x} (old h))) = simp (lt-ltb x 14 (omega arith))
  reference_judged (valued (primed new)) = refl
  reference_judged (valued (typed h)) = refl
  reference_judged (equal h) = refl
  reference_judged fresh = refl
  reference_judged {s} (other h₀ h₂ h₃ h₆ h) = simp (h₂, h₃, lt-ltb s 6 h₆)
