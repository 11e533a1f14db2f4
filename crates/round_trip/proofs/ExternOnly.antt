-- Names and extern names that are read, written again beside the bytes taken, give these bytes, with each number in its shortest form.
use Rattle.std.specs.Prelude.{Err, Ok}
use Prim.Native.Nat.{ℕ, suc, ◌+◌, ◌-◌, ◌^◌, ◌≤◌, ◌<◌}
use native.Mathlib.Omega.{arith}
use native.Mathlib.Numerals.{add-one}
use mathlib.Core.Path.{◌≡◌, refl, sym, ap, ◌∙◌}
use mathlib.Core.Bool.{Bool, true, false, cond}
use mathlib.Core.List.{List, [], ◌∷◌, ◌++◌}
use borrow.Author.Tests.{ltb-true, leb-true, eqb-true, eqb-false, le-leb, ne_eqb}
use lib.Dec.{eqb, ltb, leb}
use lib.ListN.{length, take, drop, length-take, length-drop}
use lib.Seq.{length-take-le, take-add, take-take, drop_at, drop-drop, drop-cons}
use Rattle.numbers.specs.Taken.{Taken}
use Rattle.numbers.specs.Taken as taken
use Rattle.numbers.specs.Bytes.{Bytes}
use Rattle.numbers.specs.Integers.{u32}
use Rattle.numbers.specs.Leb.{unsigned, take_unsigned}
use Rattle.numbers.specs.Text.{text, stop}
use Rattle.numbers.proofs.ExactLaws.{taken-small}
use Rattle.numbers.proofs.LebLaws.{taken-inside, one_byte}
use Rattle.fields.specs.declared.Field.TheVariants as field
use Rattle.fields.specs.Flaw.{Right}
use Rattle.fields.specs.declared.Refusal.TheVariants.{Text, Code}
use Rattle.fields.specs.Answers.{offset_of}
use Rattle.fields.specs.Leaf.{Leaf, Fine, Bad}
use Rattle.fields.proofs.OutcomeLaws.{fine-same}
use Rattle.fields.specs.Words.{word, Words, chars, wide}
use Rattle.writing.specs.Binary.{name, flag, slot_at, slots_at, slots, externname, bytes}
use Rattle.reading.specs.Fill.{size_in, value_in, fill_name, fill_slot, fill_slots, fill_extern, fill}
use Rattle.writing.specs.Judge.{then, named, optional_name, flaw}
use Rattle.reading.specs.Scan as scans
use Rattle.reading.specs.Scan.{byte, cut, there, past, scan_name, onward, string_at, count_at, counted, slot_scan, end_scan, head_scan, first_scan, second_scan, scan_extern}
use Rattle.fields.specs.View.{Word, Name, view, said}
use Rattle.round_trip.specs.Padded.{Padded}
use Rattle.round_trip.proofs.PaddedLaws.{padded-same, padded_by, padded_both, padded-behind, padded-number}
use Rattle.round_trip.proofs.ExternBack.{NameRight, Slot, absent, present, slot_of, head_of, no_slot, head_and_slots}
use Rattle.round_trip.proofs.GradeOnly.{words_and, name_words, slot-words, asked_clear}
use Rattle.round_trip.proofs.Only.{Only, only-words}
use Rattle.round_trip.specs.Mark.{Clear, asks, mark}
use Rattle.round_trip.proofs.ScanOnly.{there-fine, asked-fine, past-fine, Either, first, second, either-fine, bytes-behind}
use Rattle.numbers.proofs.Impossible.{impossible}

-- ---- parts of lists

-- a part that ends within the front e of a list
part_of : (n s e : ℕ) (l : List ℕ) → s + n ≤ e → s ≤ length l → take n (drop s (take e l)) ≡ take n (drop s l)
part_of n s e l h k =
    let a : e ≡ s + (e - s) = omega arith in
    ap (λ m. take n (drop s (take m l))) a
    ∙ ap (λ m. take n (drop s m)) (take-add s (e - s) l)
    ∙ ap (λ m. take n m) (drop_at (take s l) (take (e - s) (drop s l)) s (length-take-le s l k))
    ∙ take-take n (e - s) (drop s l) (omega arith)

front_length : (n e : ℕ) (l : List ℕ) → n ≤ e → n ≤ length l → n ≤ length (take e l)
front_length n e l h k = omega (arith, length-take e l)

-- the part from a to b
abbrev part : List ℕ → ℕ → ℕ → List ℕ
part xs a b = take (b - a) (drop a xs)

-- a part, and the one behind it
part_and : (xs : List ℕ) (a b c : ℕ) → a ≤ b → b ≤ c → part xs a b ++ part xs b c ≡ part xs a c
part_and xs a b c h k =
    let whole : b - a + (c - b) ≡ c - a = omega arith in
    let place : a + (b - a) ≡ b = omega arith in
    ap (λ n. part xs a b ++ take (c - b) (drop n xs)) (sym place)
    ∙ ap (λ l. part xs a b ++ take (c - b) l) (sym (drop-drop (b - a) a xs))
    ∙ sym (take-add (b - a) (c - b) (drop a xs))
    ∙ ap (λ n. take n (drop a xs)) whole

-- a byte, and the part behind it
byte_and : (xs : List ℕ) (a b y : ℕ) → a < length xs → a + 1 ≤ b → byte xs a ≡ y → y ∷ part xs (a + 1) b ≡ part xs a b
byte_and xs a b y h k e =
    let more : b - a ≡ suc (b - (a + 1)) = omega arith in
    ap (λ n. n ∷ part xs (a + 1) b) (sym e)
    ∙ ap (λ n. byte xs a ∷ take (b - (a + 1)) (drop n xs)) (add-one a)
    ∙ ap (λ l. take (suc (b - (a + 1))) l) (sym (drop-cons xs a 0 h))
    ∙ ap (λ n. take n (drop a xs)) (sym more)

onward-fine : (l : Leaf) (k : ℕ → ℕ → Leaf) (t m : ℕ) → onward l k ≡ Fine t m → (a c : ℕ) × (l ≡ Fine a c) × (k a c ≡ Fine t m)
onward-fine (Ok span) k t m e = (span.took, span.made, refl, e)
onward-fine (Err fault) k t m e = impossible cc

-- ---- words that are right are judged so

pub name-judged : {pool : List ℕ} {start size : ℕ} → NameRight pool start size → (ws : List ℕ) (i : ℕ)
    → word ws i ≡ start → word ws (i + 1) ≡ size → named pool ws i ≡ Right
unfolding named
name-judged {pool} {start} {size} r ws i a c = simp (a, c, le-leb (start + size) (length pool) r.inside, r.says)

pub slot-judged : {pool : List ℕ} {w start size : ℕ} → Slot pool w start size → (ws : List ℕ) (i : ℕ)
    → word ws i ≡ w → word ws (i + 1) ≡ start → word ws (i + 2) ≡ size → optional_name pool ws i ≡ Right
unfolding optional_name
slot-judged absent ws i a c d = simp (a, c, d)
slot-judged {pool} {w} {start} {size} (present r) ws i a c d =
    let plus : i + 1 + 1 ≡ i + 2 = omega arith in
    simp a (name-judged r ws (i + 1) c (ap (λ k. word ws k) plus ∙ d))

-- ---- a name

-- the numbers of a name that is scanned
pub record NameFound (l : List ℕ) (t m : ℕ) : Type 0 where
  pub size : ℕ
  pub number : ℕ
  pub found : take_unsigned l ≡ taken.Value size number
  pub small : size < 2 ^ 32
  pub some : 0 < number
  pub again : Padded (take number l) (unsigned size)
  pub whole : t ≡ number + size
  pub inside : t ≤ length l
  pub says : text (take size (drop number l)) ≡ true
  pub makes : m ≡ 2

pub name_found : (l : List ℕ) (t m : ℕ) → Bytes l → scan_name l ≡ Fine t m → NameFound l t m
unfolding scan_name
name_found l t m f e = go (take_unsigned l) refl e
  where
    go : (r : Taken) → take_unsigned l ≡ r → scans.named l r ≡ Fine t m → NameFound l t m
    go (Ok got) q e = test (stop (take got.value (drop got.took l))) (leb (got.took + got.value) (length l)) (text (take got.value (drop got.took l))) refl refl e
      where
        test : (byte : ℕ) (a b : Bool) → leb (got.took + got.value) (length l) ≡ a → text (take got.value (drop got.took l)) ≡ b
            → cond a (cond b (Fine (got.took + got.value) 2) (Bad (Text (offset_of byte)) got.took)) (cut l) ≡ Fine t m → NameFound l t m
        test byte true true ha hb e =
            let et : got.took + got.value ≡ t = (fine-same e).0 in
            let i = taken-inside u32 l got.value got.took q in
            let j : got.took + got.value ≤ length l = leb-true _ _ ha in
            record {
              size = got.value;
              number = got.took;
              found = q;
              small = taken-small 128 l got.value got.took q;
              some = i.0;
              again = padded-number u32 l got.value got.took f q;
              whole = sym et;
              inside = omega arith;
              says = hb;
              makes = sym (fine-same e).1;
            }
        test byte true false ha hb e = impossible cc
        test byte false b ha hb e = impossible cc
    go taken.Cut q e = impossible cc
    go taken.Bad q e = impossible cc

-- a name at `from` of xs, which stands at b of the input, beside the first e bytes of the input
pub record NameSeen (e : ℕ) (input xs : List ℕ) (b from t : ℕ) : Type 0 where
  pub start : ℕ
  pub size : ℕ
  pub fills : fill_name b xs from ≡ start ∷ size ∷ []
  pub right : NameRight (take e input) start size
  pub again : Padded (take t (drop from xs)) (name (take e input) start size)
  pub says : chars (take e input) start size ≡ chars input start size

module _ (e : ℕ) (input xs : List ℕ) (b : ℕ) (inp : drop b input ≡ xs) (fx : Bytes xs) where
  pub name_seen : (from t m : ℕ) → scan_name (drop from xs) ≡ Fine t m → b + (from + t) ≤ e → NameSeen e input xs b from t
  unfolding fill_name name
  name_seen from t m s h =
      let l = drop from xs in
      let r = name_found l t m (bytes-behind xs from fx) s in
      let n = r.size in
      let k = r.number in
      let st = b + (from + k) in
      let et = r.whole in
      let il = r.inside in
      let some = r.some in
      let lx : length l ≡ length xs - from = length-drop from xs in
      let li : length xs ≡ length input - b = sym (ap length inp) ∙ length-drop b input in
      let in₁ : st + n ≤ e = omega arith in
      let in₂ : st + n ≤ length input = omega arith in
      let part : chars (take e input) st n ≡ chars input st n = part_of n st e input in₁ (omega arith) in
      let place : drop st input ≡ drop k l =
      sym (drop-drop (from + k) b input) ∙ ap (λ l. drop (from + k) l) inp ∙ sym (drop-drop k from xs) in
      let here : chars (take e input) st n ≡ take n (drop k l) = part ∙ ap (λ l. take n l) place in
      record {
        start = st;
        size = n;
        fills = ap (λ r. (b + (from + size_in r)) ∷ value_in r ∷ []) r.found;
        right = record { inside = front_length (st + n) e input in₁ in₂; says = ap (λ l. text l) here ∙ r.says; small = r.small };
        again = padded_by refl (padded_both r.again (padded-same here)) (sym (take-add k n l) ∙ ap (λ k. take k l) (sym et));
        says = part;
      }

  -- a string at `at`: the name, and what follows it
  pub record StringSeen (at a' : ℕ) : Type 0 where
    pub t : ℕ
    pub scanned : scan_name (drop at xs) ≡ Fine t 2
    pub place : a' ≡ at + t
    pub before : at < length xs
    pub inside : a' ≤ length xs

  pub string_seen : (at x a' y : ℕ) → string_at xs at x ≡ Fine a' y → StringSeen at a' × (y ≡ x)
  string_seen at x a' y s =
      let o = onward-fine (past at (scan_name (drop at xs))) (λ next m. Fine next x) a' y s in
      let p = past-fine at (scan_name (drop at xs)) o.0 o.1 o.2 in
      let r = name_found (drop at xs) p.0 o.1 (bytes-behind xs at fx) p.1 in
      let e₁ : o.0 ≡ a' = (fine-same o.3).0 in
      let e₂ : x ≡ y = (fine-same o.3).1 in
      let ep = p.2 in
      let some = r.some in
      let whole = r.whole in
      let inside = r.inside in
      let ld = length-drop at xs in (
        record {
          t = p.0;
          scanned = p.1 ∙ ap (λ m. Fine p.0 m) r.makes;
          place = sym e₁ ∙ ep;
          before = omega arith;
          inside = omega arith;
        },
        sym e₂,
      )

  -- its bytes
  string_bytes : (at a' : ℕ) (k : StringSeen at a') (v : NameSeen e input xs b at k.t)
      → Padded (part xs at a') (name (take e input) v.start v.size)
  string_bytes at a' k v =
      let size : k.t ≡ a' - at = omega (arith, k.place) in
      padded_by refl v.again (ap (λ n. take n (drop at xs)) size)

  string_name : (at a' : ℕ) (k : StringSeen at a') → b + a' ≤ e → NameSeen e input xs b at k.t
  string_name at a' k h = let p = k.place in name_seen at k.t 2 k.scanned (omega arith)

  -- ---- an option

  pub record SlotSeen (k at due a' due' : ℕ) : Type 0 where
    pub w : ℕ
    pub start : ℕ
    pub size : ℕ
    pub right : Slot (take e input) w start size
    pub fills : fill_slot k b xs (Fine at due) ≡ w ∷ start ∷ size ∷ []
    pub count : due ≡ flag w + due'
    pub before : at ≤ a'
    pub again : Padded (part xs at a') (slot_of (take e input) k w start size)
    pub says : chars (take e input) start size ≡ chars input start size

  -- an option goes on, and stays inside
  slot_grows : (k at due a' due' : ℕ) → slot_scan k xs at due ≡ Fine a' due' → (at ≤ a') × (at ≤ length xs → a' ≤ length xs)
  unfolding slot_scan
  slot_grows k at due a' due' s = go (eqb due 0) s
    where
      there_is : (z : Bool) → cond z (string_at xs (at + 1) (due - 1)) (Fine at due) ≡ Fine a' due' → (at ≤ a') × (at ≤ length xs → a' ≤ length xs)
      there_is true s =
          let k = (string_seen (at + 1) (due - 1) a' due' s).0 in
          let p = k.place in
          (omega arith, λ h. k.inside)
      there_is false s = let p : at ≡ a' = (fine-same s).0 in (omega arith, λ h. omega arith)

      go : (x : Bool)
          → cond x (Fine at 0) (there xs at (cond (eqb (byte xs at) k) (string_at xs (at + 1) (due - 1)) (Fine at due))) ≡ Fine a' due'
          → (at ≤ a') × (at ≤ length xs → a' ≤ length xs)
      go true s = let p : at ≡ a' = (fine-same s).0 in (omega arith, λ h. omega arith)
      go false s = there_is (eqb (byte xs at) k) (there-fine xs at _ a' due' s).1

  slot_seen : (k at due a' due' : ℕ) → slot_scan k xs at due ≡ Fine a' due' → b + a' ≤ e → SlotSeen k at due a' due'
  unfolding slot_scan fill_slot flag
  slot_seen k at due a' due' s h = go (eqb due 0) refl s
    where
      stays : a' ≡ at → due' ≡ due → fill_slot k b xs (Fine at due) ≡ 0 ∷ 0 ∷ 0 ∷ [] → SlotSeen k at due a' due'
      stays p q g =
          record {
            w = 0;
            start = 0;
            size = 0;
            right = absent;
            fills = g;
            count = omega arith;
            before = omega arith;
            again = padded-same (let none : 0 ≡ a' - at = omega arith in ap (λ n. take n (drop at xs)) none);
            says = refl;
          }

      there_is : (z : Bool) → eqb (byte xs at) k ≡ z → eqb due 0 ≡ false → at < length xs
          → cond z (string_at xs (at + 1) (due - 1)) (Fine at due) ≡ Fine a' due' → SlotSeen k at due a' due'
      there_is true hz hx i s =
          let y = string_seen (at + 1) (due - 1) a' due' s in
          let v = string_name (at + 1) a' y.0 h in
          let nz = eqb-false due 0 hx in
          let el = y.1 in
          record {
            w = 1;
            start = v.start;
            size = v.size;
            right = present v.right;
            fills = simp (hx, hz) (ap (λ l. 1 ∷ l) v.fills);
            count = omega arith;
            before = omega (arith, y.0.place);
            again =
                padded_by refl (padded-behind (k ∷ []) (string_bytes (at + 1) a' y.0 v))
                (byte_and xs at a' k i (omega (arith, y.0.place)) (eqb-true _ _ hz));
            says = v.says;
          }
      there_is false hz hx i s = stays (sym (fine-same s).0) (sym (fine-same s).1) (simp (hx, hz))

      go : (x : Bool) → eqb due 0 ≡ x
          → cond x (Fine at 0) (there xs at (cond (eqb (byte xs at) k) (string_at xs (at + 1) (due - 1)) (Fine at due))) ≡ Fine a' due'
          → SlotSeen k at due a' due'
      go true hx s =
          let z : due ≡ 0 = eqb-true due 0 hx in
          let p : at ≡ a' = (fine-same s).0 in
          let q : 0 ≡ due' = (fine-same s).1 in
          stays (sym p) (omega arith) (simp hx)
      go false hx s = let p = there-fine xs at _ a' due' s in there_is (eqb (byte xs at) k) refl hx p.0 p.1

  -- ---- lead, name and count

  pub record HeadSeen (g h n : ℕ) : Type 0 where
    pub start : ℕ
    pub size : ℕ
    pub fills : fill_name b xs 1 ≡ start ∷ size ∷ []
    pub right : NameRight (take e input) start size
    pub again : Padded (part xs 0 h) (head_of n (name (take e input) start size))
    pub says : chars (take e input) start size ≡ chars input start size
    pub clear : cond (eqb n 0) Clear (asks g 3 0) ≡ Clear

  record Counted (at h n : ℕ) : Type 0 where
    pub some : n ≡ 0 → ⊥
    pub before : at ≤ h
    pub inside : h ≤ length xs
    pub again : Padded (part xs at h) (n ∷ [])

  count_seen : (at h n : ℕ) → count_at xs at ≡ Fine h n → Counted at h n
  unfolding count_at
  count_seen at h n s = go (take_unsigned (drop at xs)) refl s
    where
      l : List ℕ
      l = drop at xs

      go : (r : Taken) → take_unsigned l ≡ r → counted (length xs) r at ≡ Fine h n → Counted at h n
      go (Ok got) q s = test (eqb got.value 0) (ltb got.value 4) refl refl s
        where
          test : (x y : Bool) → eqb got.value 0 ≡ x → ltb got.value 4 ≡ y → cond x (Bad Code at) (cond y (Fine (at + got.took) got.value) (Bad Code at)) ≡ Fine h n → Counted at h n
          test true y hx hy s = impossible cc
          test false true hx hy s =
              let ec : got.value ≡ n = (fine-same s).1 in
              let eh : at + got.took ≡ h = (fine-same s).0 in
              let four = ltb-true got.value 4 hy in
              let i = taken-inside u32 l got.value got.took q in
              let size : got.took ≡ h - at = omega arith in
              let nz = eqb-false got.value 0 hx in
              record {
                some = λ z. nz (ec ∙ z);
                before = omega arith;
                inside = omega (arith, length-drop at xs, i);
                again =
                    padded_by (ap (λ (c : ℕ). c ∷ []) (sym ec) ∙ sym (one_byte 128 got.value (omega arith)))
                    (padded-number u32 l got.value got.took (bytes-behind xs at fx) q) (ap (λ n. take n l) size);
              }
          test false false hx hy s = impossible cc
      go taken.Cut q s = impossible cc
      go taken.Bad q s = impossible cc

  head_inside : (g h n : ℕ) → head_scan g xs ≡ Fine h n → h ≤ length xs
  unfolding head_scan
  head_inside g h n s = go (either-fine xs 0x00 _ 0x02 _ h n s).1
    where
      go : Either (byte xs 0) 0x00 (string_at xs 1 0) 0x02 (scans.asked g 3 0 (onward (string_at xs 1 0) (λ at due. count_at xs at))) h n → h ≤ length xs
      go (first y s) = (string_seen 1 0 h n s).0.inside
      go (second y d s) =
          let o = onward-fine (string_at xs 1 0) (λ at due. count_at xs at) h n (asked-fine g 3 0 _ h n s) in
          (count_seen o.0 h n o.3).inside

  head_seen : (g h n : ℕ) → head_scan g xs ≡ Fine h n → b + h ≤ e → HeadSeen g h n
  unfolding head_scan
  head_seen g h n s le = let p = either-fine xs 0x00 _ 0x02 _ h n s in go p.0 p.1
    where
      go : 0 < length xs
          → Either (byte xs 0) 0x00 (string_at xs 1 0) 0x02 (scans.asked g 3 0 (onward (string_at xs 1 0) (λ at due. count_at xs at))) h n → HeadSeen g h n
      go i (first y s) =
          let k = string_seen 1 0 h n s in
          let v = string_name 1 h k.0 le in
          record {
            start = v.start;
            size = v.size;
            fills = v.fills;
            right = v.right;
            again =
                padded_by (ap (λ k. head_of k (name (take e input) v.start v.size)) k.1)
                (padded-behind (0x00 ∷ []) (string_bytes 1 h k.0 v)) (byte_and xs 0 h 0x00 i (omega (arith, k.0.place)) y);
            says = v.says;
            clear = simp k.1;
          }
      go i (second y d s) =
          let o = onward-fine (string_at xs 1 0) (λ at due. count_at xs at) h n (asked-fine g 3 0 _ h n s) in
          let a = o.0 in
          let k = string_seen 1 0 a o.1 o.2 in
          let c = count_seen a h n o.3 in
          let lo = c.before in
          let le' : b + a ≤ e = omega arith in
          let v = string_name 1 a k.0 le' in
          let nm = name (take e input) v.start v.size in
          record {
            start = v.start;
            size = v.size;
            fills = v.fills;
            right = v.right;
            again =
                simp (ne_eqb n 0 c.some)
                (padded_by refl (padded-behind (0x02 ∷ []) (padded_both (string_bytes 1 a k.0 v) c.again))
                (ap (λ l. 0x02 ∷ l) (part_and xs 1 a h (omega (arith, k.0.place)) lo)
                ∙ byte_and xs 0 h 0x02 i (omega (arith, k.0.place)) y));
            says = v.says;
            clear = simp (ne_eqb n 0 c.some) (asked_clear g 3 0 _ h n s 0);
          }

  -- ---- the parts together

  extern_parts : (lead g t m h n a₁ n₁ a₂ n₂ a₃ n₃ : ℕ) → e < 2 ^ 32 → head_scan g xs ≡ Fine h n → first_scan g xs ≡ Fine a₁ n₁ → second_scan g xs ≡ Fine a₂ n₂
      → HeadSeen g h n → SlotSeen 0x00 h n a₁ n₁ → SlotSeen 0x01 a₁ n₁ a₂ n₂ → SlotSeen 0x02 a₂ n₂ a₃ n₃ → n₃ ≡ 0 → a₃ ≡ t → t ≤ length xs → m ≡ 11
      → Only lead g (take e input) input field.ExternName xs t m b
  unfolding fill_extern fill_slots externname slots_at slot_at slots flaw bytes fill view wide mark said
  extern_parts lead g t m h n a₁ n₁ a₂ n₂ a₃ n₃ few s₀ s₁ s₂ hd g₀ g₁ g₂ z et inside em =
      let f₀ = ap (λ l. fill_slot 0x00 b xs l) s₀ ∙ g₀.fills in
      let f₁ = ap (λ l. fill_slot 0x01 b xs l) s₁ ∙ g₁.fills in
      let f₂ = ap (λ l. fill_slot 0x02 b xs l) s₂ ∙ g₂.fills in
      only-words words (λ i. hd.fills i ++ (f₀ i ++ (f₁ i ++ f₂ i))) refl em inside right again
      (λ more i. (hd.size ∷ hd.says i)
      ++ ((g₀.w ∷ g₀.size ∷ g₀.says i) ++ ((g₁.w ∷ g₁.size ∷ g₁.says i) ++ (g₂.w ∷ g₂.size ∷ g₂.says i))))
      (λ more i. Name hd.size (hd.says i)
      ∷ Word g₀.w ∷ Name g₀.size (g₀.says i) ∷ Word g₁.w ∷ Name g₁.size (g₁.says i) ∷ Word g₂.w ∷ Name g₂.size (g₂.says i) ∷ [])
      small (λ more. ap (λ k. cond (eqb k 0) Clear (asks g 3 0)) count ∙ hd.clear)
    where
      pool : List ℕ
      pool = take e input

      w₀ : List ℕ
      w₀ = g₀.w ∷ g₀.start ∷ g₀.size ∷ []

      w₁ : List ℕ
      w₁ = g₁.w ∷ g₁.start ∷ g₁.size ∷ []

      w₂ : List ℕ
      w₂ = g₂.w ∷ g₂.start ∷ g₂.size ∷ []

      words : List ℕ
      words = (hd.start ∷ hd.size ∷ []) ++ (w₀ ++ (w₁ ++ w₂))

      short : length pool < 2 ^ 32
      short = omega (arith, length-take e input)

      small : Words words
      small =
          words_and (hd.start ∷ hd.size ∷ []) (w₀ ++ (w₁ ++ w₂)) (name_words short hd.right)
          (words_and w₀ (w₁ ++ w₂) (slot-words short g₀.right) (words_and w₁ w₂ (slot-words short g₁.right) (slot-words short g₂.right)))

      right : (more : List ℕ) → flaw pool field.ExternName (words ++ more) ≡ Right
      right more =
          let a = name-judged hd.right (words ++ more) 0 refl refl in
          let c = slot-judged g₀.right (words ++ more) 2 refl refl refl in
          let d = slot-judged g₁.right (words ++ more) 5 refl refl refl in
          let f = slot-judged g₂.right (words ++ more) 8 refl refl refl in
          λ i. then (a i) (then (c i) (then (d i) (f i)))

      nm : List ℕ
      nm = name pool hd.start hd.size

      o₀ : List ℕ
      o₀ = slot_of pool 0x00 g₀.w g₀.start g₀.size

      o₁ : List ℕ
      o₁ = slot_of pool 0x01 g₁.w g₁.start g₁.size

      o₂ : List ℕ
      o₂ = slot_of pool 0x02 g₂.w g₂.start g₂.size

      many : ℕ
      many = flag g₀.w + (flag g₁.w + flag g₂.w)

      count : many ≡ n
      count = omega (arith, g₀.count, g₁.count, g₂.count)

      empty : many ≡ 0 → o₀ ++ (o₁ ++ o₂) ≡ []
      empty z =
          let a = no_slot g₀.w (0x00 ∷ name pool g₀.start g₀.size) (omega arith) in
          let c = no_slot g₁.w (0x01 ∷ name pool g₁.start g₁.size) (omega arith) in
          let d = no_slot g₂.w (0x02 ∷ name pool g₂.start g₂.size) (omega arith) in
          λ i. a i ++ (c i ++ d i)

      options : Padded (part xs h a₃) (o₀ ++ (o₁ ++ o₂))
      options =
          let k₀ = g₀.before in
          let k₁ = g₁.before in
          let k₂ = g₂.before in
          padded_by refl (padded_both g₀.again (padded_both g₁.again g₂.again))
          (ap (λ l. part xs h a₁ ++ l) (part_and xs a₁ a₂ a₃ k₁ k₂) ∙ part_and xs h a₁ a₃ k₀ (omega arith))

      again : (more : List ℕ) → Padded (take t xs) (bytes pool field.ExternName (words ++ more))
      again more =
          let after : h ≤ a₃ = omega (arith, g₀.before, g₁.before, g₂.before) in
          let all : a₃ - 0 ≡ t = omega arith in
          padded_by (head_and_slots many nm (o₀ ++ (o₁ ++ o₂)) empty ∙ ap (λ k. head_of k nm ++ (o₀ ++ (o₁ ++ o₂))) count)
          (padded_both hd.again options) (part_and xs 0 h a₃ (omega arith) after ∙ ap (λ n. take n xs) all)

-- ---- the whole

end_fine : (xs : List ℕ) (at due t m : ℕ) → end_scan xs at due ≡ Fine t m → (due ≡ 0) × (at ≡ t) × (m ≡ 11)
unfolding end_scan
end_fine xs at due t m s = go (eqb due 0) refl s
  where
    go : (x : Bool) → eqb due 0 ≡ x → cond x (Fine at 11) (there xs at (Bad Code at)) ≡ Fine t m → (due ≡ 0) × (at ≡ t) × (m ≡ 11)
    go true h s = (eqb-true _ _ h, (fine-same s).0, sym (fine-same s).1)
    go false h s = let p = (there-fine xs at (Bad Code at) t m s).1 in impossible cc

pub extern_only : (lead g e : ℕ) (input : List ℕ) (b t m : ℕ) → e < 2 ^ 32 → Bytes (drop b input) → scan_extern g (drop b input) ≡ Fine t m → b + t ≤ e
    → Only lead g (take e input) input field.ExternName (drop b input) t m b
unfolding scan_extern first_scan second_scan
extern_only lead g e input b t m few fx s le =
    let xs = drop b input in
    let k₃ = onward-fine (onward (second_scan g xs) (slot_scan 0x02 xs)) (end_scan xs) t m s in
    let k₂ = onward-fine (second_scan g xs) (slot_scan 0x02 xs) k₃.0 k₃.1 k₃.2 in
    let k₁ = onward-fine (first_scan g xs) (slot_scan 0x01 xs) k₂.0 k₂.1 k₂.2 in
    let k₀ = onward-fine (head_scan g xs) (slot_scan 0x00 xs) k₁.0 k₁.1 k₁.2 in
    let f = end_fine xs k₃.0 k₃.1 t m k₃.3 in
    let l₂ = slot_grows e input xs b refl fx 0x02 k₂.0 k₂.1 k₃.0 k₃.1 k₂.3 in
    let l₁ = slot_grows e input xs b refl fx 0x01 k₁.0 k₁.1 k₂.0 k₂.1 k₁.3 in
    let l₀ = slot_grows e input xs b refl fx 0x00 k₀.0 k₀.1 k₁.0 k₁.1 k₀.3 in
    let in₃ : k₃.0 ≤ length xs = l₂.1 (l₁.1 (l₀.1 (head_inside e input xs b refl fx g k₀.0 k₀.1 k₀.2))) in
    let f₀ = f.0 in
    let f₁ = f.1 in
    let m₂ = l₂.0 in
    let m₁ = l₁.0 in
    let m₀ = l₀.0 in
    let hd = head_seen e input xs b refl fx g k₀.0 k₀.1 k₀.2 (omega arith) in
    let g₀ = slot_seen e input xs b refl fx 0x00 k₀.0 k₀.1 k₁.0 k₁.1 k₀.3 (omega arith) in
    let g₁ = slot_seen e input xs b refl fx 0x01 k₁.0 k₁.1 k₂.0 k₂.1 k₁.3 (omega arith) in
    let g₂ = slot_seen e input xs b refl fx 0x02 k₂.0 k₂.1 k₃.0 k₃.1 k₂.3 (omega arith) in
    extern_parts e input xs b refl fx lead g t m k₀.0 k₀.1 k₁.0 k₁.1 k₂.0 k₂.1 k₃.0 k₃.1 few k₀.2 k₁.2 k₂.2
    hd g₀ g₁ g₂ f₀ f₁ (omega arith) f.2
