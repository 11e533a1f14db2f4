-- An extern name at a place of the input: where it ends, and its words, from those that are told of it by value.
use Rattle.std.specs.Prelude.{Err, Ok, Option, Some, None, IsSome, option_map, unwrap_or}
use Prim.Native.Nat.{ℕ, suc, ◌+◌, ◌≤◌, ◌<◌, ◌^◌}
use native.Mathlib.Nat.{zero-add}
use native.Mathlib.Numerals.{add-one}
use native.Mathlib.Omega.{arith}
use mathlib.Core.Path.{◌≡◌, refl, sym, ap, ◌∙◌, subst}
use mathlib.Core.Bool.{Bool, true, false, cond}
use mathlib.Core.List.{List, [], ◌∷◌, ◌++◌, append-nil}
use borrow.Author.Tests.{le-ltb, lt-leb, le-leb, ltb-false}
use lib.Dec.{eqb, ltb}
use lib.ListN.{length, drop, set, length-set, length-drop}
use lib.Seq.{sets, length-sets}
use Rattle.numbers.specs.Taken.{Taken}
use Rattle.numbers.specs.Taken as taken
use Rattle.numbers.specs.Integers.{u32}
use Rattle.numbers.specs.Leb.{take_unsigned}
use Rattle.numbers.proofs.BytesLaws.{sets_append}
use Rattle.numbers.proofs.LebLaws.{taken-inside}
use Rattle.numbers.proofs.Impossible.{impossible}
use Rattle.fields.specs.declared.Field.{Field}
use Rattle.fields.specs.declared.Field.TheVariants as field
use Rattle.fields.specs.Leaf.{Leaf, Fine, Bad}
use Rattle.fields.specs.declared.Refusal.TheVariants.{Limit}
use Rattle.fields.specs.Words.{word, wide}
use Rattle.reading.specs.Fill.{size_in, index, fill, fill_name, fill_slot, fill_slots, fill_extern}
use Rattle.reading.specs.Scan.{byte, past, scan_name, onward, slot_scan, end_scan, head_scan, first_scan, second_scan, scan_extern, scan}
use Rattle.reading.specs.inside.Steps.{end_of}
use Rattle.reading.proofs.FillLaws.{set-two}
use Rattle.reading.proofs.StepLaws.{pair-some}
use Rattle.reading.specs.inside.Stages.{Inside}
use Rattle.reading.proofs.ScanLaws.{inside, head_near, first-near, second-near}
use Rattle.reading.specs.declared.Pair.{Pair}
use Rattle.reading.specs.Seen.{pair, pair_of, within}
use Rattle.items.specs.declared.import.Slot.{Slot}
use Rattle.items.specs.declared.import.Extern.{Extern}
use Rattle.items.specs.ReadExtern.{slot_words, extern_words, extern_within, value_of_extern, value_of, read_extern}
use Rattle.instance_items.specs.inside.Extern.{moved_start, moved_slot, moved_extern, Near}
use Rattle.instance_items.specs.inside.Group.{group_one}
use Rattle.instance_items.proofs.FieldLaws.{one_extern}

-- ---- where it ends

-- within the limits there is but the question whether there is a byte
limits_pass : (g : ℕ) (bs : List ℕ) → length bs ≤ 2 ^ 30 → 1 ≤ g → g ≤ 3 → within 1 g bs ≡ ltb 0 (length bs)
unfolding within
limits_pass g bs h low high = simp (le-ltb (2 ^ 30) (length bs) h, le-ltb g 1 low, le-ltb 3 g high)

-- no byte, no extern name
extern_empty : (g : ℕ) (bs : List ℕ) → length bs ≤ 0 → end_of (scan_extern g bs) ≡ None
unfolding scan_extern second_scan first_scan head_scan end_of
extern_empty g bs h = simp (le-leb (length bs) 0 h)

pub extern_nothing : (g : ℕ) (bs : List ℕ) → length bs ≡ 0 → None ≡ end_of (scan 1 g field.ExternName bs)
unfolding scan
extern_nothing g bs z = sym (extern_empty g bs (omega (arith, z)))

limits_end : (g : ℕ) (bs : List ℕ) → length bs ≤ 2 ^ 30 → 1 ≤ g → g ≤ 3 → end_of (extern_within g bs) ≡ end_of (scan_extern g bs)
unfolding extern_within end_of
limits_end g bs h low high = go (ltb 0 (length bs)) refl
  where
    go : (b : Bool) → ltb 0 (length bs) ≡ b → end_of (cond (within 1 g bs) (scan_extern g bs) (Bad Limit 0)) ≡ end_of (scan_extern g bs)
    go true p = ap (λ (x : Bool). end_of (cond x (scan_extern g bs) (Bad Limit 0))) (limits_pass g bs h low high ∙ p)
    go false p =
        ap (λ (x : Bool). end_of (cond x (scan_extern g bs) (Bad Limit 0))) (limits_pass g bs h low high ∙ p)
        ∙ sym (extern_empty g bs (ltb-false 0 (length bs) p))

-- 00 and a name
module _ (g : ℕ) (bs : List ℕ) (some : 0 < length bs) where
  pub bare_took : byte bs 0 ≡ 0
      → option_map (λ (n : Pair). 1 + n.took) (pair 1 field.Name (drop 1 bs)) ≡ end_of (scan 1 g field.ExternName bs)
  unfolding scan scan_extern second_scan first_scan head_scan slot_scan end_scan pair_of end_of
  bare_took first = simp (lt-leb (length bs) 0 some, first) (go (scan_name (drop 1 bs)) (fill 1 field.Name 0 (drop 1 bs)))
    where
      named_end : Leaf → Leaf
      named_end l =
          onward (onward (onward (onward (onward (past 1 l) (λ next m. Fine next 0)) (slot_scan 0 bs)) (slot_scan 1 bs)) (slot_scan 2 bs))
          (end_scan bs)

      go : (l : Leaf) (ws : List ℕ) → option_map (λ (n : Pair). 1 + n.took) (pair_of l ws) ≡ end_of (named_end l)
      go (Ok span) ws = refl
      go (Err fault) ws = refl

  pub bare_inside : (n : Pair) → pair 1 field.Name (drop 1 bs) ≡ Some n → 1 + n.took ≤ length bs
  unfolding wide
  bare_inside n e = omega (arith, (pair-some 1 field.Name (drop 1 bs) refl n e).2, length-drop 1 bs, some)

-- ---- what is told of it by value

-- the value of an extern name says where it ends, and its words
value-took : (r : Option Extern) (l : Leaf) (ws : List ℕ) → option_map value_of_extern r ≡ value_of l ws
    → option_map (λ (e : Extern). e.took) r ≡ end_of l
unfolding end_of
value-took (Some e) (Ok span) ws h = ap (option_map (λ (vs : List ℕ). word vs 0)) h
value-took (Some e) (Err fault) ws h = impossible cc
value-took None (Ok span) ws h = impossible cc
value-took None (Err fault) ws h = refl

value-words : (e : Extern) (l : Leaf) (ws : List ℕ) → Some (value_of_extern e) ≡ value_of l ws → extern_words e ≡ ws
value-words e (Ok span) ws h = ap (λ (o : Option (List ℕ)). drop 1 (unwrap_or o [])) h
value-words e (Err fault) ws h = impossible cc

took-right : (r : Option Extern) → IsSome (option_map (λ (e : Extern). e.took) r) → IsSome r
took-right (Some e) h = refl
took-right None h = impossible cc

module _ (g : ℕ) (bs : List ℕ) (h : length bs ≤ 2 ^ 30) (low : 1 ≤ g) (high : g ≤ 3) (r : Option Extern)
    (told : option_map value_of_extern r ≡ read_extern g bs) where
  pub extern_told : option_map (λ (e : Extern). e.took) r ≡ end_of (scan 1 g field.ExternName bs)
  unfolding scan read_extern
  extern_told = value-took r (extern_within g bs) (fill_extern g 0 bs) told ∙ limits_end g bs h low high

  -- one that is right is told
  pub extern_right : (kind : ℕ) → kind ≡ 21 → IsSome (end_of (scan 1 g (group_one kind) bs)) → IsSome r
  extern_right kind is right =
      took-right r
      (subst (λ (o : Option ℕ). IsSome o) (ap (λ (f : Field). end_of (scan 1 g f bs)) (one_extern kind is) ∙ sym extern_told) right)

-- ---- its words at a place

size_small : (bs : List ℕ) → size_in (take_unsigned bs) ≤ 5
size_small bs = go (take_unsigned bs) refl
  where
    go : (t : Taken) → take_unsigned bs ≡ t → size_in t ≤ 5
    go (Ok got) e = (taken-inside u32 bs got.value got.took e).1
    go taken.Cut e = omega arith
    go taken.Bad e = omega arith

-- the words of an option at the front, and at a place
data Moved (most at : ℕ) : List ℕ → List ℕ → Type 0 where
  absent : Moved most at (0 ∷ 0 ∷ 0 ∷ []) (0 ∷ 0 ∷ 0 ∷ [])
  placed : (x z : ℕ) → x ≤ most → Moved most at (1 ∷ (0 + x) ∷ z ∷ []) (1 ∷ (at + x) ∷ z ∷ [])

slot-moved : (k at : ℕ) (bs : List ℕ) (l : Leaf) → Inside l (length bs)
    → Moved (length bs + 6) at (fill_slot k 0 bs l) (fill_slot k at bs l)
unfolding fill_slot fill_name
slot-moved k at bs (Ok span) h = go (eqb span.made 0) (eqb (byte bs span.took) k)
  where
    start : ℕ
    start = span.took + 1 + size_in (take_unsigned (drop (span.took + 1) bs))

    size : ℕ
    size = index (drop (span.took + 1) bs)

    go : (a b : Bool)
        → Moved (length bs + 6) at
        (cond a (0 ∷ 0 ∷ 0 ∷ []) (cond b (1 ∷ (0 + start) ∷ size ∷ []) (0 ∷ 0 ∷ 0 ∷ [])))
        (cond a (0 ∷ 0 ∷ 0 ∷ []) (cond b (1 ∷ (at + start) ∷ size ∷ []) (0 ∷ 0 ∷ 0 ∷ [])))
    go true b = absent
    go false true = placed start size (omega (arith, h, size_small (drop (span.took + 1) bs)))
    go false false = absent
slot-moved k at bs (Err fault) h = absent

moved-step : {most at : ℕ} {ws vs : List ℕ} → Moved most at ws vs → (s : Slot) (tail rest : List ℕ) → slot_words s ++ tail ≡ ws ++ rest
    → (moved_slot at s ≡ vs) × (s.start ≤ most) × (tail ≡ rest)
unfolding moved_start
moved-step absent s tail rest e =
    let p : s.present ≡ 0 = ap (λ (l : List ℕ). word l 0) e in
    let q : s.start ≡ 0 = ap (λ (l : List ℕ). word l 1) e in
    let r : s.size ≡ 0 = ap (λ (l : List ℕ). word l 2) e in
    (simp (p, r), omega (arith, q), ap (λ (l : List ℕ). drop 3 l) e)
moved-step (placed x z h) s tail rest e =
    let p : s.present ≡ 1 = ap (λ (l : List ℕ). word l 0) e in
    let q : s.start ≡ x = ap (λ (l : List ℕ). word l 1) e ∙ zero-add x in
    let r : s.size ≡ z = ap (λ (l : List ℕ). word l 2) e in
    (simp (p, q, r), omega (arith, q, h), ap (λ (l : List ℕ). drop 3 l) e)

extern_moved : (g at : ℕ) (bs : List ℕ) (e : Extern) → extern_words e ≡ fill_extern g 0 bs
    → (moved_extern at e ≡ fill_extern g at bs) × (e.start ≤ length bs + 6) × (e.implements.start ≤ length bs + 6)
    × (e.suffix.start ≤ length bs + 6) × (e.id.start ≤ length bs + 6)
unfolding fill_extern fill_slots fill_name
extern_moved g at bs e w =
    let most : ℕ = length bs in
    let all : length bs ≤ most = omega arith in
    let last = fill_slot 2 0 bs (second_scan g bs) in
    let a =
    moved-step (slot-moved 0 at bs (head_scan g bs) (inside most (head_near g bs) all)) e.implements (slot_words e.suffix ++ slot_words e.id)
    (fill_slot 1 0 bs (first_scan g bs) ++ last) (ap (λ (l : List ℕ). drop 2 l) w)
    in
    let b = moved-step (slot-moved 1 at bs (first_scan g bs) (inside most (first-near g bs) all)) e.suffix (slot_words e.id) last a.2 in
    let c = moved-step (slot-moved 2 at bs (second_scan g bs) (inside most (second-near g bs) all)) e.id [] [] (b.2 ∙ sym (append-nil last)) in
    let size : ℕ = size_in (take_unsigned (drop 1 bs)) in
    let q : e.start ≡ 1 + size = ap (λ (l : List ℕ). word l 0) w ∙ zero-add (1 + size) in
    let r : e.size ≡ index (drop 1 bs) = ap (λ (l : List ℕ). word l 1) w in (
      (λ i. (at + q i) ∷ r i ∷ (a.0 i ++ (b.0 i ++ c.0 i))),
      omega (arith, q, size_small (drop 1 bs)),
      a.1,
      b.1,
      c.1,
    )

-- an extern name that is told: its starts are words, and these are its words at a place
pub extern_stored : (kind g at : ℕ) (bs : List ℕ) (e : Extern) → kind ≡ 21 → at + length bs ≤ 2 ^ 30 → 1 ≤ g → g ≤ 3
    → Some (value_of_extern e) ≡ read_extern g bs
    → (Near at e) × (moved_extern at e ≡ fill g (group_one kind) at bs) × (Some e.took ≡ end_of (scan 1 g (group_one kind) bs))
unfolding fill read_extern
extern_stored kind g at bs e is h low high told =
    let took = extern_told g bs (omega (arith, h)) low high (Some e) told in
    let m = extern_moved g at bs e (value-words e (extern_within g bs) (fill_extern g 0 bs) told) in (
      (omega (arith, h, m.1), omega (arith, h, m.2), omega (arith, h, m.3), omega (arith, h, m.4)),
      m.0 ∙ ap (λ (f : Field). fill g f at bs) (sym (one_extern kind is)),
      took ∙ ap (λ (f : Field). end_of (scan 1 g f bs)) (sym (one_extern kind is)),
    )

-- ---- its words stored

pub set-three : (row : List ℕ) (to a b c : ℕ) → set (set (set row to a) (to + 1) b) (to + 2) c ≡ sets row to (a ∷ b ∷ c ∷ [])
set-three row to a b c =
    let two : to + 2 ≡ suc (suc to) = omega arith in
    rw (add-one, two)

module _ (row : List ℕ) (at to : ℕ) (e : Extern) where
  abbrev begun : List ℕ
  begun = set (set row to (at + e.start)) (to + 1) e.size

  module _ {one : List ℕ} (p : one ≡ sets begun (to + 2) (moved_slot at e.implements)) where
    pub size_one : length one ≡ length row
    size_one =
        ap length p ∙ length-sets begun (to + 2) (moved_slot at e.implements) ∙ length-set (set row to (at + e.start)) (to + 1) e.size
        ∙ length-set row to (at + e.start)

    module _ {two : List ℕ} (q : two ≡ sets one (to + 5) (moved_slot at e.suffix)) where
      pub size_two : length two ≡ length row
      size_two = ap length q ∙ length-sets one (to + 5) (moved_slot at e.suffix) ∙ size_one

      module _ {last : List ℕ} (r : last ≡ sets two (to + 8) (moved_slot at e.id)) where
        pub size_last : length last ≡ length row
        size_last = ap length r ∙ length-sets two (to + 8) (moved_slot at e.id) ∙ size_two

        pub extern_words_lem : last ≡ sets row to (moved_extern at e)
        extern_words_lem =
            let name : List ℕ = (at + e.start) ∷ e.size ∷ [] in
            let first : List ℕ = moved_slot at e.implements in
            let second : List ℕ = moved_slot at e.suffix in
            let third : List ℕ = moved_slot at e.id in
            let a : one ≡ sets row to (name ++ first) =
            p ∙ ap (λ (l : List ℕ). sets l (to + 2) first) (set-two row to (at + e.start) e.size) ∙ sets_append name first row to in
            let b : two ≡ sets row to ((name ++ first) ++ second) =
            q ∙ ap (λ (l : List ℕ). sets l (to + 5) second) a ∙ sets_append (name ++ first) second row to in
            r ∙ ap (λ (l : List ℕ). sets l (to + 8) third) b ∙ sets_append ((name ++ first) ++ second) third row to
