-- An extern name as straight code sees it: what a string that is seen says of the scan and of the words of a name, of an option, of the
-- options one after the other, and of the whole.
use Rattle.std.specs.Prelude.{Err, Ok, Option, Some, None}
use Prim.Native.Nat.{ℕ, ◌+◌, ◌-◌, ◌≤◌, ◌<◌}
use native.Mathlib.Omega.{arith}
use mathlib.Core.Path.{◌≡◌, refl, sym, ap, ◌∙◌, subst}
use mathlib.Core.Bool.{Bool, true, false, cond}
use mathlib.Core.List.{List, [], ◌∷◌, ◌++◌}
use borrow.Author.Tests.{eq-eqb, ne_eqb, lt-ltb, le-ltb, lt-leb, le-leb, leb-false}
use lib.Dec.{eqb, leb}
use lib.ListN.{length, take, drop, length-drop}
use Rattle.numbers.specs.declared.leb.Number.{Number}
use Rattle.numbers.specs.Taken.{Taken}
use Rattle.numbers.specs.Taken as taken
use Rattle.numbers.specs.Integers.{u32}
use Rattle.numbers.specs.Leb.{take_unsigned}
use Rattle.numbers.specs.Seen.{seen}
use Rattle.numbers.proofs.BytesLaws.{to_end}
use Rattle.numbers.proofs.LebLaws.{taken-inside}
use Rattle.fields.proofs.OutcomeLaws.{fine-same}
use Rattle.fields.specs.declared.Field.TheVariants as field
use Rattle.fields.specs.Leaf.{Leaf, Fine, Bad}
use Rattle.fields.specs.declared.Refusal.TheVariants.{Cut, Code}
use Rattle.fields.specs.Words.{word, wide}
use Rattle.reading.specs.Fill.{size_in, index, fill, fill_name, fill_slot, fill_slots, fill_extern}
use Rattle.reading.specs.Scan.{byte, past, scan, scan_name, onward, string_at, counted, count_at, slot_scan, end_scan, head_scan, first_scan, second_scan, scan_extern}
use Rattle.reading.specs.declared.Pair.{Pair}
use Rattle.reading.specs.Seen.{pair}
use Rattle.reading.proofs.LeafLaws.{index_seen}
use Rattle.reading.proofs.StepLaws.{Wrong, pair-some, pair_none, name_at_lem, scan-takes}
use Rattle.items.specs.declared.import.Slot.{Slot}
use Rattle.items.specs.declared.import.Extern.{Extern}
use Rattle.items.specs.ReadExtern.{slot_words, Says}
use Rattle.items.specs.inside.Import.{no_slot, SlotTold, ExternTold, OptionsTold}
use Rattle.numbers.proofs.Impossible.{impossible}

-- ---- strings

-- a length that was taken has at most 5 bytes
size_small : (bs : List ℕ) → size_in (take_unsigned bs) ≤ 5
size_small bs = go (take_unsigned bs) refl
  where
    go : (t : Taken) → take_unsigned bs ≡ t → size_in t ≤ 5
    go (Ok got) e = (taken-inside u32 bs got.value got.took e).1
    go taken.Cut e = omega arith
    go taken.Bad e = omega arith

-- what is seen of the input from a place on, lent as a part: a string, and a number
pub part-string : (input : List ℕ) (at : ℕ) {r : Option Pair} → r ≡ pair 1 field.Name (take (length input - at) (drop at input))
    → r ≡ pair 1 field.Name (drop at input)
part-string input at e = e ∙ ap (λ (s : List ℕ). pair 1 field.Name s) (to_end input at)

pub part-number : (input : List ℕ) (at : ℕ) {r : Option Number} → r ≡ seen (take_unsigned (take (length input - at) (drop at input)))
    → r ≡ seen (take_unsigned (drop at input))
part-number input at e = e ∙ ap (λ (s : List ℕ). seen (take_unsigned s)) (to_end input at)

-- a string r as it is seen at a place
module _ (input : List ℕ) (at : ℕ) (r : Pair) (e : Some r ≡ pair 1 field.Name (drop at input)) where
  fine_name : (scan 1 1 field.Name (drop at input) ≡ Fine r.took 2) × (fill 1 field.Name 0 (drop at input) ≡ r.a ∷ r.b ∷ [])
      × (r.took ≤ length (drop at input))
  unfolding wide
  fine_name = pair-some 1 field.Name (drop at input) refl r (sym e)

  -- it is right, and ends inside the input
  pub string_right : (due : ℕ) → string_at input at due ≡ Fine (at + r.took) due
  unfolding scan
  string_right due = ap (λ l. onward (past at l) (λ next m. Fine next due)) fine_name.0

  pub string_inside : at ≤ length input → at + r.took ≤ length input
  string_inside h = omega (arith, fine_name.2, length-drop at input)

  -- its words
  pub string_words : fill_name 0 input at ≡ (at + r.a) ∷ r.b ∷ []
  unfolding fill fill_name
  string_words =
      let s : ℕ = size_in (take_unsigned (drop at input)) in
      let z : 0 + (at + s) ≡ at + (0 + s) = omega arith in
      ap (λ n. n ∷ index (drop at input) ∷ []) z ∙ name_at_lem 1 at (drop at input) r.a r.b fine_name.1

  pub string_start : r.a ≤ 5
  unfolding fill fill_name
  string_start =
      let s : ℕ = size_in (take_unsigned (drop at input)) in
      let z : 0 + (0 + s) ≡ r.a = ap (λ ws. word ws 0) fine_name.1 in
      omega (arith, size_small (drop at input))

-- where none is seen, it is not right
pub string_wrong : (input : List ℕ) (at : ℕ) → None ≡ pair 1 field.Name (drop at input) → (due : ℕ) → Wrong (string_at input at due)
unfolding scan
string_wrong input at e due = go (scan_name (drop at input)) (pair_none 1 field.Name (drop at input) (sym e))
  where
    go : (l : Leaf) → Wrong l → Wrong (onward (past at l) (λ next m. Fine next due))
    go (Ok span) w = absurd w
    go (Err fault) w = tt

-- a string that is right ends inside the input
string-ends : (input : List ℕ) (at due a m : ℕ) → at ≤ length input → string_at input at due ≡ Fine a m → a ≤ length input
unfolding scan
string-ends input at due a m h e = go (scan_name (drop at input)) (λ t k q. (scan-takes 1 field.Name (drop at input) t k tt q).1) e
  where
    go : (l : Leaf) → ((t k : ℕ) → l ≡ Fine t k → t ≤ length (drop at input))
        → onward (past at l) (λ next x. Fine next due) ≡ Fine a m → a ≤ length input
    go (Ok span) f e =
        let x : at + span.took ≡ a = (fine-same e).0 in
        omega (arith, f span.took span.made refl, length-drop at input)
    go (Err fault) f e = impossible cc

-- ---- an option

-- what is told of an answer and of words is told of their equals
told : (l m : Leaf) (ws vs : List ℕ) {r s : Slot} → l ≡ m → ws ≡ vs → r ≡ s → SlotTold m vs (Some s) → SlotTold l ws (Some r)
told l m ws vs {r} {s} p q e h =
    subst (λ x. SlotTold x ws (Some r)) (sym p)
    (subst (λ x. SlotTold m x (Some r)) (sym q) (subst (λ x. SlotTold m vs (Some x)) (sym e) h))

told-wrong : (l : Leaf) (ws : List ℕ) (r : Option Slot) → Wrong l → r ≡ None → SlotTold l ws r
told-wrong (Ok span) ws r w e = absurd w
told-wrong (Err fault) ws r w e = e

-- an option that is told is right, and ends there
told-fine : (l : Leaf) (ws : List ℕ) (r : Slot) → SlotTold l ws (Some r) → (l ≡ Fine r.next r.due) × (slot_words r ≡ ws) × (0 < r.next)
told-fine (Ok span) ws r h = (ap (λ x. Fine x span.made) (sym h.1) ∙ ap (λ x. Fine r.next x) (sym h.2), h.3, h.0)
told-fine (Err fault) ws r h = impossible cc

module _ (k : ℕ) (input : List ℕ) (at due : ℕ) where
  abbrev place : Leaf
  place = slot_scan k input at due

  abbrev words : List ℕ
  words = fill_slot k 0 input (Fine at due)

  abbrev Told : Option Slot → Type 0
  Told r = SlotTold place words r

  -- none is to come
  pub slot_done : {r : Slot} → 0 < at → due ≡ 0 → r ≡ no_slot at 0 → Told (Some r)
  unfolding slot_scan fill_slot
  slot_done h z e = told place (Fine at 0) words (0 ∷ 0 ∷ 0 ∷ []) (simp (eq-eqb due 0 z)) (simp (eq-eqb due 0 z)) e (h, refl, refl, refl)

  module _ (some : due ≡ 0 → ⊥) where
    -- the input ends
    pub slot_cut : length input ≤ at → Told None
    unfolding slot_scan
    slot_cut h =
        let is : place ≡ Bad Cut (length input) = simp (ne_eqb due 0 some, le-leb (length input) at h) in
        told-wrong place words None (subst Wrong (sym is) tt) refl

    module _ (more : at < length input) where
      -- another byte
      pub slot_other : {r : Slot} → 0 < at → (byte input at ≡ k → ⊥) → r ≡ no_slot at due → Told (Some r)
      unfolding slot_scan fill_slot
      slot_other p h e =
          told place (Fine at due) words (0 ∷ 0 ∷ 0 ∷ [])
          (simp (ne_eqb due 0 some, lt-leb (length input) at more, ne_eqb (byte input at) k h))
          (simp (ne_eqb due 0 some, ne_eqb (byte input at) k h)) e (p, refl, refl, refl)

      -- its byte, and a string
      module _ (h : byte input at ≡ k) where
        scanned : slot_scan k input at due ≡ string_at input (at + 1) (due - 1)
        unfolding slot_scan
        scanned = simp (ne_eqb due 0 some, lt-leb (length input) at more, eq-eqb (byte input at) k h)

        pub slot_wrong : {r : Option Slot} → None ≡ pair 1 field.Name (drop (at + 1) input) → r ≡ None → Told r
        slot_wrong {r} e q = told-wrong place words r (subst Wrong (sym scanned) (string_wrong input (at + 1) e (due - 1))) q

        pub slot_right : (n : Pair) → Some n ≡ pair 1 field.Name (drop (at + 1) input)
            → Told (Some (record { next = at + 1 + n.took; due = due - 1; present = 1; start = at + 1 + n.a; size = n.b }))
        unfolding fill_slot
        slot_right n e =
            told place (Fine (at + 1 + n.took) (due - 1)) words (1 ∷ (at + 1 + n.a) ∷ n.b ∷ [])
            (scanned ∙ string_right input (at + 1) n e (due - 1))
            (simp (ne_eqb due 0 some, eq-eqb (byte input at) k h) (ap (λ ws. 1 ∷ ws) (string_words input (at + 1) n e))) refl
            (omega arith, refl, refl, refl)

  -- an option that is right ends inside the input
  slot_ends : (a m : ℕ) → at ≤ length input → slot_scan k input at due ≡ Fine a m → a ≤ length input
  unfolding slot_scan
  slot_ends a m h e = go (eqb due 0) (leb (length input) at) refl (eqb (byte input at) k) e
    where
      go : (p q : Bool) → leb (length input) at ≡ q → (s : Bool)
          → cond p (Fine at 0) (cond q (Bad Cut (length input)) (cond s (string_at input (at + 1) (due - 1)) (Fine at due))) ≡ Fine a m
          → a ≤ length input
      go true q f s e = let x : at ≡ a = (fine-same e).0 in omega arith
      go false true f s e = impossible cc
      go false false f true e = string-ends input (at + 1) (due - 1) a m (omega (arith, leb-false (length input) at f)) e
      go false false f false e = let x : at ≡ a = (fine-same e).0 in omega arith

  -- what is told of it: the next option begins inside the input
  pub slot_inside_lem : (r : Slot) → Told (Some r) → at ≤ length input → (0 < r.next) × (r.next ≤ length input)
  slot_inside_lem r t h =
      let f = told-fine place words r t in
      (f.2, slot_ends r.next r.due h f.0)

-- ---- the options, one after the other

onward-wrong : (l : Leaf) (k : ℕ → ℕ → Leaf) → Wrong l → Wrong (onward l k)
onward-wrong (Ok span) k w = absurd w
onward-wrong (Err fault) k w = tt

-- an extern name of these parts
abbrev extern_is : ℕ → Pair → Slot → Slot → Slot → Extern
extern_is t n one two three = record { took = t; start = 1 + n.a; size = n.b; implements = one; suffix = two; id = three }

module _ (n : Pair) (input : List ℕ) (at count : ℕ) where
  -- what is said, by the answer of the first option, and by that of the second
  BySecond : List ℕ → List ℕ → Option Extern → Leaf → Type 0
  BySecond ws vs r l =
      Says (onward (onward l (slot_scan 2 input)) (end_scan input)) ((1 + n.a) ∷ n.b ∷ (ws ++ (vs ++ fill_slot 2 0 input l))) r

  ByFirst : Option Extern → Leaf → Type 0
  ByFirst r l = BySecond (fill_slot 0 0 input (Fine at count)) (fill_slot 1 0 input l) r (onward l (slot_scan 1 input))

  module _ (one : Slot) (told1 : SlotTold (slot_scan 0 input at count) (fill_slot 0 0 input (Fine at count)) (Some one)) where
    from_first : (r : Option Extern) → ByFirst r (Fine one.next one.due) → OptionsTold n input at count r
    unfolding ByFirst BySecond
    from_first r h = subst (ByFirst r) (sym (told-fine (slot_scan 0 input at count) (fill_slot 0 0 input (Fine at count)) one told1).0) h

    module _ (two : Slot)
        (told2 : SlotTold (slot_scan 1 input one.next one.due) (fill_slot 1 0 input (Fine one.next one.due)) (Some two)) where
      from_second : (r : Option Extern)
          → Says (onward (slot_scan 2 input two.next two.due) (end_scan input))
          ((1 + n.a) ∷ n.b ∷ (slot_words one ++ (slot_words two ++ fill_slot 2 0 input (Fine two.next two.due)))) r
          → OptionsTold n input at count r
      unfolding ByFirst BySecond
      from_second r h =
          let f1 = told-fine (slot_scan 0 input at count) (fill_slot 0 0 input (Fine at count)) one told1 in
          let f2 = told-fine (slot_scan 1 input one.next one.due) (fill_slot 1 0 input (Fine one.next one.due)) two told2 in
          from_first r
          (subst (λ ws. BySecond ws (fill_slot 1 0 input (Fine one.next one.due)) r (slot_scan 1 input one.next one.due)) f1.1
          (subst (λ vs. BySecond (slot_words one) vs r (slot_scan 1 input one.next one.due)) f2.1
          (subst (BySecond (slot_words one) (slot_words two) r) (sym f2.0) h)))

      module _ (three : Slot)
          (told3 : SlotTold (slot_scan 2 input two.next two.due) (fill_slot 2 0 input (Fine two.next two.due)) (Some three)) where
        -- more are to come than there are
        pub options_over : 0 < three.due → OptionsTold n input at count None
        unfolding end_scan
        options_over s =
            from_second None
            (go (slot_scan 2 input two.next two.due) (fill_slot 2 0 input (Fine two.next two.due)) told3)
          where
            over : (q : Bool) (a : ℕ) (ws : List ℕ) → Says (cond q (Bad Cut (length input)) (Bad Code a)) ws None
            over true a ws = refl
            over false a ws = refl

            go : (l : Leaf) (ws : List ℕ) → SlotTold l ws (Some three)
                → Says (onward l (end_scan input)) ((1 + n.a) ∷ n.b ∷ (slot_words one ++ (slot_words two ++ ws))) None
            go (Ok span) ws t =
                let ne : span.made ≡ 0 → ⊥ = λ z. let x : three.due ≡ span.made = t.2 in omega arith in
                simp (ne_eqb span.made 0 ne) (over (leb (length input) span.took) span.took _)
            go (Err fault) ws t = refl

        -- none is to come
        pub options_right : three.due ≤ 0 → OptionsTold n input at count (Some (extern_is three.next n one two three))
        unfolding end_scan
        options_right s =
            from_second (Some (extern_is three.next n one two three))
            (go (slot_scan 2 input two.next two.due) (fill_slot 2 0 input (Fine two.next two.due)) told3)
          where
            go : (l : Leaf) (ws : List ℕ) → SlotTold l ws (Some three)
                → Says (onward l (end_scan input)) ((1 + n.a) ∷ n.b ∷ (slot_words one ++ (slot_words two ++ ws)))
                (Some (extern_is three.next n one two three))
            go (Ok span) ws t =
                let z : span.made ≡ 0 = let x : three.due ≡ span.made = t.2 in omega arith in
                simp (eq-eqb span.made 0 z) (t.0, t.1, ap (λ vs. (1 + n.a) ∷ n.b ∷ (slot_words one ++ (slot_words two ++ vs))) t.3)
            go (Err fault) ws t = impossible cc

  -- no option
  pub options_none : count ≡ 0 → 0 < at → (k : ℕ) (none : Slot) → none ≡ no_slot k 0
      → OptionsTold n input at count (Some (extern_is at n none none none))
  unfolding slot_scan fill_slot end_scan
  options_none z h k none e = simp (z, e) (h, refl, refl)

-- ---- the whole

module _ (g : ℕ) (input : List ℕ) where
  -- what is said, by the answer of lead, name and count
  ByHead : Option Extern → Leaf → Type 0
  ByHead r l =
      Says (onward (onward (onward (onward l (slot_scan 0 input)) (slot_scan 1 input)) (slot_scan 2 input)) (end_scan input))
      (fill_name 0 input 1
      ++ (fill_slot 0 0 input l
      ++ (fill_slot 1 0 input (onward l (slot_scan 0 input)) ++ fill_slot 2 0 input (onward (onward l (slot_scan 0 input)) (slot_scan 1 input)))))
      r

  by_head : (r : Option Extern) {l : Leaf} → head_scan g input ≡ l → ByHead r l → ExternTold g input r
  unfolding ByHead scan_extern second_scan first_scan fill_extern fill_slots
  by_head r e h = subst (ByHead r) (sym e) h

  -- it is not right
  pub head_wrong : (r : Option Extern) → Wrong (head_scan g input) → r ≡ None → ExternTold g input r
  unfolding ByHead
  head_wrong r w e = by_head r refl (go (head_scan g input) w)
    where
      go : (l : Leaf) → Wrong l → ByHead r l
      go (Ok span) w = absurd w
      go (Err fault) w = e

  -- it is, with options at a place
  pub head_right : (r : Option Extern) (n : Pair) (at count : ℕ) → head_scan g input ≡ Fine at count → fill_name 0 input 1 ≡ (1 + n.a) ∷ n.b ∷ []
      → OptionsTold n input at count r → ExternTold g input r
  unfolding ByHead
  head_right r n at count e q h =
      by_head r e
      (subst (λ ws. Says (onward (onward (onward (slot_scan 0 input at count) (slot_scan 1 input)) (slot_scan 2 input)) (end_scan input))
      (ws ++ (fill_slot 0 0 input (Fine at count)
      ++ (fill_slot 1 0 input (slot_scan 0 input at count) ++ fill_slot 2 0 input (onward (slot_scan 0 input at count) (slot_scan 1 input)))))
      r) (sym q) h)

  module _ (some : 0 < length input) where
    -- a lead that is none, and one of grade 3
    pub lead_other : (byte input 0 ≡ 0 → ⊥) → (byte input 0 ≡ 2 → ⊥) → Wrong (head_scan g input)
    unfolding head_scan
    lead_other h k = simp (lt-leb (length input) 0 some, ne_eqb (byte input 0) 0 h, ne_eqb (byte input 0) 2 k) tt

    pub lead_newer : byte input 0 ≡ 2 → g < 3 → Wrong (head_scan g input)
    unfolding head_scan
    lead_newer e h =
        let ne : byte input 0 ≡ 0 → ⊥ = λ z. omega arith in
        simp (lt-leb (length input) 0 some, ne_eqb (byte input 0) 0 ne, eq-eqb (byte input 0) 2 e, lt-ltb g 3 h) tt

    bare_head : byte input 0 ≡ 0 → head_scan g input ≡ string_at input 1 0
    unfolding head_scan
    bare_head e = simp (lt-leb (length input) 0 some, eq-eqb (byte input 0) 0 e)

    optioned_head : byte input 0 ≡ 2 → 3 ≤ g → head_scan g input ≡ onward (string_at input 1 0) (λ at due. count_at input at)
    unfolding head_scan
    optioned_head e h =
        let ne : byte input 0 ≡ 0 → ⊥ = λ z. omega arith in
        simp (lt-leb (length input) 0 some, ne_eqb (byte input 0) 0 ne, eq-eqb (byte input 0) 2 e, le-ltb g 3 h)

    -- no name behind the lead
    module _ (e : None ≡ pair 1 field.Name (drop 1 input)) where
      pub bare_wrong : byte input 0 ≡ 0 → (r : Option Extern) → r ≡ None → ExternTold g input r
      bare_wrong b r q = head_wrong r (subst Wrong (sym (bare_head b)) (string_wrong input 1 e 0)) q

      pub optioned_wrong : byte input 0 ≡ 2 → 3 ≤ g → (r : Option Extern) → r ≡ None → ExternTold g input r
      optioned_wrong b top r q =
          head_wrong r
          (subst Wrong (sym (optioned_head b top))
          (onward-wrong (string_at input 1 0) (λ at due. count_at input at) (string_wrong input 1 e 0))) q

    -- a name n, as it is seen behind the lead
    module _ (n : Pair) (e : Some n ≡ pair 1 field.Name (drop 1 input)) where
      pub bare_right : byte input 0 ≡ 0 → (k : ℕ) (none : Slot) → none ≡ no_slot k 0
          → ExternTold g input (Some (extern_is (1 + n.took) n none none none))
      bare_right b k none q =
          head_right (Some (extern_is (1 + n.took) n none none none)) n (1 + n.took) 0 (bare_head b ∙ string_right input 1 n e 0)
          (string_words input 1 n e) (options_none n input (1 + n.took) 0 refl (omega arith) k none q)

      module _ (b : byte input 0 ≡ 2) (top : 3 ≤ g) where
        counts : head_scan g input ≡ count_at input (1 + n.took)
        counts = optioned_head b top ∙ ap (λ l. onward l (λ at due. count_at input at)) (string_right input 1 n e 0)

        -- no count behind the name
        pub count_none : None ≡ seen (take_unsigned (drop (1 + n.took) input)) → (r : Option Extern) → r ≡ None → ExternTold g input r
        unfolding count_at
        count_none d r q = head_wrong r (subst Wrong (sym counts) (go (take_unsigned (drop (1 + n.took) input)) d)) q
          where
            go : (t : Taken) → None ≡ seen t → Wrong (counted (length input) t (1 + n.took))
            go (Ok got) x = impossible cc
            go taken.Cut x = tt
            go taken.Bad x = tt

        -- a count c, as it is seen behind the name
        module _ (c : Number) (d : Some c ≡ seen (take_unsigned (drop (1 + n.took) input))) where
          count_is : head_scan g input ≡ counted (length input) (taken.Value c.value c.took) (1 + n.took)
          unfolding count_at
          count_is = counts ∙ ap (λ t. counted (length input) t (1 + n.took)) (index_seen (drop (1 + n.took) input) c d).0

          pub count_zero : c.value ≡ 0 → ExternTold g input None
          count_zero z = head_wrong None (subst Wrong (sym count_is) (simp (eq-eqb c.value 0 z) tt)) refl

          pub count_over : 3 < c.value → ExternTold g input None
          count_over k =
              let ne : c.value ≡ 0 → ⊥ = λ z. omega arith in
              head_wrong None (subst Wrong (sym count_is) (simp (ne_eqb c.value 0 ne, le-ltb c.value 4 (omega arith)) tt)) refl

          pub count_inside : 1 + n.took + c.took ≤ length input
          count_inside =
              omega (arith, (index_seen (drop (1 + n.took) input) c d).3, length-drop (1 + n.took) input, string_inside input 1 n e some)

          pub count_right : (c.value ≡ 0 → ⊥) → c.value ≤ 3 → (r : Option Extern)
              → OptionsTold n input (1 + n.took + c.took) c.value r → ExternTold g input r
          count_right ne k r t =
              head_right r n (1 + n.took + c.took) c.value
              (count_is ∙ simp (ne_eqb c.value 0 ne, lt-ltb c.value 4 (omega arith))) (string_words input 1 n e) t
