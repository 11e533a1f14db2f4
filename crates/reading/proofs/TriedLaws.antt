-- From what a straight reader leaves to what a reading call answers, and shapes by their fields: from the stages of a shape in `fields`.
use Rattle.std.specs.Prelude.{None, Some, Option, Err, Ok}
use Prim.Native.Nat.{ℕ, ◌+◌, ◌≤◌, ◌<◌, ◌^◌}
use native.Mathlib.Omega.{arith}
use native.Mathlib.Nat.{add-zero}
use mathlib.Core.Path.{◌≡◌, refl, sym, ap, ◌∙◌}
use mathlib.Core.Bool.{Bool, true, false, cond}
use mathlib.Core.List.{List, [], ◌∷◌, ◌++◌}
use lib.Dec.{eqb, ltb, leb}
use lib.ListN.{length, get_or, drop, length-drop}
use lib.Seq.{sets, drop-drop, get_or-drop}
use borrow.Author.Tests.{lt-ltb, le-ltb, lt-leb, ltb-true, ltb-false, eqb-false, eq-eqb, ne_eqb}
use Rattle.numbers.specs.Taken.{Taken}
use Rattle.numbers.specs.Taken as taken
use Rattle.numbers.specs.Leb.{take_unsigned}
use Rattle.fields.specs.declared.Field.{Field}
use Rattle.fields.specs.declared.Field.TheVariants as field
use Rattle.fields.specs.Leaf.{Leaf, Fine, Bad}
use Rattle.fields.specs.Read as read
use Rattle.fields.specs.declared.Refusal.{Refusal}
use Rattle.fields.specs.declared.Refusal.TheVariants as refusal
use Rattle.fields.specs.declared.Shape.{Shape}
use Rattle.reading.specs.Fill.{index, fill}
use Rattle.fields.specs.Answers.{left_row}
use Rattle.reading.specs.Read.{reader, scanned, filled, roomed, read_found, read_item, scanned_found, scanned_item, refusal_of}
use Rattle.reading.specs.inside.Stages.{counted_scan, counted_fill}
use Rattle.fields.specs.inside.Run.{along, makes, after}
use Rattle.fields.specs.inside.Stages.{counted_fields}
use Rattle.reading.specs.Scan.{byte, cut, scan_index, scan}
use Rattle.fields.specs.Shape.{opening, group, closing, repeated, seq}
use Rattle.fields.specs.Table.{two_of, many_of}
use Rattle.fields.specs.Walk.{next, walk}
use Rattle.fields.proofs.RunLaws.{along-append, walk_end, outs-last}
use Rattle.fields.proofs.StageLaws.{walk_counted, outs_staged}
use Rattle.reading.proofs.ScannedLaws.{tells, counted_value}
use Rattle.reading.specs.inside.Try.{Tried, Item}
use Rattle.reading.specs.Seen.{within, roomy}
use Rattle.reading.specs.inside.Tried.{left_tried, tried, tried_found}
use Rattle.numbers.proofs.Impossible.{impossible}

-- ---- no field, and a byte that makes no word

nothing_scans : (lead g : ℕ) (input : List ℕ) (at to : ℕ) → Fine at to ≡ along (scan lead g) (field.Nothing ∷ []) (drop at input) at to
unfolding along scan
nothing_scans lead g input at to = rw (add-zero at, add-zero to)

fixed_seen : (lead g : ℕ) (input : List ℕ) (at b : ℕ) → at < length input → lead ≤ g → get_or input at 0 ≡ b
    → scan lead g (field.Fixed b) (drop at input) ≡ Fine 1 0
unfolding scan
fixed_seen lead g input at b h k e =
    simp (
      lt-leb (length (drop at input)) 0 (rw length-drop (omega arith)),
      get_or-drop at input 0 0 ∙ ap (λ i. get_or input i 0) (add-zero at),
      eq-eqb (get_or input at 0) b e,
      le-ltb g lead k,
    )

-- ---- what is not

not_item : {P : Type 0} {q e : ℕ} → Item q e ≡ None → P
not_item e = impossible cc

not_fine : {P : Type 0} {w : Refusal} {j t m : ℕ} → Bad w j ≡ Fine t m → P
not_fine e = impossible cc

not_true : {P : Type 0} → false ≡ true → P
not_true e = impossible cc

-- two that are the same hold the same numbers
abbrev words_in : Tried → ℕ
words_in (Some item) = item.words
words_in None = 0

abbrev bytes_in : Tried → ℕ
bytes_in (Some item) = item.took
bytes_in None = 0

found-same : {m t k u : ℕ} → Item m t ≡ Item k u → (m ≡ k) × (t ≡ u)
found-same e = (ap words_in e, ap bytes_in e)

-- ---- an item of a shape

-- one that stands in the row is what the call answers
pub read_done : (l : Leaf) (ws row new : List ℕ) (q e : ℕ) → left_tried (Item q e) new ≡ tried l ws row
    → left_row (read.Item q e) new ≡ roomed l ws row
unfolding tried roomed roomy
read_done (Err fault) ws row new q e h = not_item (ap (λ x. x.answer) h)
read_done (Ok span) ws row new q e h = go (ltb 16384 span.made) (leb span.made (length row)) h
  where
    go : (s t : Bool) → left_tried (Item q e) new ≡ cond (cond s false t) (left_tried (Item span.made span.took) (sets row 0 ws)) (left_tried None row)
        → left_row (read.Item q e) new
        ≡ cond s (left_row (read.Refused refusal.Room span.made) row)
        (cond t (left_row (read.Item span.made span.took) (sets row 0 ws)) (left_row (read.Refused refusal.Room span.made) row))
    go true t h = not_item (ap (λ x. x.answer) h)
    go false true h =
        let i : Item q e ≡ Item span.made span.took = ap (λ x. x.answer) h in
        let words : q ≡ span.made = (found-same i).0 in
        let bytes : e ≡ span.took = (found-same i).1 in
        let content : new ≡ sets row 0 ws = ap (λ x. x.row) h in
        λ k. left_row (read.Item (words k) (bytes k)) (content k)
    go false false h = not_item (ap (λ x. x.answer) h)

-- where there is none that has room, the call refuses
pub read_not : (l : Leaf) (ws row new : List ℕ) → left_tried None new ≡ tried l ws row → left_row (refusal_of l) new ≡ roomed l ws row
unfolding tried roomed roomy
read_not (Err fault) ws row new h = ap (λ x. left_row (read.Refused fault.why fault.value) x.row) h
read_not (Ok span) ws row new h = go (ltb 16384 span.made) (leb span.made (length row)) h
  where
    go : (s t : Bool) → left_tried None new ≡ cond (cond s false t) (left_tried (Item span.made span.took) (sets row 0 ws)) (left_tried None row)
        → left_row (read.Refused refusal.Room span.made) new
        ≡ cond s (left_row (read.Refused refusal.Room span.made) row)
        (cond t (left_row (read.Item span.made span.took) (sets row 0 ws)) (left_row (read.Refused refusal.Room span.made) row))
    go true t h = ap (λ x. left_row (read.Refused refusal.Room span.made) x.row) h
    go false true h = not_item (sym (ap (λ x. x.answer) h))
    go false false h = ap (λ x. left_row (read.Refused refusal.Room span.made) x.row) h

-- ---- the whole call

-- what the limits say
pub within-limits : (lead g : ℕ) (input : List ℕ) → within lead g input ≡ true
    → (length input ≤ 2 ^ 30) × (1 ≤ g) × (g ≤ 3) × (lead ≤ g) × (0 < length input)
unfolding within
within-limits lead g input h =
    go (ltb (2 ^ 30) (length input)) (ltb g 1) (ltb 3 g) (ltb g lead) (ltb 0 (length input)) refl refl refl refl refl h
  where
    go : (a b c d z : Bool) → ltb (2 ^ 30) (length input) ≡ a → ltb g 1 ≡ b → ltb 3 g ≡ c → ltb g lead ≡ d → ltb 0 (length input) ≡ z
        → cond a false (cond b false (cond c false (cond d false z))) ≡ true
        → (length input ≤ 2 ^ 30) × (1 ≤ g) × (g ≤ 3) × (lead ≤ g) × (0 < length input)
    go true b c d z ea eb ec ed ez h = not_true h
    go false true c d z ea eb ec ed ez h = not_true h
    go false false true d z ea eb ec ed ez h = not_true h
    go false false false true z ea eb ec ed ez h = not_true h
    go false false false false false ea eb ec ed ez h = not_true h
    go false false false false true ea eb ec ed ez h =
        (ltb-false _ _ ea, ltb-false _ _ eb, ltb-false _ _ ec, ltb-false _ _ ed, ltb-true _ _ ez)

module _ (f : Option Shape) (kind lead g : ℕ) (input row : List ℕ) where
  -- within the limits the shape says what the call answers
  module _ (h : within lead g input ≡ true) where
    tests : (ltb (2 ^ 30) (length input) ≡ false) × (ltb g 1 ≡ false) × (ltb 3 g ≡ false) × (eqb (length input) 0 ≡ false)
    tests =
        let k = within-limits lead g input h in
        (le-ltb _ _ k.0, le-ltb _ _ k.1, le-ltb _ _ k.2, ne_eqb (length input) 0 (λ z. omega (arith, k.4)))

    -- an item that stands in the row is what the call answers
    pub call_done : (q e : ℕ) (new : List ℕ) → left_tried (Item q e) new ≡ tried_found f kind lead g input row
        → left_row (read.Item q e) new ≡ read_item f kind lead g input row
    unfolding read_item
    call_done q e new t = rw (tests.0, tests.1, tests.2, tests.3) (go f t)
      where
        go : (f : Option Shape) → left_tried (Item q e) new ≡ tried_found f kind lead g input row
            → left_row (read.Item q e) new ≡ read_found f kind lead g input row
        go (Some s) t = read_done (scanned lead g s input) (filled kind lead g s input) row new q e t
        go None t = not_item (ap (λ x. x.answer) t)

    -- where there is none that has room, the call refuses
    pub call_not : (new : List ℕ) → left_tried None new ≡ tried_found f kind lead g input row
        → left_row (refusal_of (scanned_item f lead g input)) new ≡ read_item f kind lead g input row
    unfolding read_item scanned_item
    call_not new t = rw (tests.0, tests.1, tests.2, tests.3) (go f t)
      where
        go : (f : Option Shape) → left_tried None new ≡ tried_found f kind lead g input row
            → left_row (refusal_of (scanned_found f lead g input)) new ≡ read_found f kind lead g input row
        go (Some s) t = read_not (scanned lead g s input) (filled kind lead g s input) row new t
        go None t = ap (λ x. left_row (read.Refused refusal.Code 0) x.row) t

  -- an item that is not whole is refused as it is scanned
  refused : (f : Option Shape) → ((e q : ℕ) → scanned_found f lead g input ≡ Fine e q → ⊥)
      → left_row (refusal_of (scanned_found f lead g input)) row ≡ read_found f kind lead g input row
  unfolding roomed
  refused (Some s) h = go (scanned lead g s input) h
    where
      go : (l : Leaf) → ((e q : ℕ) → l ≡ Fine e q → ⊥) → left_row (refusal_of l) row ≡ roomed l (filled kind lead g s input) row
      go (Ok span) h = absurd (h span.took span.made refl)
      go (Err fault) h = refl
  refused None h = refl

  -- outside the limits, where an item whose lead is above the grade is not whole
  pub call_outside : within lead g input ≡ false → (g < lead → (e q : ℕ) → scanned_found f lead g input ≡ Fine e q → ⊥)
      → left_row (refusal_of (scanned_item f lead g input)) row ≡ read_item f kind lead g input row
  unfolding within read_item scanned_item
  call_outside h begins =
      go (ltb (2 ^ 30) (length input)) (ltb g 1) (ltb 3 g) (ltb g lead) (ltb 0 (length input)) (eqb (length input) 0) refl refl refl h
    where
      go : (a b c d z s : Bool) → ltb g lead ≡ d → ltb 0 (length input) ≡ z → eqb (length input) 0 ≡ s
          → cond a false (cond b false (cond c false (cond d false z))) ≡ false
          → left_row
          (refusal_of
          (cond a (Bad refusal.Limit 0)
          (cond b (Bad refusal.Limit 0) (cond c (Bad refusal.Limit 0) (cond s (Bad refusal.Cut 0) (scanned_found f lead g input))))))
          row
          ≡ cond a (left_row (read.Refused refusal.Limit 0) row)
          (cond b (left_row (read.Refused refusal.Limit 0) row)
          (cond c (left_row (read.Refused refusal.Limit 0) row)
          (cond s (left_row (read.Refused refusal.Cut 0) row) (read_found f kind lead g input row))))
      go true b c d z s ed ez es h = refl
      go false true c d z s ed ez es h = refl
      go false false true d z s ed ez es h = refl
      go false false false d z true ed ez es h = refl
      go false false false true z false ed ez es h = refused f (begins (ltb-true g lead ed))
      go false false false false true false ed ez es h = not_true (sym h)
      go false false false false false false ed ez es h =
          let none : length input ≤ 0 = ltb-false 0 (length input) ez in
          absurd (eqb-false (length input) 0 es (omega arith))

-- a shape whose first byte is of a grade above is not whole
pub lead_newer : (lead g b : ℕ) (s : Shape) (input : List ℕ) → s.lead ≡ field.Fixed b → g < lead
    → (e q : ℕ) → scanned lead g s input ≡ Fine e q → ⊥
unfolding walk seq scan
lead_newer lead g b s input is k e q h =
    then (scan lead g s.lead input) (λ t m x. fixed t m (sym (ap (λ f. scan lead g f input) is) ∙ x)) _ h
  where
    fixed : (t m : ℕ) → scan lead g (field.Fixed b) input ≡ Fine t m → ⊥
    fixed t m x = go (leb (length input) 0) (eqb (byte input 0) b) (rw (lt-ltb g lead k) at x)
      where
        go : (a c : Bool) → cond a (cut input) (cond c (Bad refusal.Newer 0) (Bad refusal.Code 0)) ≡ Fine t m → ⊥
        go true c x = not_fine x
        go false true x = not_fine x
        go false false x = not_fine x

    then : (l : Leaf) → ((t m : ℕ) → l ≡ Fine t m → ⊥) → (k : ℕ → ℕ → Leaf) → next l k 0 ≡ Fine e q → ⊥
    then (Ok span) none k x = none span.took span.made refl
    then (Err fault) none k x = not_fine x

-- ---- shapes of two fields

module _ (lead g : ℕ) (input : List ℕ) where
  -- an absent field behind others changes nothing
  pub along_nothing : (fs : List Field) (at made : ℕ)
      → along (scan lead g) (fs ++ field.Nothing ∷ []) (drop at input) at made ≡ along (scan lead g) fs (drop at input) at made
  along_nothing fs at made =
      along-append (scan lead g) fs (field.Nothing ∷ []) input at made ∙ go (along (scan lead g) fs (drop at input) at made)
    where
      go : (l : Leaf) → after l (λ a m. along (scan lead g) (field.Nothing ∷ []) (drop a input) a m) ≡ l
      go (Ok span) = sym (nothing_scans lead g input span.took span.made)
      go (Err fault) = refl

  -- all the fields of such a shape, and their words
  two_along : (l f h : Field)
      → scanned lead g (two_of l field.Nothing f h) input ≡ along (scan lead g) (l ∷ field.Nothing ∷ f ∷ h ∷ field.Nothing ∷ []) input 0 1
  unfolding seq
  two_along l f h = walk_end (reader lead g input) (l ∷ field.Nothing ∷ f ∷ h ∷ field.Nothing ∷ []) input 0 1

  two_makes : (kind : ℕ) (l f h : Field)
      → filled kind lead g (two_of l field.Nothing f h) input
      ≡ kind ∷ makes (scan lead g) (fill g) (l ∷ field.Nothing ∷ f ∷ h ∷ field.Nothing ∷ []) 0 input
  unfolding seq
  two_makes kind l f h = ap (λ ws. kind ∷ ws) (outs-last (reader lead g input) (l ∷ field.Nothing ∷ f ∷ h ∷ field.Nothing ∷ []) 0 input)

-- behind a fixed byte
module _ (lead g b : ℕ) (f h : Field) (input : List ℕ) (some : 0 < length input) (is : get_or input 0 0 ≡ b) (k : lead ≤ g) where
  two_along_fixed : along (scan lead g) (field.Fixed b ∷ field.Nothing ∷ f ∷ h ∷ field.Nothing ∷ []) input 0 1
      ≡ along (scan lead g) (f ∷ h ∷ field.Nothing ∷ []) (drop 1 input) 1 1
  unfolding along scan
  two_along_fixed = rw (fixed_seen lead g input 0 b some k is)

  pub two_scanned : scanned lead g (two_of (field.Fixed b) field.Nothing f h) input ≡ along (scan lead g) (f ∷ h ∷ []) (drop 1 input) 1 1
  two_scanned = two_along lead g input (field.Fixed b) f h ∙ two_along_fixed ∙ along_nothing lead g input (f ∷ h ∷ []) 1 1

  two_makes_fixed : makes (scan lead g) (fill g) (field.Fixed b ∷ field.Nothing ∷ f ∷ h ∷ field.Nothing ∷ []) 0 input
      ≡ makes (scan lead g) (fill g) (f ∷ h ∷ []) 1 (drop 1 input)
  unfolding makes fill scan
  two_makes_fixed = rw (fixed_seen lead g input 0 b some k is)

  pub two_filled : (kind : ℕ)
      → filled kind lead g (two_of (field.Fixed b) field.Nothing f h) input
      ≡ kind ∷ makes (scan lead g) (fill g) (f ∷ h ∷ []) 1 (drop 1 input)
  two_filled kind = two_makes lead g input kind (field.Fixed b) f h ∙ ap (λ ws. kind ∷ ws) two_makes_fixed

-- at the front
module _ (lead g : ℕ) (f h : Field) (input : List ℕ) where
  front_along : along (scan lead g) (field.Nothing ∷ field.Nothing ∷ f ∷ h ∷ field.Nothing ∷ []) input 0 1
      ≡ along (scan lead g) (f ∷ h ∷ field.Nothing ∷ []) input 0 1
  unfolding along scan
  front_along = refl

  pub front_scanned : scanned lead g (two_of field.Nothing field.Nothing f h) input ≡ along (scan lead g) (f ∷ h ∷ []) input 0 1
  front_scanned = two_along lead g input field.Nothing f h ∙ front_along ∙ along_nothing lead g input (f ∷ h ∷ []) 0 1

  pub front_filled : (kind : ℕ)
      → filled kind lead g (two_of field.Nothing field.Nothing f h) input ≡ kind ∷ makes (scan lead g) (fill g) (f ∷ h ∷ []) 0 input
  unfolding makes fill scan
  front_filled kind = two_makes lead g input kind field.Nothing f h

-- ---- shapes with a count

-- a count and as many groups of two, and a last field: what is counted of any shape that has these
abbrev pub list_of : Field → Field → Field → Shape
list_of c d e = many_of field.Nothing field.Nothing field.Nothing c d e

-- behind a fixed byte
module _ (lead g b : ℕ) (c d : Field) (input : List ℕ) (some : 0 < length input) (is : get_or input 0 0 ≡ b) (k : lead ≤ g) where
  abbrev many : Shape
  many = many_of (field.Fixed b) field.Nothing field.Nothing c d field.Nothing

  many_opens : along (scan lead g) (opening many) input 0 1 ≡ Fine 1 1
  unfolding along scan
  many_opens = rw (fixed_seen lead g input 0 b some k is)

  pub many_scanned : scanned lead g (many_of (field.Fixed b) field.Nothing field.Nothing c d field.Nothing) input
      ≡ counted_scan lead g (list_of c d field.Nothing) input 1 1
  many_scanned =
      sym (walk_counted (tells lead g input) many 0 1 (Fine 1 1) (sym many_opens) 1 1 refl refl (counted_scan lead g many input 1 1) refl)

  many_makes : (fs : List Field)
      → makes (scan lead g) (fill g) (opening many ++ fs) 0 input ≡ makes (scan lead g) (fill g) fs 1 (drop 1 input)
  unfolding makes fill scan
  many_makes fs = rw (fixed_seen lead g input 0 b some k is)

  pub many_filled : (kind : ℕ) → filled kind lead g (many_of (field.Fixed b) field.Nothing field.Nothing c d field.Nothing) input
      ≡ kind ∷ counted_fill lead g (list_of c d field.Nothing) input 1
  many_filled kind =
      ap (λ ws. kind ∷ ws)
      (outs_staged (tells lead g input) many 0 1 1 1 many_opens ∙ many_makes (counted_fields many (index (drop 1 input))))

-- behind a first field of one byte and one word
module _ (lead g : ℕ) (a c d e : Field) (input : List ℕ) (first : scan lead g a input ≡ Fine 1 1) where
  abbrev function : Shape
  function = many_of field.Nothing field.Nothing a c d e

  async_opens : along (scan lead g) (opening function) input 0 1 ≡ Fine 1 2
  unfolding along scan
  async_opens = rw first

  pub async_scanned : scanned lead g (many_of field.Nothing field.Nothing a c d e) input ≡ counted_scan lead g (list_of c d e) input 1 2
  async_scanned =
      sym (walk_counted (tells lead g input) function 0 1 (Fine 1 2) (sym async_opens) 1 2 refl refl (counted_scan lead g function input 1 2) refl)

  async_makes : (fs : List Field)
      → makes (scan lead g) (fill g) (opening function ++ fs) 0 input ≡ fill g a 0 input ++ makes (scan lead g) (fill g) fs 1 (drop 1 input)
  unfolding makes fill scan
  async_makes fs = rw first

  pub async_filled : (kind : ℕ) → filled kind lead g (many_of field.Nothing field.Nothing a c d e) input
      ≡ kind ∷ (fill g a 0 input ++ counted_fill lead g (list_of c d e) input 1)
  async_filled kind =
      ap (λ ws. kind ∷ ws)
      (outs_staged (tells lead g input) function 0 1 1 2 async_opens ∙ async_makes (counted_fields function (index (drop 1 input))))

-- ---- what is counted

module _ (lead g : ℕ) (s : Shape) (input : List ℕ) (at made : ℕ) where
  -- no count, no item
  pub counted_none : ((n t : ℕ) → take_unsigned (drop at input) ≡ taken.Value n t → ⊥)
      → (w : Refusal) × (j : ℕ) × (counted_scan lead g s input at made ≡ Bad w j)
  unfolding along scan scan_index
  counted_none h = go (take_unsigned (drop at input)) refl
    where
      go : (x : Taken) → take_unsigned (drop at input) ≡ x → (w : Refusal) × (j : ℕ) × (counted_scan lead g s input at made ≡ Bad w j)
      go (Ok got) e = absurd (h got.value got.took e)
      go taken.Cut e = (refusal.Cut, at + length (drop at input), rw e)
      go taken.Bad e = (refusal.Number, at + 0, rw e)

  -- as many groups, and the last field
  pub counted_some : (n t : ℕ) → take_unsigned (drop at input) ≡ taken.Value n t
      → counted_scan lead g s input at made
      ≡ after (along (scan lead g) (repeated n (group s)) (drop (at + t) input) (at + t) (made + 1))
      (λ b k. along (scan lead g) (closing s) (drop b input) b k)
  counted_some n t e =
      sym (counted_value lead g input s at made (drop at input) refl (taken.Value n t) (sym e) n t refl _ refl _ refl)

-- the count, and their words
pub counted_words : (lead g : ℕ) (s : Shape) (input : List ℕ) (at n t : ℕ) → take_unsigned (drop at input) ≡ taken.Value n t
    → counted_fill lead g s input at ≡ n ∷ makes (scan lead g) (fill g) (repeated n (group s) ++ closing s) (at + t) (drop (at + t) input)
unfolding makes fill scan scan_index
counted_words lead g s input at n t e = rw (e, drop-drop t at input)
