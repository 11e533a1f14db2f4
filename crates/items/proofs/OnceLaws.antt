-- An import read once: what its extern name and its reference say comes to what the shape says, its words are stored in runs that follow
-- one another, and the call answers what was read, or refuses.
use Rattle.fields.specs.declared.Shape.{Shape}
use Rattle.std.specs.Prelude.{Err, Ok, Option, Some, None, option_map}
use Prim.Native.Nat.{ℕ, ◌+◌, ◌≤◌, ◌<◌, ◌^◌}
use native.Mathlib.Nat.{zero-add}
use native.Mathlib.Omega.{arith}
use mathlib.Core.Path.{◌≡◌, refl, sym, ap, ◌∙◌, subst}
use mathlib.Core.Bool.{Bool, true, false, cond}
use mathlib.Core.List.{List, [], ◌∷◌, ◌++◌}
use lib.Dec.{eqb, ltb}
use lib.ListN.{length, get_or, drop, set, length-set, length-drop}
use lib.Seq.{sets, length-sets}
use borrow.Author.Tests.{lt-leb, le-leb, ltb-false, eqb-false}
use Rattle.fields.specs.declared.Field.TheVariants as field
use Rattle.fields.specs.Leaf.{Leaf, Fine, Bad}
use Rattle.fields.specs.Read as read
use Rattle.fields.specs.declared.Refusal.TheVariants as refusal
use Rattle.fields.specs.Words.{word, wide}
use Rattle.reading.specs.Fill.{fill, fill_extern}
use Rattle.fields.specs.Answers.{left_row}
use Rattle.reading.specs.Read.{read_found, read_item, scanned_found, scanned_item, refusal_of}
use Rattle.fields.specs.inside.Run.{along, makes}
use Rattle.reading.specs.Scan.{scan, scan_extern}
use Rattle.fields.specs.Table.{shape_in}
use Rattle.fields.specs.Walk.{next, took}
use Rattle.reading.proofs.FilledLaws.{fill-length}
use Rattle.reading.specs.inside.Try.{Tried, Item}
use Rattle.reading.specs.Seen.{within, roomy}
use Rattle.reading.specs.inside.Tried.{left_tried, tried, tried_found}
use Rattle.reading.proofs.StepLaws.{scan-takes, fill_at}
use Rattle.reading.proofs.TriedLaws.{within-limits, call_done, call_not, front_scanned, front_filled}
use Rattle.items.specs.declared.import.Three.{Three}
use Rattle.items.specs.declared.import.Extern.{Extern}
use Rattle.items.specs.ReadExtern.{slot_words, extern_words, Says, extern_within, value_of_extern, value_of, read_extern, ExternRead}
use Rattle.items.specs.inside.Import.{three_of, three_is, three, ExternTold}
use Rattle.items.specs.ReadImport.{read_import}
use Rattle.imports.specs.Write.{shape_of}
use Rattle.numbers.proofs.Impossible.{impossible}

-- ---- words stored

-- storing keeps the size
sized : (old : List ℕ) (to : ℕ) (ws : List ℕ) {new : List ℕ} → new ≡ sets old to ws → length new ≡ length old
sized old to ws h = ap length h ∙ length-sets old to ws

-- three words at the front, and the words of three options behind them
module _ (row : List ℕ) (e : Extern) {one : List ℕ}
    (p : one ≡ sets (set (set (set row 0 17) 1 e.start) 2 e.size) 3 (slot_words e.implements)) where
  pub size_one : length one ≡ length row
  size_one = sized (set (set (set row 0 17) 1 e.start) 2 e.size) 3 (slot_words e.implements) p ∙ simp length-set

  module _ {two : List ℕ} (q : two ≡ sets one 6 (slot_words e.suffix)) where
    pub size_two : length two ≡ length row
    size_two = sized one 6 (slot_words e.suffix) q ∙ size_one

    pub size_last : {last : List ℕ} → last ≡ sets two 9 (slot_words e.id) → length last ≡ length row
    size_last s = sized two 9 (slot_words e.id) s ∙ size_two

-- the words of an import, in the order in which they are stored
pub import-words : (row : List ℕ) (e : Extern) (r : Three) {one two last : List ℕ}
    → one ≡ sets (set (set (set row 0 17) 1 e.start) 2 e.size) 3 (slot_words e.implements)
    → two ≡ sets one 6 (slot_words e.suffix) → last ≡ sets two 9 (slot_words e.id)
    → set (set (set last 12 r.a) 13 r.b) 14 r.c ≡ sets row 0 (17 ∷ (extern_words e ++ (r.a ∷ r.b ∷ r.c ∷ [])))
import-words row e r p q s = rw (s, q, p)

-- ---- what the fields say

-- an extern name that is told is right, and these are its words
pub extern_some : (g : ℕ) (input : List ℕ) (e : Extern) → ExternTold g input (Some e)
    → (scan 1 g field.ExternName input ≡ Fine e.took 11) × (fill g field.ExternName 0 input ≡ extern_words e)
    × (e.took ≤ length input)
unfolding scan fill wide
extern_some g input e x = go (scan_extern g input) (λ t m. scan-takes g field.ExternName input t m tt) x
  where
    go : (l : Leaf) → ((t m : ℕ) → l ≡ Fine t m → (0 < t) × (t ≤ length input) × (m ≡ 11)) → Says l (fill_extern g 0 input) (Some e)
        → (l ≡ Fine e.took 11) × (fill_extern g 0 input ≡ extern_words e) × (e.took ≤ length input)
    go (Ok span) k x =
        let q = k span.took span.made refl in
        ((λ i. Fine (sym x.1 i) (q.2 i)), sym x.2, omega (arith, q.1, x.1))
    go (Err fault) k x = impossible cc

-- a list of three words
three-words : (ws : List ℕ) → length ws ≡ 3 → ws ≡ word ws 0 ∷ word ws 1 ∷ word ws 2 ∷ []
three-words [] e = absurd (omega arith)
three-words (x ∷ []) e = absurd (omega arith)
three-words (x ∷ y ∷ []) e = absurd (omega arith)
three-words (x ∷ y ∷ z ∷ []) e = refl
three-words (x ∷ y ∷ z ∷ v ∷ ws) e = absurd (omega arith)

-- a reference that is read is right, and these are its words, wherever it stands
pub three-some : (g at : ℕ) (bs : List ℕ) (r : Three) → Some r ≡ three g bs
    → (scan 1 g field.Reference bs ≡ Fine r.took 3) × (fill g field.Reference at bs ≡ r.a ∷ r.b ∷ r.c ∷ []) × (r.took ≤ length bs)
unfolding three_of wide
three-some g at bs r h = go (scan 1 g field.Reference bs) (λ t m. scan-takes g field.Reference bs t m tt) h
  where
    ws : List ℕ
    ws = fill g field.Reference 0 bs

    go : (l : Leaf) → ((t m : ℕ) → l ≡ Fine t m → (0 < t) × (t ≤ length bs) × (m ≡ 3)) → Some r ≡ three_of l ws
        → (l ≡ Fine r.took 3) × (fill g field.Reference at bs ≡ r.a ∷ r.b ∷ r.c ∷ []) × (r.took ≤ length bs)
    go (Ok span) k h =
        let q = k span.took span.made refl in
        let same : three_is span.took (word ws 0) (word ws 1) (word ws 2) ≡ r = cc in
        subst
        (λ (x : Three). (Ok span ≡ Fine x.took 3) × (fill g field.Reference at bs ≡ x.a ∷ x.b ∷ x.c ∷ []) × (x.took ≤ length bs))
        same
        (ap (λ n. Fine span.took n) q.2, fill_at g field.Reference at bs tt ∙ three-words ws (fill-length g field.Reference 0 bs), q.1)
    go (Err fault) k h = impossible cc

-- ---- an import of an extern name and a reference

-- the shape has these two fields
abbrev fine : ℕ → List ℕ → Leaf
fine g input = along (scan 1 g) (field.ExternName ∷ field.Reference ∷ []) input 0 1

abbrev words : ℕ → List ℕ → List ℕ
words g input = makes (scan 1 g) (fill g) (field.ExternName ∷ field.Reference ∷ []) 0 input

import-tried : (g : ℕ) (input row : List ℕ)
    → tried (fine g input) (17 ∷ words g input) row ≡ tried_found (shape_of 17) 17 1 g input row
unfolding shape_in
import-tried g input row =
    let s = sym (front_scanned 1 g field.ExternName field.Reference input) in
    let f = sym (front_filled 1 g field.ExternName field.Reference input 17) in
    λ i. tried (s i) (f i) row

module _ (g : ℕ) (input row : List ℕ) where
  -- its extern name is not right
  pub import_unnamed : ExternTold g input None → left_tried None row ≡ tried_found (shape_of 17) 17 1 g input row
  unfolding along scan tried
  import_unnamed x =
      go (scan_extern g input) x (λ t m. along (scan 1 g) (field.Reference ∷ []) (drop t input) (0 + t) (1 + m))
      ∙ import-tried g input row
    where
      go : (l : Leaf) → Says l (fill_extern g 0 input) None → (k : ℕ → ℕ → Leaf)
          → left_tried None row ≡ tried (next l k 0) (17 ∷ words g input) row
      go (Ok span) x k = absurd x
      go (Err fault) x k = refl

  module _ (e : Extern) (x : ExternTold g input (Some e)) where
    -- past the extern name stands the reference
    past_name : fine g input ≡ along (scan 1 g) (field.Reference ∷ []) (drop e.took input) e.took 12
    unfolding along
    past_name =
        ap (λ l. next l (λ t m. along (scan 1 g) (field.Reference ∷ []) (drop t input) (0 + t) (1 + m)) 0)
        (extern_some g input e x).0
        ∙ ap (λ n. along (scan 1 g) (field.Reference ∷ []) (drop e.took input) n 12) (zero-add e.took)

    -- it is not right
    pub import_unreferred : None ≡ three g (drop e.took input) → left_tried None row ≡ tried_found (shape_of 17) 17 1 g input row
    unfolding along tried three_of
    import_unreferred z =
        go (scan 1 g field.Reference (drop e.took input)) z (λ t m. Fine (e.took + t) (12 + m))
        ∙ ap (λ l. tried l (17 ∷ words g input) row) (sym past_name) ∙ import-tried g input row
      where
        go : (l : Leaf) → None ≡ three_of l (fill g field.Reference 0 (drop e.took input)) → (k : ℕ → ℕ → Leaf)
            → left_tried None row ≡ tried (next l k e.took) (17 ∷ words g input) row
        go (Ok span) z f = impossible cc
        go (Err fault) z f = refl

    module _ (r : Three) (is : Some r ≡ three g (drop e.took input)) where
      -- both take bytes of the input
      pub import_inside : e.took + r.took ≤ length input
      import_inside =
          omega (arith, (three-some g 0 (drop e.took input) r is).2, (extern_some g input e x).2, length-drop e.took input)

      -- an import has 15 words
      fine_both : fine g input ≡ Fine (e.took + r.took) 15
      unfolding along
      fine_both = past_name ∙ ap (λ l. next l (λ t m. Fine (e.took + t) (12 + m)) e.took) (three-some g 0 (drop e.took input) r is).0

      words_both : words g input ≡ extern_words e ++ (r.a ∷ r.b ∷ r.c ∷ [])
      unfolding makes
      words_both =
          let n = extern_some g input e x in
          ap (λ l. fill g field.ExternName 0 input ++ (fill g field.Reference (0 + took l) (drop (took l) input) ++ [])) n.0
          ∙ ap (λ k. fill g field.ExternName 0 input ++ (fill g field.Reference k (drop e.took input) ++ [])) (zero-add e.took)
          ∙ ap (λ ws. ws ++ (fill g field.Reference e.took (drop e.took input) ++ [])) n.1
          ∙ ap (λ ws. extern_words e ++ (ws ++ [])) (three-some g e.took (drop e.took input) r is).1

      both : tried (Fine (e.took + r.took) 15) (17 ∷ (extern_words e ++ (r.a ∷ r.b ∷ r.c ∷ []))) row
          ≡ tried_found (shape_of 17) 17 1 g input row
      both = (λ i. tried (sym fine_both i) (17 ∷ sym words_both i) row) ∙ import-tried g input row

      -- they have no room
      pub import_wide : length row < 15 → left_tried None row ≡ tried_found (shape_of 17) 17 1 g input row
      unfolding tried roomy
      import_wide h = rw (lt-leb 15 (length row) h) at both

      -- they stand in the row
      pub import_done : (new : List ℕ) → 15 ≤ length row → new ≡ sets row 0 (17 ∷ (extern_words e ++ (r.a ∷ r.b ∷ r.c ∷ [])))
          → left_tried (Item 15 (e.took + r.took)) new ≡ tried_found (shape_of 17) 17 1 g input row
      unfolding tried roomy
      import_done new h w = ap (λ l. left_tried (Item 15 (e.took + r.took)) l) w ∙ (rw (le-leb 15 (length row) h) at both)

-- ---- the call

not_true : {P : Type 0} → false ≡ true → P
not_true e = impossible cc

-- outside the limits, for a lead of grade 1
pub call_outside-one : (f : Option Shape) (kind g : ℕ) (input row : List ℕ) → within 1 g input ≡ false
    → left_row (refusal_of (scanned_item f 1 g input)) row ≡ read_item f kind 1 g input row
unfolding within read_item scanned_item
call_outside-one f kind g input row h =
    go (ltb (2 ^ 30) (length input)) (ltb g 1) (ltb 3 g) (ltb 0 (length input)) (eqb (length input) 0) refl refl h
  where
    go : (a b c z s : Bool) → ltb 0 (length input) ≡ z → eqb (length input) 0 ≡ s
        → cond a false (cond b false (cond c false (cond b false z))) ≡ false
        → left_row
        (refusal_of
        (cond a (Bad refusal.Limit 0)
        (cond b (Bad refusal.Limit 0) (cond c (Bad refusal.Limit 0) (cond s (Bad refusal.Cut 0) (scanned_found f 1 g input))))))
        row
        ≡ cond a (left_row (read.Refused refusal.Limit 0) row)
        (cond b (left_row (read.Refused refusal.Limit 0) row)
        (cond c (left_row (read.Refused refusal.Limit 0) row)
        (cond s (left_row (read.Refused refusal.Cut 0) row) (read_found f kind 1 g input row))))
    go true b c z s ez es h = refl
    go false true c z s ez es h = refl
    go false false true z s ez es h = refl
    go false false false z true ez es h = refl
    go false false false true false ez es h = not_true (sym h)
    go false false false false false ez es h =
        let none : length input ≤ 0 = ltb-false 0 (length input) ez in
        absurd (eqb-false (length input) 0 es (omega arith))

module _ (g : ℕ) (input row : List ℕ) where
  module _ (h : within 1 g input ≡ true) where
    -- what reading once requires
    pub limits : (0 < length input) × (length input ≤ 2 ^ 30) × (1 ≤ g) × (g ≤ 3)
    limits = let k = within-limits 1 g input h in (k.4, k.0, k.1, k.2)

    module _ {x : Tried} (new : List ℕ) (t : left_tried x new ≡ tried_found (shape_of 17) 17 1 g input row) where
      same : {y : Tried} → x ≡ y → left_tried y new ≡ tried_found (shape_of 17) 17 1 g input row
      same i = ap (λ s. left_tried s new) (sym i) ∙ t

      -- an import that stands in the row is what the call answers
      pub read_some : (q e : ℕ) → x ≡ Item q e → left_row (read.Item q e) new ≡ read_import g input row
      unfolding read_import
      read_some q e i = call_done (shape_of 17) 17 1 g input row h q e new (same i)

      -- where there is none that has room, the call refuses
      pub read_none : x ≡ None → left_row (refusal_of (scanned_item (shape_of 17) 1 g input)) new ≡ read_import g input row
      unfolding read_import
      read_none i = call_not (shape_of 17) 17 1 g input row h new (same i)

  -- and so it does outside the limits
  pub read_outside : within 1 g input ≡ false
      → left_row (refusal_of (scanned_item (shape_of 17) 1 g input)) row ≡ read_import g input row
  unfolding read_import
  read_outside h = call_outside-one (shape_of 17) 17 g input row h

-- ---- an extern name by value

pub extern_inside_lem : (g : ℕ) (input : List ℕ) (e : Option Extern) → within 1 g input ≡ true → ExternTold g input e → ExternRead g input e
unfolding extern_within
extern_inside_lem g input e h x = rw h x

pub extern_outside : (g : ℕ) (input : List ℕ) → within 1 g input ≡ false → ExternRead g input None
unfolding extern_within
extern_outside g input h = rw h refl

-- one that is right takes bytes
extern_takes : (g : ℕ) (input : List ℕ) (t m : ℕ) → extern_within g input ≡ Fine t m → 0 < t
unfolding extern_within scan
extern_takes g input t m e = go (within 1 g input) e
  where
    go : (b : Bool) → cond b (scan_extern g input) (Bad refusal.Limit 0) ≡ Fine t m → 0 < t
    go true e = (scan-takes g field.ExternName input t m tt e).0
    go false e = impossible cc

-- what is told of an extern name, and its value
says-value : (l : Leaf) (ws : List ℕ) (r : Option Extern) → Says l ws r → option_map value_of_extern r ≡ value_of l ws
says-value (Ok span) ws (Some e) h = λ i. Some (h.1 i ∷ h.2 i)
says-value (Ok span) ws None h = absurd h
says-value (Err fault) ws r h = ap (option_map value_of_extern) h

value_says : (l : Leaf) (ws : List ℕ) (r : Option Extern) → ((t m : ℕ) → l ≡ Fine t m → 0 < t)
    → option_map value_of_extern r ≡ value_of l ws → Says l ws r
value_says (Ok span) ws (Some e) some q =
    let same : e.took ∷ extern_words e ≡ span.took ∷ ws = cc in
    let size : e.took ≡ span.took = ap (λ l. get_or l 0 0) same in
    (omega (arith, some span.took span.made refl, size), size, ap (λ l. drop 1 l) same)
value_says (Ok span) ws None some q = impossible cc
value_says (Err fault) ws (Some e) some q = impossible cc
value_says (Err fault) ws None some q = refl

pub read_value : (g : ℕ) (input : List ℕ) (r : Option Extern) → ExternRead g input r → option_map value_of_extern r ≡ read_extern g input
unfolding read_extern
read_value g input r h = says-value (extern_within g input) (fill_extern g 0 input) r h

pub read_says : (g : ℕ) (input : List ℕ) (r : Option Extern) → option_map value_of_extern r ≡ read_extern g input → ExternRead g input r
unfolding read_extern
read_says g input r e = value_says (extern_within g input) (fill_extern g 0 input) r (extern_takes g input) e
