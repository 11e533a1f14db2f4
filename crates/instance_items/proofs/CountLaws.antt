-- Instances read in straight code: the count, its groups and what stands before them, from the steps and shapes of `reading`.
use Rattle.std.specs.Prelude.{Err, Ok, Option, Some, None}
use Prim.Native.Nat.{ℕ, zero, suc, ◌+◌, ◌*◌, ◌≤◌, ◌<◌, ◌^◌}
use native.Mathlib.Omega.{arith}
use native.Mathlib.Nat.{add-zero, mul-le-mul}
use mathlib.Core.Path.{◌≡◌, refl, sym, ap, ◌∙◌, subst}
use mathlib.Core.Bool.{Bool, true, false, cond}
use mathlib.Core.List.{List, [], ◌∷◌, ◌++◌, append-nil}
use lib.Dec.{ltb, leb}
use lib.ListN.{length, take, drop, set, length-drop}
use lib.Seq.{sets, drop-drop}
use borrow.Author.Tests.{lt-leb, le-ltb, eq-eqb, ne_eqb, leb-true, ltb-false}
use Rattle.numbers.specs.declared.leb.Number.{Number}
use Rattle.numbers.specs.Taken.{Taken}
use Rattle.numbers.specs.Taken as taken
use Rattle.numbers.specs.Leb.{take_unsigned}
use Rattle.numbers.specs.Seen.{seen}
use Rattle.numbers.proofs.SeenLaws.{seen_none}
use Rattle.fields.specs.declared.Field.{Field}
use Rattle.fields.specs.declared.Field.TheVariants as field
use Rattle.fields.specs.Leaf.{Leaf, Fine, Bad}
use Rattle.fields.specs.declared.Refusal.{Refusal}
use Rattle.fields.specs.declared.Refusal.TheVariants as refusal
use Rattle.fields.specs.declared.Shape.{Shape}
use Rattle.fields.specs.inside.Run.{along, makes, after}
use Rattle.fields.specs.inside.Stages.{counted_fields}
use Rattle.fields.specs.Words.{wide}
use Rattle.fields.specs.Shape.{opening, group, closing, repeated, widths}
use Rattle.fields.proofs.RunLaws.{makes-append}
use Rattle.fields.proofs.StageLaws.{walk_bad, walk_counted, outs_staged}
use Rattle.fields.proofs.WidthLaws.{repeated_widths, wide-small}
use Rattle.reading.specs.Fill.{index, fill}
use Rattle.reading.specs.Read.{scanned, filled}
use Rattle.reading.specs.Scan.{byte, scan, scan_index}
use Rattle.reading.specs.Seen.{roomy}
use Rattle.reading.specs.inside.Try as answer
use Rattle.reading.specs.inside.Stages.{counted_scan, counted_fill}
use Rattle.reading.specs.inside.Steps.{scans, fills, end_of}
use Rattle.reading.specs.inside.Tried.{LeftTried, left_tried, tried, tried_found}
use Rattle.reading.proofs.LeafLaws.{index_seen}
use Rattle.reading.proofs.ScannedLaws.{tells}
use Rattle.reading.proofs.StepLaws.{Wrong, end_fine, end_wrong}
use Rattle.reading.proofs.TriedLaws.{counted_none, counted_some, counted_words, many_scanned, many_filled}
use Rattle.instance_items.specs.inside.Group.{group_one, group_two, group_of, counted_of, instantiate_of, exports_of, shape_by}
use Rattle.numbers.proofs.Impossible.{impossible}

-- ---- what is not right, and what has room

tried-wrong : (l : Leaf) (ws row : List ℕ) → Wrong l → left_tried None row ≡ tried l ws row
unfolding tried
tried-wrong (Ok span) ws row h = absurd h
tried-wrong (Err fault) ws row h = refl

tried_cramped : (e q : ℕ) (ws row : List ℕ) → roomy q (length row) ≡ false → left_tried None row ≡ tried (Fine e q) ws row
unfolding tried
tried_cramped e q ws row h = rw h

tried-stored : (e q : ℕ) (ws row : List ℕ) → roomy q (length row) ≡ true → left_tried (answer.Item q e) (sets row 0 ws) ≡ tried (Fine e q) ws row
unfolding tried
tried-stored e q ws row h = rw h

after-wrong : (l : Leaf) (k : ℕ → ℕ → Leaf) → Wrong l → Wrong (after l k)
after-wrong (Ok span) k h = absurd h
after-wrong (Err fault) k h = tt

scans_nothing : (g : ℕ) (input : List ℕ) (at made : ℕ) → scans g input (field.Nothing ∷ []) at made ≡ Fine at made
unfolding along scan
scans_nothing g input at made = rw (add-zero at, add-zero made)

pub room_fits : (q n : ℕ) → roomy q n ≡ true → (q ≤ 16384) × (q ≤ n)
unfolding roomy
room_fits q n h = go (ltb 16384 q) (leb q n) refl refl h
  where
    go : (a b : Bool) → ltb 16384 q ≡ a → leb q n ≡ b → cond a false b ≡ true → (q ≤ 16384) × (q ≤ n)
    go true b ea eb h = impossible cc
    go false true ea eb h = (ltb-false 16384 q ea, leb-true q n eb)
    go false false ea eb h = impossible cc

-- a group has few words
pub group-words : (kind n w v : ℕ) → w ≡ wide (group_one kind) → v ≡ wide (group_two kind) → n < 2 ^ 32 → n * (w + v) ≤ 2 ^ 32 * 22
group-words kind n w v e d h =
    mul-le-mul {n₂ = 2 ^ 32} {m₂ = 22} (omega arith) (omega (arith, e, d, wide-small (group_one kind), wide-small (group_two kind)))

pub group_sum : (kind w v : ℕ) → w ≡ wide (group_one kind) → v ≡ wide (group_two kind) → w + v ≡ widths (group_of kind)
unfolding widths
group_sum kind w v e d = omega (arith, e, d)

-- the kind, an index, the count and words, one after the other: the count goes over the index where there is none
set-over : (l : List ℕ) (a b : ℕ) → set (set l 1 a) 1 b ≡ set l 1 b
set-over [] a b = refl
set-over (x ∷ []) a b = refl
set-over (x ∷ y ∷ l) a b = refl

front : (base kind index n : ℕ) (ws row : List ℕ) → 1 ≤ base → base ≤ 2
    → sets (set (set (set row 0 kind) 1 index) base n) (base + 1) ws ≡ sets row 0 (take base (kind ∷ index ∷ []) ++ (n ∷ ws))
front zero kind index n ws row h k = absurd (omega arith)
front (suc zero) kind index n ws row h k = ap (λ (l : List ℕ). sets l 2 ws) (set-over (set row 0 kind) index n)
front (suc (suc zero)) kind index n ws row h k = refl
front (suc (suc (suc m))) kind index n ws row h k = absurd (omega arith)

-- ---- what is counted

module _ (g at : ℕ) (input : List ℕ) where
  -- no count
  pub count_cut : None ≡ seen (take_unsigned (drop at input)) → (s : Shape) (made : ℕ) (ws row : List ℕ)
      → left_tried None row ≡ tried (counted_scan 1 g s input at made) ws row
  count_cut none s made ws row =
      let k = counted_none 1 g s input at made (seen_none (take_unsigned (drop at input)) (sym none)) in
      tried-wrong _ ws row (subst Wrong (sym k.2) tt)

  module _ (count : Number) (is : Some count ≡ seen (take_unsigned (drop at input))) where
    -- the count, which has few bytes
    pub count_seen : (take_unsigned (drop at input) ≡ taken.Value count.value count.took) × (0 < count.took) × (count.took ≤ 5)
        × (count.took ≤ length (drop at input)) × (count.value < 2 ^ 32)
    count_seen = index_seen (drop at input) count is

    -- its end lies inside the input
    pub count_inside : at ≤ length input → at + count.took ≤ length input
    count_inside h = omega (arith, count_seen.3, length-drop at input)

    module _ (s : Shape) (made : ℕ) where
      abbrev ends : Option ℕ
      ends = end_of (scans g input (repeated count.value (group s)) (at + count.took) 0)

      groups_wrong : (ws row : List ℕ) → ends ≡ None → left_tried None row ≡ tried (counted_scan 1 g s input at made) ws row
      groups_wrong ws row e =
          let fs = repeated count.value (group s) in
          let wrong : Wrong (scans g input fs (at + count.took) (made + 1)) =
          end_wrong g input fs (at + count.took) (made + 1) e in
          tried-wrong (counted_scan 1 g s input at made) ws row
          (subst Wrong (sym (counted_some 1 g s input at made count.value count.took count_seen.0))
          (after-wrong (scans g input fs (at + count.took) (made + 1)) (λ b k. along (scan 1 g) (closing s) (drop b input) b k) wrong))

      groups_right : (end : ℕ) → ends ≡ Some end
          → counted_scan 1 g s input at made ≡ scans g input (closing s) end (made + 1 + count.value * widths (group s))
      groups_right end e =
          counted_some 1 g s input at made count.value count.took count_seen.0
          ∙ ap (λ l. after l (λ b k. along (scan 1 g) (closing s) (drop b input) b k))
          (end_fine g input (repeated count.value (group s)) (at + count.took) (made + 1) end e)
          ∙ ap (λ w. scans g input (closing s) end (made + 1 + w)) (repeated_widths (group s) count.value)

      groups_filled : (end : ℕ) → ends ≡ Some end
          → counted_fill 1 g s input at
          ≡ count.value ∷ (fills g input (repeated count.value (group s)) (at + count.took) ++ fills g input (closing s) end)
      groups_filled end e =
          counted_words 1 g s input at count.value count.took count_seen.0
          ∙ ap (λ ws. count.value ∷ ws)
          (makes-append (scan 1 g) (fill g) (repeated count.value (group s)) (closing s) input (at + count.took) 0 end _
          (end_fine g input (repeated count.value (group s)) (at + count.took) 0 end e))

    -- behind a kind and, where base is 2, an index
    module _ (kind index base : ℕ) where
      abbrev leaf : Leaf
      leaf = counted_scan 1 g (counted_of kind) input at base

      abbrev words_so_far : List ℕ
      words_so_far = take base (kind ∷ index ∷ []) ++ counted_fill 1 g (counted_of kind) input at

      pub counted_wrong : (row : List ℕ) → None ≡ end_of (scans g input (repeated count.value (group_of kind)) (at + count.took) 0)
          → left_tried None row ≡ tried leaf words_so_far row
      counted_wrong row e = groups_wrong (counted_of kind) base _ row (sym e)

      module _ (end words : ℕ) (ended : Some end ≡ end_of (scans g input (repeated count.value (group_of kind)) (at + count.took) 0))
          (sum : words ≡ base + 1 + count.value * widths (group_of kind)) where
        counted_leaf : leaf ≡ Fine end words
        counted_leaf =
            groups_right (counted_of kind) base end (sym ended)
            ∙ scans_nothing g input _ _
            ∙ ap (λ n. Fine end n) (sym sum)

        counted_row : counted_fill 1 g (counted_of kind) input at
            ≡ count.value ∷ fills g input (repeated count.value (group_of kind)) (at + count.took)
        unfolding makes fill
        counted_row =
            groups_filled (counted_of kind) base end (sym ended)
            ∙ ap (λ ws. count.value ∷ ws) (append-nil (fills g input (repeated count.value (group_of kind)) (at + count.took)))

        pub counted_cramped : (row : List ℕ) → roomy words (length row) ≡ false → left_tried None row ≡ tried leaf words_so_far row
        counted_cramped row r = tried_cramped end words _ row r ∙ ap (λ l. tried l words_so_far row) (sym counted_leaf)

        pub counted_done : 1 ≤ base → base ≤ 2 → (row new : List ℕ) → roomy words (length row) ≡ true
            → new ≡ sets (set (set (set row 0 kind) 1 index) base count.value) (base + 1)
            (fills g input (repeated count.value (group_of kind)) (at + count.took))
            → left_tried (answer.Item words end) new ≡ tried leaf words_so_far row
        counted_done low high row new r e =
            let ws = fills g input (repeated count.value (group_of kind)) (at + count.took) in
            let all = take base (kind ∷ index ∷ []) ++ (count.value ∷ ws) in
            ap (λ l. left_tried (answer.Item words end) l) (e ∙ front base kind index count.value ws row low high)
            ∙ tried-stored end words all row r
            ∙ ap (λ l. tried l all row) (sym counted_leaf)
            ∙ ap (λ l. tried leaf (take base (kind ∷ index ∷ []) ++ l) row) (sym counted_row)

-- ---- 00 and an index, and what is counted behind them

module _ (kind g : ℕ) (input : List ℕ) (some : 0 < length input) (first : byte input 0 ≡ 0) (low : 1 ≤ g) where
  lead_is : scan 1 g (field.Fixed 0) input ≡ Fine 1 0
  unfolding scan
  lead_is = simp (lt-leb (length input) 0 some, eq-eqb (byte input 0) 0 first, le-ltb g 1 low)

  -- where no index is taken, it is not right
  opens_bad : ((n t : ℕ) → take_unsigned (drop 1 input) ≡ taken.Value n t → ⊥)
      → (w : Refusal) × (j : ℕ) × (along (scan 1 g) (opening (instantiate_of kind)) input 0 1 ≡ Bad w j)
  unfolding along scan scan_index
  opens_bad h = go (take_unsigned (drop 1 input)) refl
    where
      go : (x : Taken) → take_unsigned (drop 1 input) ≡ x
          → (w : Refusal) × (j : ℕ) × (along (scan 1 g) (opening (instantiate_of kind)) input 0 1 ≡ Bad w j)
      go (Ok got) e = absurd (h got.value got.took e)
      go taken.Cut e = (refusal.Cut, 1 + length (drop 1 input), rw (lead_is, e))
      go taken.Bad e = (refusal.Number, 1 + 0, rw (lead_is, e))

  pub instantiate_cut : (row : List ℕ) → None ≡ seen (take_unsigned (drop 1 input))
      → left_tried None row ≡ tried_found (Some (instantiate_of kind)) kind 1 g input row
  instantiate_cut row none =
      let k = opens_bad (seen_none (take_unsigned (drop 1 input)) (sym none)) in
      tried-wrong (scanned 1 g (instantiate_of kind) input) (filled kind 1 g (instantiate_of kind) input) row
      (subst Wrong (walk_bad (tells 1 g input) (instantiate_of kind) 0 1 (Bad k.0 k.1) (sym k.2) k.0 k.1 refl) tt)

  module _ (x : Number) (is : Some x ≡ seen (take_unsigned (drop 1 input))) where
    index_is : take_unsigned (drop 1 input) ≡ taken.Value x.value x.took
    index_is = (index_seen (drop 1 input) x is).0

    opens : along (scan 1 g) (opening (instantiate_of kind)) input 0 1 ≡ Fine (1 + x.took) 2
    unfolding along scan scan_index
    opens = rw (lead_is, index_is, add-zero (1 + x.took))

    opens_scanned : scanned 1 g (instantiate_of kind) input ≡ counted_scan 1 g (counted_of kind) input (1 + x.took) 2
    opens_scanned =
        sym
        (walk_counted (tells 1 g input) (instantiate_of kind) 0 1 (Fine (1 + x.took) 2) (sym opens) (1 + x.took) 2 refl refl
        (counted_scan 1 g (instantiate_of kind) input (1 + x.took) 2) refl)

    opens_makes : (fs : List Field)
        → makes (scan 1 g) (fill g) (opening (instantiate_of kind) ++ fs) 0 input
        ≡ x.value ∷ makes (scan 1 g) (fill g) fs (1 + x.took) (drop (1 + x.took) input)
    unfolding makes fill scan scan_index
    opens_makes fs = rw (lead_is, index_is, drop-drop x.took 1 input, add-zero (1 + x.took))

    opens_filled : filled kind 1 g (instantiate_of kind) input
        ≡ kind ∷ x.value ∷ counted_fill 1 g (counted_of kind) input (1 + x.took)
    opens_filled =
        ap (λ ws. kind ∷ ws)
        (outs_staged (tells 1 g input) (instantiate_of kind) 0 1 (1 + x.took) 2 opens
        ∙ opens_makes (counted_fields (instantiate_of kind) (index (drop (1 + x.took) input))))

    pub instantiate_as : (row : List ℕ) {l : LeftTried}
        → l ≡ tried (counted_scan 1 g (counted_of kind) input (1 + x.took) 2)
        (take 2 (kind ∷ x.value ∷ []) ++ counted_fill 1 g (counted_of kind) input (1 + x.took)) row
        → l ≡ tried_found (Some (instantiate_of kind)) kind 1 g input row
    instantiate_as row e = e ∙ (λ i. tried (sym opens_scanned i) (sym opens_filled i) row)

-- 01, and what is counted
pub exports_as : (kind g : ℕ) (input row : List ℕ) → 0 < length input → byte input 0 ≡ 1 → 1 ≤ g → {l : LeftTried}
    → l ≡ tried (counted_scan 1 g (counted_of kind) input 1 1) (take 1 (kind ∷ 0 ∷ []) ++ counted_fill 1 g (counted_of kind) input 1) row
    → l ≡ tried_found (Some (exports_of kind)) kind 1 g input row
exports_as kind g input row some first low e =
    let s = many_scanned 1 g 1 (group_one kind) (group_two kind) input some first low in
    let f = many_filled 1 g 1 (group_one kind) (group_two kind) input some first low kind in
    e ∙ (λ i. tried (sym s i) (sym f i) row)

-- ---- the shape of a kind

pub kind_as : (k kind g : ℕ) (input row : List ℕ) {l : LeftTried} → kind ≡ k → l ≡ tried_found (shape_by k) k 1 g input row
    → l ≡ tried_found (shape_by kind) kind 1 g input row
kind_as k kind g input row e h = h ∙ ap (λ (n : ℕ). tried_found (shape_by n) n 1 g input row) (sym e)

pub shape_18 : shape_by 18 ≡ Some (instantiate_of 18)
unfolding shape_by
shape_18 = refl

pub shape_19 : shape_by 19 ≡ Some (instantiate_of 19)
unfolding shape_by
shape_19 = refl

pub shape_20 : shape_by 20 ≡ Some (exports_of 20)
unfolding shape_by
shape_20 = refl

pub shape_21 : shape_by 21 ≡ Some (exports_of 21)
unfolding shape_by
shape_21 = refl

pub shape_none : (kind g : ℕ) (input row : List ℕ) → (kind ≡ 18 → ⊥) → (kind ≡ 19 → ⊥) → (kind ≡ 20 → ⊥) → (kind ≡ 21 → ⊥)
    → left_tried None row ≡ tried_found (shape_by kind) kind 1 g input row
unfolding shape_by
shape_none kind g input row a b c d = simp (ne_eqb kind 18 a, ne_eqb kind 19 b, ne_eqb kind 20 c, ne_eqb kind 21 d)
