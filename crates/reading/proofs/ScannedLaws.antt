-- Scanning in steps: where its walks stay, the count, the opening of a shape, and an item that passes no limit.
use Rattle.std.specs.Prelude.{Option, Err, Ok}
use Prim.Native.Nat.{ℕ, ◌+◌, ◌*◌, ◌^◌, ◌≤◌}
use native.Mathlib.Nat.{add-zero}
use native.Mathlib.Omega.{arith}
use mathlib.Core.Path.{◌≡◌, refl, sym, ap, ◌∙◌, subst}
use mathlib.Core.List.{List, [], ◌∷◌}
use lib.ListN.{length, drop, length-drop}
use lib.Seq.{drop-drop}
use borrow.Author.Tests.{le-ltb, ne_eqb}
use Rattle.numbers.specs.Integers.{u32}
use Rattle.numbers.specs.Leb.{take_unsigned}
use Rattle.numbers.specs.Taken.{Taken}
use Rattle.numbers.specs.Taken as taken
use Rattle.numbers.proofs.LebLaws.{taken-inside}
use Rattle.fields.specs.declared.Field.{Field}
use Rattle.fields.specs.declared.Refusal.{Refusal}
use Rattle.fields.specs.declared.Refusal.TheVariants.{Cut, Number}
use Rattle.fields.specs.Leaf.{Leaf, Fine, Bad}
use Rattle.fields.specs.declared.Shape.{Shape}
use Rattle.reading.specs.Fill.{index, fill}
use Rattle.fields.specs.Words.{wide}
use Rattle.reading.specs.Read.{reader, scanned_found, scanned_item}
use Rattle.reading.specs.inside.Stages.{counted_scan}
use Rattle.fields.specs.inside.Run.{along, onward, after, Under}
use Rattle.reading.specs.Scan.{scan_index, scan}
use Rattle.fields.specs.Shape.{opening, group, closing, repeated, widths}
use Rattle.fields.specs.View.{view}
use Rattle.fields.specs.Walk.{next}
use Rattle.fields.proofs.RunLaws.{under_more}
use Rattle.fields.proofs.StageLaws.{Tells, counted_is}
use Rattle.reading.proofs.ScanLaws.{Within, scan-within}
use Rattle.fields.proofs.WidthLaws.{widths-small, repeated_length}

-- ---- one field: l is what is scanned of bs

module _ (lead g : ℕ) (f : Field) (bs : List ℕ) (l : Leaf) (el : l ≡ scan lead g f bs) where
  pub one_takes : (t m : ℕ) → l ≡ Fine t m → (t ≤ length bs) × (m ≡ wide f)
  one_takes t m e = subst (λ l. Within l (length bs) (wide f)) (sym el ∙ e) (scan-within lead g f bs)

  pub one_fault : (w : Refusal) (j : ℕ) → l ≡ Bad w j → j ≤ length bs
  one_fault w j e = subst (λ l. Within l (length bs) (wide f)) (sym el ∙ e) (scan-within lead g f bs)

module _ (lead g : ℕ) (input : List ℕ) where
  -- the fields from `at` of the input on
  abbrev pub scans : List Field → ℕ → ℕ → Leaf
  scans fs at made = onward (scan lead g) input fs at made

  -- they end within n, where the input does, and make as many words as they have
  pub scans_under : (fs : List Field) (at made n : ℕ) → at ≤ n → length input ≤ n → Under (scans fs at made) n (made + widths fs)
  unfolding along widths
  scans_under [] at made n h k = (h, omega arith)
  scans_under (f ∷ fs) at made n h k =
      go (scan lead g f (drop at input)) (scan-within lead g f (drop at input)) (λ t m b. scans_under fs (at + t) (made + m) n b k)
    where
      go : (l : Leaf) → Within l (length (drop at input)) (wide f)
          → ((t m : ℕ) → at + t ≤ n → Under (scans fs (at + t) (made + m)) n (made + m + widths fs))
          → Under (next l (λ t m. along (scan lead g) fs (drop t (drop at input)) (at + t) (made + m)) at) n (made + (wide f + widths fs))
      go (Ok span) w ih =
          let size = length-drop at input in
          rw (drop-drop span.took at input)
          (under_more (scans fs (at + span.took) (made + span.made)) _ _ _ _ (ih span.took span.made (omega arith)) (omega arith) (omega arith))
      go (Err fault) b ih = tt

  -- fields after what was scanned before them: each makes 11 words at most
  pub after_under : (so : Leaf) (fs : List Field) (l : Leaf) → l ≡ after so (scans fs) → (n b d : ℕ) → length input ≤ n → Under so n b
      → b + 11 * length fs ≤ d → Under l n d
  after_under so fs l e n b d k u q = subst (λ l. Under l n d) (sym e) (go so u)
    where
      go : (so : Leaf) → Under so n b → Under (after so (scans fs)) n d
      go (Ok span) u =
          let w = widths-small fs in
          under_more (scans fs span.took span.made) _ _ _ _ (scans_under fs span.took span.made n (omega arith) k) (omega arith) (omega arith)
      go (Err fault) u = tt

  -- n groups make 22 words each at most
  pub groups_under : (s : Shape) (n at made : ℕ) (l : Leaf) → l ≡ scans (repeated n (group s)) at made → at ≤ length input
      → Under l (length input) (made + 22 * n)
  groups_under s n at made l e h =
      let w = widths-small (repeated n (group s)) in
      let k = repeated_length (group s) n in
      subst (λ l. Under l (length input) (made + 22 * n)) (sym e)
      (under_more (scans (repeated n (group s)) at made) _ _ _ _ (scans_under (repeated n (group s)) at made (length input) h (omega arith))
      (omega arith) (omega arith))

  -- one group of a loop over groups
  pub group_under : (a b : Field) (at made : ℕ) (l : Leaf) → l ≡ scans (a ∷ b ∷ []) at made → at ≤ length input
      → (next words : ℕ) → l ≡ Fine next words → (next ≤ length input) × (words ≤ made + 22)
  group_under a b at made l e h next words f =
      subst (λ l. Under l (length input) (made + 22)) f
      (after_under (Fine at made) (a ∷ b ∷ []) l e (length input) made (made + 22) (omega arith) (h, omega arith) (omega arith))

  -- ---- the count, of which x is what was taken from bs, at `at` of the input

  module _ (s : Shape) (at made : ℕ) (bs : List ℕ) (here : bs ≡ drop at input) (x : Taken) (ex : x ≡ take_unsigned bs) where
    first : take_unsigned (drop at input) ≡ x
    first = ap take_unsigned (sym here) ∙ sym ex

    pub count_inside : at ≤ length input → (n t : ℕ) → x ≡ taken.Value n t → at + t ≤ length input
    count_inside h n t e =
        let k = (taken-inside u32 (drop at input) n t (first ∙ e)).2 in
        omega (arith, length-drop at input)

    pub counted_value : (n t : ℕ) → x ≡ taken.Value n t → (l : Leaf) → l ≡ scans (repeated n (group s)) (at + t) (made + 1)
        → (r : Leaf) → r ≡ after l (scans (closing s)) → r ≡ counted_scan lead g s input at made
    unfolding scan scan_index
    counted_value n t e l el r er =
        rw (first, e) (counted_is (scan lead g) input s n at made t 1 (rw (first, e)) l el r er)

    pub counted_cut : at ≤ length input → x ≡ taken.Cut → Bad Cut (length input) ≡ counted_scan lead g s input at made
    unfolding along scan scan_index
    counted_cut h e =
        let q : length input ≡ at + length (drop at input) = omega (arith, length-drop at input) in
        rw (first, e) (ap (λ n. Bad Cut n) q)

    pub counted_bad : x ≡ taken.Bad → Bad Number at ≡ counted_scan lead g s input at made
    unfolding along scan scan_index
    counted_bad e = rw (first, e, add-zero at)

  -- ---- the stages of a shape

  -- the count at a place is the number there
  pub tells : Tells (reader lead g input) input (λ at. index (drop at input))
  unfolding view fill
  tells = record { told = λ at. refl }

  -- what is scanned of the opening
  module _ (s : Shape) (l : Leaf) (el : l ≡ scans (opening s) 0 1) where
    -- it ends within the input, with 45 words at most
    pub opening_under : Under l (length input) 45
    opening_under = after_under (Fine 0 1) (opening s) l el (length input) 1 45 (omega arith) (omega arith, omega arith) (omega arith)

    pub opening_ends : (at made : ℕ) → l ≡ Fine at made → (at ≤ length input) × (made ≤ 2 ^ 39)
    opening_ends at made e = let u = subst (λ l. Under l (length input) 45) e opening_under in (omega arith, omega arith)

-- ---- an item that passes no limit is what its shape says

pub scanned-item : (found : Option Shape) (lead g : ℕ) (input : List ℕ) → length input ≤ 2 ^ 30 → 1 ≤ g → g ≤ 3 → (length input ≡ 0 → ⊥)
    → scanned_item found lead g input ≡ scanned_found found lead g input
unfolding scanned_item
scanned-item found lead g input small low high some =
    simp (le-ltb _ _ small, le-ltb _ _ low, le-ltb _ _ high, ne_eqb (length input) 0 some)
