-- The words of an item: how many a field fills, and that a walk counts them and ends inside the input.
use Rattle.std.specs.Prelude.{Err, Ok}
use Prim.Native.Nat.{ℕ, ◌+◌, ◌≤◌}
use native.Mathlib.Omega.{arith}
use mathlib.Core.Path.{◌≡◌, refl, sym, ap, ◌∙◌, subst}
use mathlib.Core.Bool.{Bool, true, false, cond}
use mathlib.Core.List.{List, [], ◌∷◌, ◌++◌, append-nil}
use lib.Dec.{eqb, ltb}
use lib.ListN.{length, drop, length-append}
use lib.Seq.{drop-drop}
use Rattle.numbers.specs.Leb.{take_signed}
use Rattle.fields.specs.declared.Field.{Field}
use Rattle.fields.specs.declared.Field.TheVariants as field
use Rattle.fields.specs.Leaf.{Leaf, Fine}
use Rattle.reading.specs.Fill.{value_in, index, primitive, fill_value, fill_optional, fill_name, fill_slot, fill_slots, fill_extern, fill_reference, fill, fill_sort_index}
use Rattle.fields.specs.Words.{wide}
use Rattle.fields.specs.inside.Run.{along, makes, Under}
use Rattle.reading.specs.Scan.{byte, head_scan, first_scan, second_scan, scan}
use Rattle.fields.specs.Shape.{widths}
use Rattle.fields.specs.Walk.{next, took}
use Rattle.reading.proofs.ScanLaws.{Within, scan-within}
use Rattle.reading.proofs.ScannedLaws.{scans, scans_under}
use Rattle.fields.proofs.OutcomeLaws.{fine-same}
use Rattle.numbers.proofs.Impossible.{impossible}

-- ---- how many words a field fills

cond-length : (b : Bool) (x y : List ℕ) (n : ℕ) → length x ≡ n → length y ≡ n → length (cond b x y) ≡ n
cond-length true x y n h k = h
cond-length false x y n h k = k

value_length : (bs : List ℕ) → length (fill_value bs) ≡ 2
unfolding fill_value
value_length bs =
    let rest : List ℕ = cond (ltb (byte bs 0) 0x80) (0 ∷ primitive (byte bs 0) ∷ []) (1 ∷ value_in (take_signed bs) ∷ []) in
    cond-length (ltb (byte bs 0) 0x40) (1 ∷ byte bs 0 ∷ []) rest 2 refl
    (cond-length (ltb (byte bs 0) 0x80) (0 ∷ primitive (byte bs 0) ∷ []) (1 ∷ value_in (take_signed bs) ∷ []) 2 refl refl)

optional-length : (present : ℕ) (bs : List ℕ) → length (fill_optional present bs) ≡ 2
unfolding fill_optional
optional-length present bs = cond-length (eqb (byte bs 0) present) (fill_value (drop 1 bs)) (2 ∷ 0 ∷ []) 2 (value_length (drop 1 bs)) refl

slot-length : (k at : ℕ) (bs : List ℕ) (l : Leaf) → length (fill_slot k at bs l) ≡ 3
unfolding fill_slot fill_name
slot-length k at bs (Ok span) =
    let none : List ℕ = 0 ∷ 0 ∷ 0 ∷ [] in
    let some : List ℕ = 1 ∷ fill_name at bs (span.took + 1) in
    cond-length (eqb span.made 0) none (cond (eqb (byte bs span.took) k) some none) 3 refl (cond-length (eqb (byte bs span.took) k) some none 3 refl refl)
slot-length k at bs (Err fault) = refl

extern_length : (g at : ℕ) (bs : List ℕ) → length (fill_extern g at bs) ≡ 11
unfolding fill_extern fill_slots fill_name
extern_length g at bs =
    let one = fill_slot 0x00 at bs (head_scan g bs) in
    let two = fill_slot 0x01 at bs (first_scan g bs) in
    let three = fill_slot 0x02 at bs (second_scan g bs) in
    omega (
      arith,
      length-append one (two ++ three),
      length-append two three,
      slot-length 0x00 at bs (head_scan g bs),
      slot-length 0x01 at bs (first_scan g bs),
      slot-length 0x02 at bs (second_scan g bs),
    )

reference-length : (bs : List ℕ) → length (fill_reference bs) ≡ 3
unfolding fill_reference
reference-length bs =
    let bound : List ℕ = 3 ∷ cond (eqb (byte bs 1) 0) (0 ∷ index (drop 2 bs) ∷ []) (1 ∷ 0 ∷ []) in
    let plain : List ℕ = byte bs 0 ∷ index (drop 1 bs) ∷ 0 ∷ [] in
    let third : List ℕ = cond (eqb (byte bs 0) 3) bound plain in
    let second : List ℕ = cond (eqb (byte bs 0) 2) (2 ∷ fill_value (drop 1 bs)) third in
    cond-length (eqb (byte bs 0) 0) (0 ∷ index (drop 2 bs) ∷ 0 ∷ []) second 3 refl
    (cond-length (eqb (byte bs 0) 2) (2 ∷ fill_value (drop 1 bs)) third 3 (omega (arith, value_length (drop 1 bs)))
    (cond-length (eqb (byte bs 0) 3) bound plain 3
    (omega (arith, cond-length (eqb (byte bs 1) 0) (0 ∷ index (drop 2 bs) ∷ []) (1 ∷ 0 ∷ []) 2 refl refl)) refl))

pub fill-length : (g : ℕ) (f : Field) (at : ℕ) (bs : List ℕ) → length (fill g f at bs) ≡ wide f
unfolding fill fill_name fill_sort_index wide
fill-length g field.Nothing at bs = refl
fill-length g (field.Fixed b) at bs = refl
fill-length g field.Primitive at bs = refl
fill-length g field.Value at bs = value_length bs
fill-length g field.Optional at bs = optional-length 0x01 bs
fill-length g field.OptionalThenZero at bs = optional-length 0x01 bs
fill-length g field.Result at bs = optional-length 0x00 bs
fill-length g field.Name at bs = refl
fill-length g field.Index at bs = refl
fill-length g field.Async at bs = refl
fill-length g field.Flag at bs = refl
fill-length g field.Rep at bs = refl
fill-length g field.OptionalIndex at bs = cond-length (eqb (byte bs 0) 0x00) (0 ∷ 0 ∷ []) (1 ∷ index (drop 1 bs) ∷ []) 2 refl refl
fill-length g field.Choice at bs = refl
fill-length g field.ExternName at bs = extern_length g at bs
fill-length g field.Reference at bs = reference-length bs
fill-length g field.Argument at bs = refl
fill-length g field.CoreSortIndex at bs = refl
fill-length g field.SortIndex at bs = refl

module _ (lead g : ℕ) (input : List ℕ) where
  -- the words of the fields from `at` of the input on
  abbrev pub fills : List Field → ℕ → List ℕ
  fills fs at = makes (scan lead g) (fill g) fs at (drop at input)

  -- a walk that ends counts them
  pub fills_count : (fs : List Field) (at to a m : ℕ) → scans lead g input fs at to ≡ Fine a m → m ≡ to + length (fills fs at)
  unfolding along makes
  fills_count [] at to a m e = let q : to ≡ m = (fine-same e).1 in omega arith
  fills_count (f ∷ fs) at to a m e =
      go (scan lead g f (drop at input)) (scan-within lead g f (drop at input)) e (λ t k. fills_count fs (at + t) (to + k) a m)
    where
      go : (l : Leaf) → Within l (length (drop at input)) (wide f)
          → next l (λ t k. along (scan lead g) fs (drop t (drop at input)) (at + t) (to + k)) at ≡ Fine a m
          → ((t k : ℕ) → scans lead g input fs (at + t) (to + k) ≡ Fine a m → m ≡ to + k + length (fills fs (at + t)))
          → m ≡ to + length (fill g f at (drop at input) ++ makes (scan lead g) (fill g) fs (at + took l) (drop (took l) (drop at input)))
      go (Ok span) w e ih =
          let h = ih span.took span.made (ap (λ l. along (scan lead g) fs l (at + span.took) (to + span.made)) (sym (drop-drop span.took at input)) ∙ e) in
          rw (drop-drop span.took at input)
          (omega (arith, w.1, fill-length g f at (drop at input), length-append (fill g f at (drop at input)) (fills fs (at + span.took))))
      go (Err fault) b e ih = impossible cc

  -- a walk ends inside the input
  pub scans_inside : (fs : List Field) (at to a m : ℕ) → at ≤ length input → scans lead g input fs at to ≡ Fine a m → a ≤ length input
  scans_inside fs at to a m h e =
      let u = subst (λ l. Under l (length input) (to + widths fs)) e (scans_under lead g input fs at to (length input) h (omega arith)) in
      u.0

  -- one field
  pub one_fills : (f : Field) (at : ℕ) (bs : List ℕ) → bs ≡ drop at input → fill g f at bs ≡ fills (f ∷ []) at
  unfolding makes
  one_fills f at bs here = ap (λ l. fill g f at l) here ∙ sym (append-nil (fill g f at (drop at input)))
