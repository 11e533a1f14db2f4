-- From what reading by the first byte leaves to what `types::read` answers, within the limits and outside.
use Rattle.std.specs.Prelude.{None, Some, Option}
use Rattle.fields.specs.declared.Shape.{Shape}
use Prim.Native.Nat.{ℕ, ◌≤◌, ◌<◌, ◌^◌}
use native.Mathlib.Omega.{arith}
use mathlib.Core.Path.{◌≡◌, refl, sym, ap, ◌∙◌, subst}
use mathlib.Core.Logic.{◌⊎◌, inl, inr}
use mathlib.Core.Bool.{Bool, true, false, cond}
use mathlib.Core.List.{List}
use borrow.Author.Tests.{ltb-false}
use lib.Dec.{eqb, ltb}
use lib.ListN.{length, get_or}
use Rattle.fields.specs.declared.Field.{Field}
use Rattle.fields.specs.declared.Field.TheVariants as field
use Rattle.fields.specs.declared.Site.{Site}
use Rattle.fields.specs.declared.Site.TheVariants.{TypeLead}
use Rattle.fields.specs.Grades as grades
use Rattle.fields.specs.Grades.{grade_of, fixed_byte}
use Rattle.fields.specs.Leaf.{Fine, Bad}
use Rattle.fields.specs.Read as read
use Rattle.fields.specs.declared.Refusal.TheVariants as refusal
use Rattle.fields.specs.Answers.{left_row}
use Rattle.reading.specs.Read.{read_found, read_item, scanned_found, scanned_item, refusal_of}
use Rattle.reading.specs.inside.Try.{Tried, Item}
use Rattle.reading.specs.Seen.{within}
use Rattle.reading.specs.inside.Tried.{left_tried, tried_found}
use Rattle.reading.proofs.TriedLaws.{within-limits, call_done, call_not, call_outside, lead_newer}
use Rattle.items.specs.ReadType.{kind_of, lead_grade, read_type}
use Rattle.types.specs.Write.{shape_of}
use Rattle.numbers.proofs.Impossible.{impossible}

-- a field is a fixed byte, or begins with none
lead_is : (l : Field) → ((b : ℕ) × (l ≡ field.Fixed b)) ⊎ (fixed_byte l ≡ 0)
lead_is field.Nothing = inr refl
lead_is (field.Fixed b) = inl (b, refl)
lead_is field.Primitive = inr refl
lead_is field.Value = inr refl
lead_is field.Optional = inr refl
lead_is field.OptionalThenZero = inr refl
lead_is field.Result = inr refl
lead_is field.Name = inr refl
lead_is field.Index = inr refl
lead_is field.Async = inr refl
lead_is field.Flag = inr refl
lead_is field.Rep = inr refl
lead_is field.OptionalIndex = inr refl
lead_is field.Choice = inr refl
lead_is field.ExternName = inr refl
lead_is field.Reference = inr refl
lead_is field.Argument = inr refl
lead_is field.CoreSortIndex = inr refl
lead_is field.SortIndex = inr refl

-- an item whose lead is above the grade is not whole
pub lead_none : (site : Site) → grade_of site 0 ≡ 1 → (f : Option Shape) (g : ℕ) (input : List ℕ) → 1 ≤ g → g < grades.lead_grade site f → (e q : ℕ)
    → scanned_found f (grades.lead_grade site f) g input ≡ Fine e q → ⊥
lead_none site base None g input low h e q is = impossible cc
lead_none site base (Some s) g input low h e q is = go (lead_is s.lead)
  where
    go : ((b : ℕ) × (s.lead ≡ field.Fixed b)) ⊎ (fixed_byte s.lead ≡ 0) → ⊥
    go (inl (b, p)) = lead_newer (grades.lead_grade site (Some s)) g b s input p h e q is
    go (inr z) = let x : g < 1 = subst (λ n. g < n) (ap (grade_of site) z ∙ base) h in absurd (omega (arith, x, low))

newer_none : (k g : ℕ) (input : List ℕ) → 1 ≤ g → g < lead_grade k → (e q : ℕ)
    → scanned_found (shape_of k) (lead_grade k) g input ≡ Fine e q → ⊥
unfolding lead_grade
newer_none k g input low h e q is = lead_none TypeLead refl (shape_of k) g input low h e q is

-- a grade below 1
no_grade : (f : Option Shape) (k lead g : ℕ) (input row : List ℕ) → ltb g 1 ≡ true
    → left_row (refusal_of (scanned_item f lead g input)) row ≡ read_item f k lead g input row
unfolding read_item scanned_item
no_grade f k lead g input row e = go (ltb (2 ^ 30) (length input)) (ltb g 1) e
  where
    go : (a b : Bool) → b ≡ true
        → left_row
        (refusal_of
        (cond a (Bad refusal.Limit 0)
        (cond b (Bad refusal.Limit 0)
        (cond (ltb 3 g) (Bad refusal.Limit 0) (cond (eqb (length input) 0) (Bad refusal.Cut 0) (scanned_found f lead g input))))))
        row
        ≡ cond a (left_row (read.Refused refusal.Limit 0) row)
        (cond b (left_row (read.Refused refusal.Limit 0) row)
        (cond (ltb 3 g) (left_row (read.Refused refusal.Limit 0) row)
        (cond (eqb (length input) 0) (left_row (read.Refused refusal.Cut 0) row) (read_found f k lead g input row))))
    go true b e = refl
    go false true e = refl
    go false false e = impossible cc

-- outside the limits: a grade below 1 is LIMIT on both sides, before anything else
outside : (k g : ℕ) (input row : List ℕ) → within (lead_grade k) g input ≡ false
    → left_row (refusal_of (scanned_item (shape_of k) (lead_grade k) g input)) row ≡ read_item (shape_of k) k (lead_grade k) g input row
outside k g input row h = go (ltb g 1) refl
  where
    go : (t : Bool) → ltb g 1 ≡ t
        → left_row (refusal_of (scanned_item (shape_of k) (lead_grade k) g input)) row ≡ read_item (shape_of k) k (lead_grade k) g input row
    go true e = no_grade (shape_of k) k (lead_grade k) g input row e
    go false e = call_outside (shape_of k) k (lead_grade k) g input row h (newer_none k g input (ltb-false g 1 e))

-- the call: b is the first byte, k its kind and l the grade of its lead
module _ (g : ℕ) (input row : List ℕ) {b k l : ℕ} (eb : b ≡ get_or input 0 0) (ek : k ≡ kind_of b) (el : l ≡ lead_grade k) where
  module _ (h : within l g input ≡ true) where
    -- what reading by the first byte requires
    pub limits : ((0 < length input) × (length input ≤ 2 ^ 30) × (get_or input 0 0 ≡ b)) × ((1 ≤ g) × (lead_grade (kind_of b) ≤ g))
    limits =
        let n = within-limits l g input h in
        let low : lead_grade (kind_of b) ≤ g = rw (el, ek) at n.3 in
        ((n.4, n.0, sym eb), (n.1, low))

    module _ {x : Tried} (new : List ℕ)
        (t : left_tried x new ≡ tried_found (shape_of (kind_of b)) (kind_of b) (lead_grade (kind_of b)) g input row) where
      same : {y : Tried} → x ≡ y → left_tried y new ≡ tried_found (shape_of (kind_of b)) (kind_of b) (lead_grade (kind_of b)) g input row
      same i = ap (λ s. left_tried s new) (sym i) ∙ t

      allowed : within (lead_grade (kind_of b)) g input ≡ true
      allowed = rw (el, ek) at h

      -- an item that stands in the row is what the call answers
      pub read_some : (q e : ℕ) → x ≡ Item q e → left_row (read.Item q e) new ≡ read_type g input row
      unfolding read_type
      read_some q e i =
          rw (← eb) (call_done (shape_of (kind_of b)) (kind_of b) (lead_grade (kind_of b)) g input row allowed q e new (same i))

      -- where there is none that has room, the call refuses
      pub read_none : x ≡ None → left_row (refusal_of (scanned_item (shape_of k) l g input)) new ≡ read_type g input row
      unfolding read_type
      read_none i =
          rw (← eb, el, ek) (call_not (shape_of (kind_of b)) (kind_of b) (lead_grade (kind_of b)) g input row allowed new (same i))

  -- and so it does outside the limits
  pub read_outside : within l g input ≡ false
      → left_row (refusal_of (scanned_item (shape_of k) l g input)) row ≡ read_type g input row
  unfolding read_type
  read_outside h = rw (← eb, el, ek) (outside (kind_of b) g input row (rw (el, ek) at h))
