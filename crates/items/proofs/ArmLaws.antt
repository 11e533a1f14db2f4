-- The arms of reading by the first byte: what an item that was read once and stored leaves is what its kind's shape says.
use Rattle.std.specs.Prelude.{Err, Ok, Option, Some, None, IfSome}
use Prim.Native.Nat.{ℕ, ◌+◌, ◌≤◌, ◌<◌}
use native.Mathlib.Omega.{arith}
use mathlib.Core.Path.{◌≡◌, refl, sym, ap, ◌∙◌}
use mathlib.Core.Bool.{Bool, true, false}
use mathlib.Core.List.{List, [], ◌∷◌}
use borrow.Author.Tests.{lt-ltb, le-ltb, lt-leb, ltb-false, ne_eqb}
use lib.Dec.{eqb, ltb}
use lib.ListN.{length, get_or, drop}
use Rattle.fields.proofs.OutcomeLaws.{fine-same}
use Rattle.fields.specs.declared.Field.{Field}
use Rattle.fields.specs.declared.Field.TheVariants as field
use Rattle.fields.specs.Leaf.{Leaf, Fine, Bad}
use Rattle.fields.specs.declared.Shape.{Shape}
use Rattle.fields.specs.declared.Refusal.{Refusal}
use Rattle.fields.specs.declared.Refusal.TheVariants as refusal
use Rattle.reading.specs.Fill.{fill}
use Rattle.fields.specs.Words.{wide}
use Rattle.reading.specs.Read.{scanned, filled}
use Rattle.reading.specs.inside.Stages.{counted_scan, counted_fill}
use Rattle.fields.specs.inside.Run.{along}
use Rattle.reading.specs.Scan.{scan_primitive, scan_either, scan}
use Rattle.fields.specs.Shape.{seq, widths}
use Rattle.fields.specs.Table.{two_of, shape_in}
use Rattle.fields.specs.Walk.{walk}
use Rattle.reading.specs.inside.Steps.{scans, fills, end_of}
use Rattle.reading.specs.inside.Tried.{left_tried, tried, tried_found}
use Rattle.reading.specs.Seen.{roomy}
use Rattle.reading.proofs.StepLaws.{Open, scans-any, fills-any, end_made, end_fine}
use Rattle.reading.proofs.TriedLaws.{two_scanned, two_filled, front_scanned, front_filled, many_scanned, many_filled, list_of}
use Rattle.items.specs.declared.item.Item.{Item}
use Rattle.items.specs.inside.Item.{Told, stored}
use Rattle.items.specs.inside.Group.{group_one, group_two, counted_of}
use Rattle.items.specs.ReadType.{kind_in, kind_of, lead_grade}
use Rattle.types.specs.Table.{two, many}
use Rattle.types.specs.Write.{shape_of}
use Rattle.types.specs.inside.Function.{function_shape}
use Rattle.numbers.proofs.Impossible.{impossible}

-- ---- an item that was told

-- one that is right has the words of its fields, and one
told_count : (g : ℕ) (input : List ℕ) (fs : List Field) (at t m : ℕ) → scans g input fs at 1 ≡ Fine t m → m ≡ 1 + widths fs
unfolding end_of
told_count g input fs at t m e =
    let end : end_of (scans g input fs at 1) ≡ Some t = ap end_of e in
    let fine = end_fine g input fs at 1 t (end_made g input fs at 0 1 ∙ end) in
    (fine-same (sym e ∙ fine)).1

module _ (g : ℕ) (input : List ℕ) (fs : List Field) (at : ℕ) (few : widths fs ≤ 4) where
  pub told_words : (some : 1 ≤ widths fs) (ws : List ℕ) (r : Option Item) → Told (scans g input fs at 1) ws r
      → IfSome r (λ x. (2 ≤ x.words) × (x.words ≤ 5))
  told_words some ws r k = go (scans g input fs at 1) refl r k
    where
      go : (l : Leaf) → scans g input fs at 1 ≡ l → (o : Option Item) → Told l ws o → IfSome o (λ x. (2 ≤ x.words) × (x.words ≤ 5))
      go l e None f = tt
      go (Ok span) e (Some x) f =
          let n = told_count g input fs at span.took span.made e in
          (omega (arith, f.2, n), omega (arith, f.2, n))
      go (Err fault) e (Some x) f = impossible cc

  pub told_stored : (ws : List ℕ) (r : Option Item) (kind : ℕ) (row : List ℕ) → Told (scans g input fs at 1) ws r
      → stored kind r row ≡ tried (scans g input fs at 1) (kind ∷ ws) row
  unfolding stored tried roomy
  told_stored ws r kind row k = go (scans g input fs at 1) refl r k
    where
      go : (l : Leaf) → scans g input fs at 1 ≡ l → (o : Option Item) → Told l ws o → stored kind o row ≡ tried l (kind ∷ ws) row
      go (Ok span) e None f = absurd f
      go (Ok span) e (Some x) f =
          let n = told_count g input fs at span.took span.made e in
          rw (f.3, f.1, f.2, le-ltb 16384 span.made (omega arith)) refl
      go (Err fault) e o f = rw f refl

-- ---- the shapes of two fields

module _ (lead g b : ℕ) (f h : Field) (input : List ℕ) (some : 0 < length input) (begins : get_or input 0 0 ≡ b) (not-newer : lead ≤ g) where
  pub pair_arm : Open (f ∷ h ∷ []) → widths (f ∷ h ∷ []) ≤ 4 → (r : Option Item) (kind : ℕ) (row : List ℕ)
      → Told (scans g input (f ∷ h ∷ []) 1 1) (fills g input (f ∷ h ∷ []) 1) r
      → stored kind r row ≡ tried (scanned lead g (two b f h) input) (filled kind lead g (two b f h) input) row
  pair_arm o few r kind row k =
      rw (
        two_scanned lead g b f h input some begins not-newer,
        two_filled lead g b f h input some begins not-newer kind,
        scans-any lead g (f ∷ h ∷ []) (drop 1 input) 1 1 o,
        fills-any lead g (f ∷ h ∷ []) 1 (drop 1 input) o,
      )
      (told_stored g input (f ∷ h ∷ []) 1 few (fills g input (f ∷ h ∷ []) 1) r kind row k)

-- ---- a primitive, or nothing

module _ (lead g : ℕ) (input : List ℕ) where
  pub front_arm : (r : Option Item) (kind : ℕ) (row : List ℕ)
      → Told (scans g input (field.Primitive ∷ field.Nothing ∷ []) 0 1) (fills g input (field.Primitive ∷ field.Nothing ∷ []) 0) r
      → stored kind r row
      ≡ tried (scanned lead g (two_of field.Nothing field.Nothing field.Primitive field.Nothing) input)
      (filled kind lead g (two_of field.Nothing field.Nothing field.Primitive field.Nothing) input) row
  unfolding widths wide
  front_arm r kind row k =
      rw (
        front_scanned lead g field.Primitive field.Nothing input,
        front_filled lead g field.Primitive field.Nothing input kind,
        scans-any lead g (field.Primitive ∷ field.Nothing ∷ []) input 0 1 (tt, (tt, tt)),
        fills-any lead g (field.Primitive ∷ field.Nothing ∷ []) 0 input (tt, (tt, tt)),
      )
      (told_stored g input (field.Primitive ∷ field.Nothing ∷ []) 0 (omega arith)
      (fills g input (field.Primitive ∷ field.Nothing ∷ []) 0) r kind row k)

-- ---- the table: a first byte, its kind, the grade of its lead and its shape

pub record Arm (b kind lead : ℕ) (s : Shape) : Type 0 where
  pub kind_is : kind_of b ≡ kind
  pub lead_is : lead_grade kind ≡ lead
  pub shape_is : shape_of kind ≡ Some s

module _ {b kind lead : ℕ} {s : Shape} (arm : Arm b kind lead s) {first : ℕ} (key : first ≡ b) where
  pub arm_grade : (g : ℕ) → lead_grade (kind_of first) ≤ g → lead ≤ g
  arm_grade g h = rw (key, arm.kind_is, arm.lead_is) at h

  pub arm_tried : (g : ℕ) (input row : List ℕ) → tried (scanned lead g s input) (filled kind lead g s input) row
      ≡ tried_found (shape_of (kind_of first)) (kind_of first) (lead_grade (kind_of first)) g input row
  arm_tried g input row = rw (key, arm.kind_is, arm.lead_is, arm.shape_is) refl

-- an item of two fields that was told
pub two-arm : {b kind lead : ℕ} {f h : Field} → Arm b kind lead (two b f h) → {first : ℕ} → first ≡ b → (g : ℕ) (input : List ℕ)
    → 0 < length input → get_or input 0 0 ≡ first → lead_grade (kind_of first) ≤ g → Open (f ∷ h ∷ []) → widths (f ∷ h ∷ []) ≤ 4
    → (r : Option Item) (row : List ℕ) → Told (scans g input (f ∷ h ∷ []) 1 1) (fills g input (f ∷ h ∷ []) 1) r
    → stored kind r row ≡ tried_found (shape_of (kind_of first)) (kind_of first) (lead_grade (kind_of first)) g input row
two-arm {b} {kind} {lead} {f} {h} arm key g input some begins low o few r row k =
    pair_arm lead g b f h input some (begins ∙ key) (arm_grade arm key g low) o few r kind row k ∙ arm_tried arm key g input row

-- an item with a count
pub many-arm : {b kind : ℕ} {c d : Field} → Arm b kind 1 (many b c d) → group_one kind ≡ c → group_two kind ≡ d → {first : ℕ} → first ≡ b
    → (g : ℕ) (input : List ℕ) → 0 < length input → get_or input 0 0 ≡ first → lead_grade (kind_of first) ≤ g → (row : List ℕ)
    → tried (counted_scan 1 g (counted_of kind) input 1 1) (kind ∷ counted_fill 1 g (counted_of kind) input 1) row
    ≡ tried_found (shape_of (kind_of first)) (kind_of first) (lead_grade (kind_of first)) g input row
many-arm {b} {kind} {c} {d} arm ec ed key g input some begins low row =
    let grade = arm_grade arm key g low in
    let scan_is : counted_scan 1 g (counted_of kind) input 1 1 ≡ scanned 1 g (many b c d) input
    = ap (λ x. counted_scan 1 g (list_of x (group_two kind) field.Nothing) input 1 1) ec
    ∙ ap (λ x. counted_scan 1 g (list_of c x field.Nothing) input 1 1) ed
    ∙ sym (many_scanned 1 g b c d input some (begins ∙ key) grade) in
    let fill_is : kind ∷ counted_fill 1 g (counted_of kind) input 1 ≡ filled kind 1 g (many b c d) input
    = ap (λ x. kind ∷ counted_fill 1 g (list_of x (group_two kind) field.Nothing) input 1) ec
    ∙ ap (λ x. kind ∷ counted_fill 1 g (list_of c x field.Nothing) input 1) ed
    ∙ sym (many_filled 1 g b c d input some (begins ∙ key) grade kind) in
    ap (λ l. tried l (kind ∷ counted_fill 1 g (counted_of kind) input 1) row) scan_is
    ∙ ap (λ ws. tried (scanned 1 g (many b c d) input) ws row) fill_is
    ∙ arm_tried arm key g input row

-- ---- its lines

pub record_arm : Arm 0x72 1 1 (many 0x72 field.Name field.Value)
unfolding kind_of kind_in lead_grade shape_in
record_arm = record { kind_is = refl; lead_is = refl; shape_is = refl }

pub variant_arm : Arm 0x71 2 1 (many 0x71 field.Name field.OptionalThenZero)
unfolding kind_of kind_in lead_grade shape_in
variant_arm = record { kind_is = refl; lead_is = refl; shape_is = refl }

pub list_arm : Arm 0x70 3 1 (two 0x70 field.Value field.Nothing)
unfolding kind_of kind_in lead_grade shape_in
list_arm = record { kind_is = refl; lead_is = refl; shape_is = refl }

pub map-arm : Arm 0x63 4 3 (two 0x63 field.Value field.Value)
unfolding kind_of kind_in lead_grade shape_in
map-arm = record { kind_is = refl; lead_is = refl; shape_is = refl }

pub fixed_arm : Arm 0x67 5 3 (two 0x67 field.Value field.Index)
unfolding kind_of kind_in lead_grade shape_in
fixed_arm = record { kind_is = refl; lead_is = refl; shape_is = refl }

pub tuple_arm : Arm 0x6f 6 1 (many 0x6f field.Value field.Nothing)
unfolding kind_of kind_in lead_grade shape_in
tuple_arm = record { kind_is = refl; lead_is = refl; shape_is = refl }

pub flags_arm : Arm 0x6e 7 1 (many 0x6e field.Name field.Nothing)
unfolding kind_of kind_in lead_grade shape_in
flags_arm = record { kind_is = refl; lead_is = refl; shape_is = refl }

pub enum_arm : Arm 0x6d 8 1 (many 0x6d field.Name field.Nothing)
unfolding kind_of kind_in lead_grade shape_in
enum_arm = record { kind_is = refl; lead_is = refl; shape_is = refl }

pub option_arm : Arm 0x6b 9 1 (two 0x6b field.Value field.Nothing)
unfolding kind_of kind_in lead_grade shape_in
option_arm = record { kind_is = refl; lead_is = refl; shape_is = refl }

pub result_arm : Arm 0x6a 10 1 (two 0x6a field.Optional field.Optional)
unfolding kind_of kind_in lead_grade shape_in
result_arm = record { kind_is = refl; lead_is = refl; shape_is = refl }

pub own_arm : Arm 0x69 11 1 (two 0x69 field.Index field.Nothing)
unfolding kind_of kind_in lead_grade shape_in
own_arm = record { kind_is = refl; lead_is = refl; shape_is = refl }

pub borrow_arm : Arm 0x68 12 1 (two 0x68 field.Index field.Nothing)
unfolding kind_of kind_in lead_grade shape_in
borrow_arm = record { kind_is = refl; lead_is = refl; shape_is = refl }

pub future_arm : Arm 0x65 13 2 (two 0x65 field.Optional field.Nothing)
unfolding kind_of kind_in lead_grade shape_in
future_arm = record { kind_is = refl; lead_is = refl; shape_is = refl }

pub stream_arm : Arm 0x66 14 2 (two 0x66 field.Optional field.Nothing)
unfolding kind_of kind_in lead_grade shape_in
stream_arm = record { kind_is = refl; lead_is = refl; shape_is = refl }

pub function-arm : Arm 0x40 15 1 (function_shape)
unfolding kind_of kind_in lead_grade shape_in
function-arm = record { kind_is = refl; lead_is = refl; shape_is = refl }

pub async_arm : Arm 0x43 15 1 (function_shape)
unfolding kind_of kind_in lead_grade shape_in
async_arm = record { kind_is = refl; lead_is = refl; shape_is = refl }

pub resource_arm : Arm 0x3f 16 1 (two 0x3f field.Rep field.OptionalIndex)
unfolding kind_of kind_in lead_grade shape_in
resource_arm = record { kind_is = refl; lead_is = refl; shape_is = refl }

-- ---- a function's first byte

pub async_absent : (g : ℕ) (input : List ℕ) → 0 < length input → get_or input 0 0 ≡ 0x40
    → (scan 1 g field.Async input ≡ Fine 1 1) × (fill g field.Async 0 input ≡ 0 ∷ [])
unfolding scan scan_either fill
async_absent g input some e = (simp (lt-leb (length input) 0 some, e), simp e)

pub async_newer : (g : ℕ) (input : List ℕ) → 0 < length input → get_or input 0 0 ≡ 0x43 → 2 ≤ g
    → (scan 1 g field.Async input ≡ Fine 1 1) × (fill g field.Async 0 input ≡ 1 ∷ [])
unfolding scan scan_either fill
async_newer g input some e h = (simp (lt-leb (length input) 0 some, e, le-ltb g 2 h), simp e)

-- 43 below grade 2
pub async_not : (g : ℕ) (input row : List ℕ) → 0 < length input → {first : ℕ} → first ≡ 0x43 → get_or input 0 0 ≡ first → g < 2
    → left_tried None row ≡ tried_found (shape_of (kind_of first)) (kind_of first) (lead_grade (kind_of first)) g input row
unfolding tried walk seq scan scan_either
async_not g input row some key begins h =
    simp (lt-leb (length input) 0 some, begins ∙ key, lt-ltb g 2 h) refl
    ∙ arm_tried async_arm key g input row

-- ---- a first byte that is none of these

module _ (g : ℕ) (input row : List ℕ) (some : 0 < length input) (first : ℕ) (begins : get_or input 0 0 ≡ first) (r : Option Item)
    (told : Told (scans g input (field.Primitive ∷ field.Nothing ∷ []) 0 1) (fills g input (field.Primitive ∷ field.Nothing ∷ []) 0) r) where
  -- it is a primitive's
  pub primitive_arm : kind_of first ≡ 0
      → stored 0 r row ≡ tried_found (shape_of (kind_of first)) (kind_of first) (lead_grade (kind_of first)) g input row
  unfolding lead_grade shape_in
  primitive_arm e = rw e (front_arm 1 g input r 0 row told)

  -- or no kind's
  pub no_arm : kind_of first ≡ 17 → (w : Refusal) (j : ℕ) → scan 1 g field.Primitive input ≡ Bad w j
      → stored 0 r row ≡ tried_found (shape_of (kind_of first)) (kind_of first) (lead_grade (kind_of first)) g input row
  unfolding lead_grade shape_in stored along
  no_arm e w j bad = rw e (rw (none (rw bad at told)) refl)
    where
      none : r ≡ None → r ≡ None
      none h = h

  -- which of the two, by the tests of `kind_of`
  pub rest_arm : (first ≡ 0x72 → ⊥) → (first ≡ 0x71 → ⊥) → (first ≡ 0x70 → ⊥) → (first ≡ 0x63 → ⊥) → (first ≡ 0x67 → ⊥)
      → (first ≡ 0x6f → ⊥) → (first ≡ 0x6e → ⊥) → (first ≡ 0x6d → ⊥) → (first ≡ 0x6b → ⊥) → (first ≡ 0x6a → ⊥)
      → (first ≡ 0x69 → ⊥) → (first ≡ 0x68 → ⊥) → (first ≡ 0x65 → ⊥) → (first ≡ 0x66 → ⊥) → (first ≡ 0x40 → ⊥)
      → (first ≡ 0x43 → ⊥) → (first ≡ 0x3f → ⊥)
      → stored 0 r row ≡ tried_found (shape_of (kind_of first)) (kind_of first) (lead_grade (kind_of first)) g input row
  unfolding kind_of kind_in scan_primitive scan
  rest_arm n0 n1 n2 n3 n4 n5 n6 n7 n8 n9 n10 n11 n12 n13 n14 n15 n16 = low (ltb first 0x73) refl
    where
      not_here : (w : Refusal) → scan_primitive g first (Fine 1 1) ≡ Bad w 0 → scan 1 g field.Primitive input ≡ Bad w 0
      not_here w e = simp (lt-leb (length input) 0 some, begins) e

      error_context : (t : Bool) → eqb first 0x64 ≡ t → ltb first 0x73 ≡ true
          → stored 0 r row ≡ tried_found (shape_of (kind_of first)) (kind_of first) (lead_grade (kind_of first)) g input row
      error_context true e l = primitive_arm (simp (l, e))
      error_context false e l =
          no_arm (simp (l, e, ne_eqb first 0x72 n0, ne_eqb first 0x71 n1, ne_eqb first 0x70 n2, ne_eqb first 0x63 n3, ne_eqb first 0x67 n4, ne_eqb first 0x6f n5, ne_eqb first 0x6e n6, ne_eqb first 0x6d n7, ne_eqb first 0x6b n8, ne_eqb first 0x6a n9, ne_eqb first 0x69 n10, ne_eqb first 0x68 n11, ne_eqb first 0x65 n12, ne_eqb first 0x66 n13, ne_eqb first 0x40 n14, ne_eqb first 0x43 n15, ne_eqb first 0x3f n16)) refusal.Code 0
          (not_here refusal.Code (simp (e, l)))

      high : (t : Bool) → ltb first 0x80 ≡ t → ltb first 0x73 ≡ false
          → stored 0 r row ≡ tried_found (shape_of (kind_of first)) (kind_of first) (lead_grade (kind_of first)) g input row
      high true e l = primitive_arm (simp (l, e))
      high false e l =
          no_arm (simp (l, e)) refusal.Code 0
          (not_here refusal.Code (simp (ne_eqb first 0x64 (λ k. omega (arith, k, ltb-false first 0x80 e)), l, e)))

      low : (t : Bool) → ltb first 0x73 ≡ t
          → stored 0 r row ≡ tried_found (shape_of (kind_of first)) (kind_of first) (lead_grade (kind_of first)) g input row
      low true e = error_context (eqb first 0x64) refl e
      low false e = high (ltb first 0x80) refl e
