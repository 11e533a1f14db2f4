-- The match on a type's kind: the shape of each kind, what a put may ask of a row that fits, and answers about a shape as answers about its kind.
use Rattle.std.specs.Prelude.{Option, Some, None, Ok}
use Rattle.fields.specs.declared.Shape.{Shape}
use Prim.Native.Nat.{ℕ, ◌+◌, ◌*◌, ◌≤◌}
use native.Mathlib.Omega.{arith}
use mathlib.Core.Path.{◌≡◌, refl, sym, ap, ◌∙◌, subst}
use mathlib.Core.Bool.{true, false}
use mathlib.Core.List.{List, [], ◌∷◌, ◌++◌, append-nil}
use borrow.Author.Tests.{ne_eqb}
use lib.ListN.{length, drop, length-append}
use lib.Seq.{sets}
use Rattle.numbers.specs.Leb.{unsigned}
use Rattle.fields.specs.Answer.{Refused}
use Rattle.fields.specs.declared.Field.{Field}
use Rattle.fields.specs.declared.Field.TheVariants as field
use Rattle.fields.specs.declared.Refusal.TheVariants.{Room}
use Rattle.fields.specs.Words.{word, wide}
use Rattle.writing.specs.Binary.{primvaltype, valtype, optional, resultlist, functype, representation, destructor, bytes}
use Rattle.writing.specs.Row.{measured_row, row_bytes, write_row}
use Rattle.fields.specs.Shape.{repeated, widths}
use Rattle.fields.specs.Table.{shape_in, two_of, elements}
use Rattle.fields.specs.Answers.{Left, left}
use Rattle.fields.proofs.NearLaws.{first_word, second_word}
use Rattle.writing.proofs.TableLaws.{strings}
use Rattle.writing.proofs.KindLaws as kinds
use Rattle.writing.proofs.KindLaws.{sized-fits, Begin}
use Rattle.types.specs.Table.{two, many, labelvaltype, table}
use Rattle.types.specs.Write.{shape_of, measured_type}
use Rattle.types.specs.inside.Function.{function_shape, function_bytes}
use Rattle.types.proofs.Rows.{type_row}
use Rattle.writing.specs.Sizes.{within}
use Rattle.writing.specs.inside.Rows.{Rights, Fits, Tried}
use Rattle.writing.proofs.GroupLaws.{labelled_element}
use Rattle.writing.proofs.RowLaws.{PairHeld, lead_held, bare_held, CountedHeld, counted_held, ManyHeld, many_held, within-fits, tried_some}

-- ---- a line of the table for each kind, and none for any other

pub kind_0 : shape_of 0 ≡ Some (two_of field.Nothing field.Nothing field.Primitive field.Nothing)
unfolding shape_in
kind_0 = refl

pub kind_1 : shape_of 1 ≡ Some (many 0x72 field.Name field.Value)
unfolding shape_in
kind_1 = refl

pub kind_2 : shape_of 2 ≡ Some (many 0x71 field.Name field.OptionalThenZero)
unfolding shape_in
kind_2 = refl

pub kind_3 : shape_of 3 ≡ Some (two 0x70 field.Value field.Nothing)
unfolding shape_in
kind_3 = refl

pub kind_4 : shape_of 4 ≡ Some (two 0x63 field.Value field.Value)
unfolding shape_in
kind_4 = refl

pub kind_5 : shape_of 5 ≡ Some (two 0x67 field.Value field.Index)
unfolding shape_in
kind_5 = refl

pub kind_6 : shape_of 6 ≡ Some (many 0x6f field.Value field.Nothing)
unfolding shape_in
kind_6 = refl

pub kind_7 : shape_of 7 ≡ Some (many 0x6e field.Name field.Nothing)
unfolding shape_in
kind_7 = refl

pub kind_8 : shape_of 8 ≡ Some (many 0x6d field.Name field.Nothing)
unfolding shape_in
kind_8 = refl

pub kind_9 : shape_of 9 ≡ Some (two 0x6b field.Value field.Nothing)
unfolding shape_in
kind_9 = refl

pub kind_10 : shape_of 10 ≡ Some (two 0x6a field.Optional field.Optional)
unfolding shape_in
kind_10 = refl

pub kind_11 : shape_of 11 ≡ Some (two 0x69 field.Index field.Nothing)
unfolding shape_in
kind_11 = refl

pub kind_12 : shape_of 12 ≡ Some (two 0x68 field.Index field.Nothing)
unfolding shape_in
kind_12 = refl

pub kind_13 : shape_of 13 ≡ Some (two 0x65 field.Optional field.Nothing)
unfolding shape_in
kind_13 = refl

pub kind_14 : shape_of 14 ≡ Some (two 0x66 field.Optional field.Nothing)
unfolding shape_in
kind_14 = refl

pub kind_15 : shape_of 15 ≡ Some function_shape
unfolding shape_in
kind_15 = refl

pub kind_16 : shape_of 16 ≡ Some (two 0x3f field.Rep field.OptionalIndex)
unfolding shape_in
kind_16 = refl

pub kind_other : {B : Type 0} {k : ℕ}
    → (((((((((((((((((B × (k ≡ 0 → ⊥)) × (k ≡ 1 → ⊥)) × (k ≡ 2 → ⊥)) × (k ≡ 3 → ⊥)) × (k ≡ 4 → ⊥)) × (k ≡ 5 → ⊥)) × (k ≡ 6 → ⊥)) × (k ≡ 7 → ⊥))
    × (k ≡ 8 → ⊥)) × (k ≡ 9 → ⊥)) × (k ≡ 10 → ⊥)) × (k ≡ 11 → ⊥)) × (k ≡ 12 → ⊥)) × (k ≡ 13 → ⊥)) × (k ≡ 14 → ⊥)) × (k ≡ 15 → ⊥)) × (k ≡ 16 → ⊥))
    → shape_of k ≡ None
unfolding shape_in
kind_other (((((((((((((((((b, n0), n1), n2), n3), n4), n5), n6), n7), n8), n9), n10), n11), n12), n13), n14), n15), n16) =
    simp (
      ne_eqb _ _ n0,
      ne_eqb _ _ n1,
      ne_eqb _ _ n2,
      ne_eqb _ _ n3,
      ne_eqb _ _ n4,
      ne_eqb _ _ n5,
      ne_eqb _ _ n6,
      ne_eqb _ _ n7,
      ne_eqb _ _ n8,
      ne_eqb _ _ n9,
      ne_eqb _ _ n10,
      ne_eqb _ _ n11,
      ne_eqb _ _ n12,
      ne_eqb _ _ n13,
      ne_eqb _ _ n14,
      ne_eqb _ _ n15,
      ne_eqb _ _ n16,
    )

-- ---- answers about the shape of the kind that code found, j being the row's first word

module _ {i j k : ℕ} {found : Option Shape} (e : shape_of k ≡ found) (f : i ≡ j) (h : i ≡ k) where
  pub as_kind : shape_of j ≡ found
  as_kind = kinds.as_kind table e f h

  pub tried_as : {row pool old new : List ℕ} {at : ℕ} {r : Option ℕ} → Tried found row pool old at r new → Tried (shape_of j) row pool old at r new
  tried_as {row} {pool} {old} {new} {at} {r} t = subst (λ s. Tried s row pool old at r new) (sym as_kind) t

-- a size that was found, and what was put where there is room for it
pub sized-tried : {found : Option Shape} {row pool old new : List ℕ} {at size : ℕ} → measured_row found row pool ≡ Ok size
    → within size at (length old) ≡ true → (Fits found row pool at (length old) → new ≡ sets old at (row_bytes found pool row))
    → Tried found row pool old at (Some size) new
sized-tried {found} {row} {pool} {old} {new} {at} {size} m e p =
    let h = within-fits size at (length old) e in
    tried_some found row pool m old at h.0 h.1 (p (sized-fits (λ z. m) e))

-- nothing was done, so that what is answered now is answered of the buffer as it was
pub tried_not : {found : Option Shape} {row pool old mid : List ℕ} {at : ℕ} {r : Option ℕ} → Tried found row pool old at r mid → r ≡ None
    → {x : Left} → x ≡ write_row found row pool mid at → x ≡ write_row found row pool old at
tried_not {found} {row} {pool} {old} {mid} {at} t z e = e ∙ ap (λ l. write_row found row pool l at) (t.none z)

-- ---- rows that fit: what a put asks, and that what it puts are the row's bytes

-- two words next to each other
module _ {X : Type 0} (f : ℕ → ℕ → X) (row : List ℕ) (at : ℕ) where
  both_words : f (word row at) (word row (at + 1)) ≡ f (word (drop at row) 0) (word (drop at row) 1)
  both_words = λ i. f (first_word row at i) (second_word row at i)

module _ {found : Option Shape} {row pool : List ℕ} {to room : ℕ} (e : found ≡ Some (two_of field.Nothing field.Nothing field.Primitive field.Nothing))
    (f : Fits found row pool to room) where
  primitive_held : PairHeld (two_of field.Nothing field.Nothing field.Primitive field.Nothing) [] field.Primitive field.Nothing row pool f.size
  primitive_held = bare_held field.Primitive field.Nothing row pool (ap (λ s. measured_row s row pool) (sym e) ∙ f.measured)

  pub primitive_fits : (length row ≡ 2) × (to + 1 ≤ room)
  unfolding wide bytes
  primitive_fits = let h = primitive_held in (h.width, omega (arith, h.size, f.ends))

  pub primitive_bytes : primvaltype (word row 1) ∷ [] ≡ row_bytes found pool row
  unfolding wide bytes
  primitive_bytes =
      ap (λ w. primvaltype w ∷ []) (first_word row 1) ∙ sym (ap (λ s. row_bytes s pool row) e ∙ primitive_held.made)

-- a lead and two fields
module _ {found : Option Shape} {lead : ℕ} {a b : Field} {row pool : List ℕ} {to room : ℕ} (e : found ≡ Some (two lead a b))
    (f : Fits found row pool to room) where
  pair_held : PairHeld (two lead a b) (lead ∷ []) a b row pool f.size
  pair_held = lead_held lead a b row pool (ap (λ s. measured_row s row pool) (sym e) ∙ f.measured)

  pair_room : {x y : List ℕ} → x ≡ bytes pool a (drop 1 row) → y ≡ bytes pool b (drop (1 + wide a) row) → to + (1 + (length x + length y)) ≤ room
  pair_room p q = omega (arith, pair_held.size, f.ends, ap length p, ap length q)

  pair_bytes : {x y : List ℕ} → x ≡ bytes pool a (drop 1 row) → y ≡ bytes pool b (drop (1 + wide a) row) → lead ∷ (x ++ y) ≡ row_bytes found pool row
  pair_bytes p q = (λ i. lead ∷ (p i ++ q i)) ∙ sym (ap (λ s. row_bytes s pool row) e ∙ pair_held.made)

  one_bytes : {x : List ℕ} → x ≡ bytes pool a (drop 1 row) → [] ≡ bytes pool b (drop (1 + wide a) row) → lead ∷ x ≡ row_bytes found pool row
  one_bytes {x} p q = ap (λ l. lead ∷ l) (sym (append-nil x)) ∙ pair_bytes p q

-- V; V and V; V and a length; O; O and O; an index; a representation and perhaps a destructor

module _ {found : Option Shape} {lead : ℕ} {row pool : List ℕ} {to room : ℕ} (e : found ≡ Some (two lead field.Value field.Nothing))
    (f : Fits found row pool to room) where
  pub value_fits : (length row ≡ 3) × (to + (1 + length (valtype (word row 1) (word row 2))) ≤ room)
  unfolding wide bytes
  value_fits = ((pair_held e f).width, omega (arith, pair_room e f (both_words valtype row 1) refl))

  pub value_bytes : lead ∷ valtype (word row 1) (word row 2) ≡ row_bytes found pool row
  unfolding wide bytes
  value_bytes = one_bytes e f (both_words valtype row 1) refl

module _ {found : Option Shape} {lead : ℕ} {row pool : List ℕ} {to room : ℕ} (e : found ≡ Some (two lead field.Value field.Value))
    (f : Fits found row pool to room) where
  pub values_fits : (length row ≡ 5)
      × (to + (1 + (length (valtype (word row 1) (word row 2)) + length (valtype (word row 3) (word row 4)))) ≤ room)
  unfolding wide bytes
  values_fits = ((pair_held e f).width, pair_room e f (both_words valtype row 1) (both_words valtype row 3))

  pub values_bytes : lead ∷ (valtype (word row 1) (word row 2) ++ valtype (word row 3) (word row 4)) ≡ row_bytes found pool row
  unfolding wide bytes
  values_bytes = pair_bytes e f (both_words valtype row 1) (both_words valtype row 3)

module _ {found : Option Shape} {lead : ℕ} {row pool : List ℕ} {to room : ℕ} (e : found ≡ Some (two lead field.Value field.Index))
    (f : Fits found row pool to room) where
  pub fixed_fits : (length row ≡ 4) × (to + (1 + (length (valtype (word row 1) (word row 2)) + length (unsigned (word row 3)))) ≤ room)
  unfolding wide bytes
  fixed_fits = ((pair_held e f).width, pair_room e f (both_words valtype row 1) (ap unsigned (first_word row 3)))

  pub fixed_bytes : lead ∷ (valtype (word row 1) (word row 2) ++ unsigned (word row 3)) ≡ row_bytes found pool row
  unfolding wide bytes
  fixed_bytes = pair_bytes e f (both_words valtype row 1) (ap unsigned (first_word row 3))

module _ {found : Option Shape} {lead : ℕ} {row pool : List ℕ} {to room : ℕ} (e : found ≡ Some (two lead field.Optional field.Nothing))
    (f : Fits found row pool to room) where
  pub optional_fits : (length row ≡ 3) × (to + (1 + length (optional (word row 1) (word row 2))) ≤ room)
  unfolding wide bytes
  optional_fits = ((pair_held e f).width, omega (arith, pair_room e f (both_words optional row 1) refl))

  pub optional_bytes : lead ∷ optional (word row 1) (word row 2) ≡ row_bytes found pool row
  unfolding wide bytes
  optional_bytes = one_bytes e f (both_words optional row 1) refl

module _ {found : Option Shape} {lead : ℕ} {row pool : List ℕ} {to room : ℕ} (e : found ≡ Some (two lead field.Optional field.Optional))
    (f : Fits found row pool to room) where
  pub optionals_fits : (length row ≡ 5)
      × (to + (1 + (length (optional (word row 1) (word row 2)) + length (optional (word row 3) (word row 4)))) ≤ room)
  unfolding wide bytes
  optionals_fits = ((pair_held e f).width, pair_room e f (both_words optional row 1) (both_words optional row 3))

  pub optionals_bytes : lead ∷ (optional (word row 1) (word row 2) ++ optional (word row 3) (word row 4)) ≡ row_bytes found pool row
  unfolding wide bytes
  optionals_bytes = pair_bytes e f (both_words optional row 1) (both_words optional row 3)

module _ {found : Option Shape} {lead : ℕ} {row pool : List ℕ} {to room : ℕ} (e : found ≡ Some (two lead field.Index field.Nothing))
    (f : Fits found row pool to room) where
  pub index_fits : (length row ≡ 2) × (to + (1 + length (unsigned (word row 1))) ≤ room)
  unfolding wide bytes
  index_fits = ((pair_held e f).width, omega (arith, pair_room e f (ap unsigned (first_word row 1)) refl))

  pub index_bytes : lead ∷ unsigned (word row 1) ≡ row_bytes found pool row
  unfolding wide bytes
  index_bytes = one_bytes e f (ap unsigned (first_word row 1)) refl

module _ {found : Option Shape} {lead : ℕ} {row pool : List ℕ} {to room : ℕ} (e : found ≡ Some (two lead field.Rep field.OptionalIndex))
    (f : Fits found row pool to room) where
  pub resource_fits : (length row ≡ 4) × (to + (2 + length (destructor (word row 2) (word row 3))) ≤ room)
  unfolding wide bytes
  resource_fits = (
    (pair_held e f).width,
    omega (arith, pair_room e f {x = representation (word (drop 1 row) 0) ∷ []} refl (both_words destructor row 2)),
  )

  pub resource_bytes : lead ∷ representation (word row 1) ∷ destructor (word row 2) (word row 3) ≡ row_bytes found pool row
  unfolding wide bytes
  resource_bytes =
      pair_bytes e f (ap (λ w. representation w ∷ []) (first_word row 1)) (both_words destructor row 2)

-- ---- a lead, a count and groups

module _ {found : Option Shape} {lead : ℕ} {c d : Field} {w : ℕ} (ew : w ≡ widths (c ∷ d ∷ [])) {row pool : List ℕ} {element : List ℕ → List ℕ}
    (same : (ws : List ℕ) → element ws ≡ strings pool (c ∷ d ∷ []) ws) {to room : ℕ} (e : found ≡ Some (many lead c d))
    (f : Fits found row pool to room) where
  held : CountedHeld lead c d w element row pool f.size
  held = counted_held lead c d ew row pool same (ap (λ s. measured_row s row pool) (sym e) ∙ f.measured)

  pub counted_fits : (length row ≡ 2 + word row 1 * w)
      × (Rights pool (repeated (word row 1) (c ∷ d ∷ [])) (drop 2 row)
      × (to + length (lead ∷ (unsigned (word row 1) ++ elements (word row 1) w element (drop 2 row))) ≤ room))
  counted_fits =
      let l = length-append (unsigned (word row 1)) (elements (word row 1) w element (drop 2 row)) in
      (held.width, (held.groups, omega (arith, held.size, f.ends, l)))

  pub counted_bytes_lem : lead ∷ (unsigned (word row 1) ++ elements (word row 1) w element (drop 2 row)) ≡ row_bytes found pool row
  counted_bytes_lem = sym (ap (λ s. row_bytes s pool row) e ∙ held.made)

-- the words of a group
pub label-wide : 2 ≡ widths (field.Name ∷ field.Nothing ∷ [])
unfolding widths wide
label-wide = refl

pub value-wide : 2 ≡ widths (field.Value ∷ field.Nothing ∷ [])
unfolding widths wide
value-wide = refl

pub labelled_wide : 4 ≡ widths (field.Name ∷ field.Value ∷ [])
unfolding widths wide
labelled_wide = refl

pub case-wide : 4 ≡ widths (field.Name ∷ field.OptionalThenZero ∷ [])
unfolding widths wide
case-wide = refl

module _ {found : Option Shape} {row pool : List ℕ} {to room : ℕ} (e : found ≡ Some function_shape) (f : Fits found row pool to room) where
  function_held : ManyHeld field.Nothing field.Nothing field.Async field.Name field.Value field.Result 4 (labelvaltype pool) row pool f.size
  unfolding widths wide
  function_held =
      many_held field.Nothing field.Nothing field.Async field.Name field.Value field.Result refl refl refl row pool (labelled_element pool)
      (ap (λ s. measured_row s row pool) (sym e) ∙ f.measured)

  function_result : resultlist (word row (3 + word row 2 * 4)) (word row (4 + word row 2 * 4))
      ≡ resultlist (word (drop (3 + word row 2 * 4) row) 0) (word (drop (3 + word row 2 * 4) row) 1)
  function_result =
      let p : 4 + word row 2 * 4 ≡ 3 + word row 2 * 4 + 1 = omega arith in
      ap (λ k. resultlist (word row (3 + word row 2 * 4)) (word row k)) p ∙ both_words resultlist row (3 + word row 2 * 4)

  pub function_bytes_lem : function_bytes pool row ≡ row_bytes found pool row
  unfolding wide bytes
  function_bytes_lem =
      (λ i. functype (first_word row 1 i)
      ∷ (unsigned (word row 2) ++ (elements (word row 2) 4 (labelvaltype pool) (drop 3 row) ++ function_result i)))
      ∙ sym (ap (λ s. row_bytes s pool row) e ∙ function_held.made)

  pub function_fits : (length row ≡ 5 + word row 2 * 4)
      × (Rights pool (repeated (word row 2) (field.Name ∷ field.Value ∷ [])) (drop 3 row) × (to + length (function_bytes pool row) ≤ room))
  unfolding wide bytes
  function_fits =
      let h = function_held in
      let g = elements (word row 2) 4 (labelvaltype pool) (drop 3 row) in
      let t = resultlist (word row (3 + word row 2 * 4)) (word row (4 + word row 2 * 4)) in (
        omega (arith, h.width),
        (
          h.groups,
          omega (arith, h.size, f.ends, length-append (unsigned (word row 2)) (g ++ t), length-append g t, ap length function_result),
        ),
      )

-- ---- every row has bytes: each production begins with one

types-begin : (pool ws : List ℕ) → Begin table pool ws
types-begin pool ws = (tt, (tt, (tt, (tt, (tt, (tt, (tt, (tt, (tt, (tt, (tt, (tt, (tt, (tt, (tt, (tt, (tt, tt)))))))))))))))))

pub no_room : (row pool out : List ℕ) (at : ℕ) {n : ℕ} → measured_row (shape_of (word row 0)) row pool ≡ Ok n → within n at (length out) ≡ false
    → left (Refused Room n) out ≡ write_row (shape_of (word row 0)) row pool out at
unfolding measured_type
no_room row pool out at {n} e w = kinds.no_room {ls = table} (types-begin pool (drop 1 row)) e (type_row row pool n e) out at w
