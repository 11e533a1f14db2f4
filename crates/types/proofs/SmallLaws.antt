-- What the straight code of an O and of the kinds without names and counts comes to: what was seen makes a size, and what was stored the bytes.
use Rattle.std.specs.Prelude.{Some, Ok}
use Prim.Native.Nat.{ℕ, ◌+◌, ◌≤◌, ◌<◌}
use native.Mathlib.Omega.{arith}
use mathlib.Core.Path.{◌≡◌, refl, sym, ◌∙◌, subst}
use mathlib.Core.Bool.{Bool, true, false, cond}
use mathlib.Core.List.{List, [], ◌∷◌, ◌++◌}
use borrow.Author.Tests.{eq-eqb, ne_eqb}
use lib.Dec.{eqb}
use lib.ListN.{length, drop, set, length-set}
use lib.Seq.{sets}
use Rattle.numbers.specs.Bytes.{left, store}
use Rattle.numbers.specs.Leb.{unsigned}
use Rattle.numbers.specs.Numbers.{value_of}
use Rattle.numbers.specs.Stored.{Stored}
use Rattle.fields.specs.declared.Field.TheVariants as field
use Rattle.fields.specs.Words.{word, wide}
use Rattle.writing.specs.Binary.{primvaltype, valtype, optional, resultlist, representation, destructor, bytes}
use Rattle.writing.specs.Row.{measured_row}
use Rattle.writing.specs.inside.Wrote.{Wrote}
use Rattle.fields.specs.Table.{two_of}
use Rattle.writing.proofs.WroteLaws.{then, then-byte, same_size, of-store}
use Rattle.writing.specs.Sizes.{right_size}
use Rattle.writing.specs.inside.Rows.{Known}
use Rattle.writing.proofs.RowLaws.{
  value-known,
  value-small,
  none_right,
  some_right,
  optional_known,
  optional_some,
  result_some,
  destructor_absent,
  destructor_present,
  value_at_lem,
  optional_at,
  destructor_at,
  index_at,
  rep_at,
  primitive_at,
  nothing_at,
  lead_known,
  bare_known,
}
use Rattle.writing.proofs.GroupLaws.{byte-wrote, bytes-wrote, number_wrote}
use Rattle.types.specs.inside.Optional.{OptionalKnown}
use Rattle.types.specs.Table.{two}

-- a V has few bytes
pub value-few : (t x : ℕ) {r : ℕ} → Some r ≡ right_size [] field.Value (t ∷ x ∷ []) → r ≤ 5
value-few t x e = rw (sym e) at (value-small t x)

-- ---- an O

module _ (absent t x : ℕ) where
  pub absent_known : t ≡ 2 → x ≡ 0 → OptionalKnown absent t x absent
  absent_known e z = record { right = none_right t x e z; size = simp (eq-eqb _ _ e) }

  pub present_known : (t ≡ 2 → ⊥) → {r : ℕ} → Some r ≡ right_size [] field.Value (t ∷ x ∷ []) → OptionalKnown absent t x (1 + r)
  unfolding bytes
  present_known n {r} e =
      let s : Known [] field.Value (t ∷ x ∷ []) r = value-known e [] in
      record { right = some_right t x n [] s.right; size = simp (ne_eqb _ _ n) (omega (arith, s.size)) }

pub known-optional : (pool : List ℕ) {t x r : ℕ} → OptionalKnown 1 t x r → Known pool field.Optional (t ∷ x ∷ []) r
unfolding optional
known-optional pool {t} {x} {r} s = optional_known t x pool s.right (s.size ∙ go (eqb t 2))
  where
    go : (b : Bool) → cond b 1 (1 + length (valtype t x)) ≡ length (cond b (0x00 ∷ []) (0x01 ∷ valtype t x))
    go true = refl
    go false = omega arith

-- ---- storing behind a byte

module _ (l : List ℕ) (i lead : ℕ) where
  pub lead_wrote : {a new : List ℕ} {q : Stored} → left q new ≡ store a (i + 1) (set l i lead) → i + (1 + length a) ≤ length l
      → Wrote l i (lead ∷ a) (i + 1 + length a) new
  lead_wrote e h = then-byte (byte-wrote l i lead) (number_wrote e (omega (arith, length-set l i lead)))

  module _ (a b : List ℕ) {m : List ℕ} {r : Stored} {s : ℕ} (e : left r m ≡ store a (i + 1) (set l i lead)) (v : s ≡ value_of r)
      (h : i + (1 + (length a + length b)) ≤ length l) where
    first : Wrote (set l i lead) (i + 1) a (i + 1 + s) m
    first = of-store e v (omega (arith, length-set l i lead))

    pub lead_next : i + 1 + s ≤ length l
    lead_next = omega (arith, first.place)

    pub lead_stores : {new : List ℕ} {q : Stored} → left q new ≡ store b (i + 1 + s) m → Wrote l i (lead ∷ (a ++ b)) (i + 1 + s + length b) new
    lead_stores d =
        then-byte (byte-wrote l i lead)
        (then first (number_wrote d (omega (arith, first.place, same_size first, length-set l i lead))))

-- ---- the bytes of an O

module _ (l : List ℕ) (i t x : ℕ) where
  pub absent_wrote : t ≡ 2 → Wrote l i (optional t x) (i + 1) (set l i 0x00)
  unfolding optional
  absent_wrote e = simp (eq-eqb _ _ e) (byte-wrote l i 0x00)

  pub no_result_wrote : t ≡ 2 → Wrote l i (resultlist t x) (i + 2) (set (set l i 0x01) (i + 1) 0x00)
  unfolding resultlist
  no_result_wrote e = simp (eq-eqb _ _ e) (bytes-wrote l i 0x01 0x00)

  module _ (n : t ≡ 2 → ⊥) {new : List ℕ} {r : Stored} {s : ℕ} where
    pub present_wrote : left r new ≡ store (valtype t x) (i + 1) (set l i 0x01) → s ≡ value_of r → i + length (optional t x) ≤ length l
        → Wrote l i (optional t x) (i + 1 + s) new
    unfolding optional
    present_wrote e v h =
        let w = of-store e v (omega (arith, length-set l i 0x01, optional_some t x n)) in
        simp (ne_eqb _ _ n) (then-byte (byte-wrote l i 0x01) w)

    pub result_wrote : left r new ≡ store (valtype t x) (i + 1) (set l i 0x00) → s ≡ value_of r → i + length (resultlist t x) ≤ length l
        → Wrote l i (resultlist t x) (i + 1 + s) new
    unfolding resultlist
    result_wrote e v h =
        let w = of-store e v (omega (arith, length-set l i 0x00, result_some t x n)) in
        simp (ne_eqb _ _ n) (then-byte (byte-wrote l i 0x00) w)

-- ---- the sizes of rows

pub primitive-row : (row : List ℕ) → length row ≡ 2 → word row 1 < 14 → (pool : List ℕ) → length pool ≤ 65536
    → measured_row (Some (two_of field.Nothing field.Nothing field.Primitive field.Nothing)) row pool ≡ Ok 1
unfolding wide
primitive-row row e h pool small =
    bare_known field.Primitive field.Nothing row pool small (omega arith) e (primitive_at pool row 1 refl h) (nothing_at pool (drop 2 row)) refl

module _ (row : List ℕ) where
  module _ {p : ℕ} (ep : Some p ≡ right_size [] field.Value (word row 1 ∷ word row 2 ∷ [])) where
    value_first : (pool : List ℕ) → Known pool field.Value (drop 1 row) p
    value_first pool = value_at_lem pool row 1 refl refl (value-known ep pool)

    pub value_row : length row ≡ 3 → (lead : ℕ) (pool : List ℕ) → length pool ≤ 65536
        → measured_row (Some (two lead field.Value field.Nothing)) row pool ≡ Ok (1 + p)
    unfolding wide
    value_row e lead pool small =
        lead_known lead field.Value field.Nothing row pool small (omega arith) e (value_first pool) (nothing_at pool (drop 3 row)) (omega arith)

    pub values_row : {q : ℕ} → Some q ≡ right_size [] field.Value (word row 3 ∷ word row 4 ∷ []) → length row ≡ 5 → (lead : ℕ) (pool : List ℕ)
        → length pool ≤ 65536 → measured_row (Some (two lead field.Value field.Value)) row pool ≡ Ok (1 + p + q)
    unfolding wide
    values_row eq e lead pool small =
        lead_known lead field.Value field.Value row pool small (omega arith) e (value_first pool)
        (value_at_lem pool row 3 refl refl (value-known eq pool)) refl

    pub fixed_row : {q : ℕ} → q ≡ length (unsigned (word row 3)) → length row ≡ 4 → (lead : ℕ) (pool : List ℕ) → length pool ≤ 65536
        → measured_row (Some (two lead field.Value field.Index)) row pool ≡ Ok (1 + p + q)
    unfolding wide
    fixed_row eq e lead pool small =
        lead_known lead field.Value field.Index row pool small (omega arith) e (value_first pool) (index_at pool row 3 refl eq) refl

  pub index_row_lem : {p : ℕ} → p ≡ length (unsigned (word row 1)) → length row ≡ 2 → (lead : ℕ) (pool : List ℕ) → length pool ≤ 65536
      → measured_row (Some (two lead field.Index field.Nothing)) row pool ≡ Ok (1 + p)
  unfolding wide
  index_row_lem ep e lead pool small =
      lead_known lead field.Index field.Nothing row pool small (omega arith) e (index_at pool row 1 refl ep) (nothing_at pool (drop 2 row))
      (omega arith)

  module _ {p : ℕ} (sp : OptionalKnown 1 (word row 1) (word row 2) p) where
    optional_first : (pool : List ℕ) → Known pool field.Optional (drop 1 row) p
    optional_first pool = optional_at pool row 1 refl refl (known-optional pool sp)

    pub optional_row : length row ≡ 3 → (lead : ℕ) (pool : List ℕ) → length pool ≤ 65536
        → measured_row (Some (two lead field.Optional field.Nothing)) row pool ≡ Ok (1 + p)
    unfolding wide
    optional_row e lead pool small =
        lead_known lead field.Optional field.Nothing row pool small (omega arith) e (optional_first pool) (nothing_at pool (drop 3 row))
        (omega arith)

    pub optionals_row : {q : ℕ} → OptionalKnown 1 (word row 3) (word row 4) q → length row ≡ 5 → (lead : ℕ) (pool : List ℕ)
        → length pool ≤ 65536 → measured_row (Some (two lead field.Optional field.Optional)) row pool ≡ Ok (1 + p + q)
    unfolding wide
    optionals_row sq e lead pool small =
        lead_known lead field.Optional field.Optional row pool small (omega arith) e (optional_first pool)
        (optional_at pool row 3 refl refl (known-optional pool sq)) refl

  module _ (e : length row ≡ 4) (h : word row 1 < 2) where
    resource_row : {q : ℕ} (pool : List ℕ) → Known pool field.OptionalIndex (word row 2 ∷ word row 3 ∷ []) q → {r : ℕ} → r ≡ 2 + q
        → (lead : ℕ) → length pool ≤ 65536 → measured_row (Some (two lead field.Rep field.OptionalIndex)) row pool ≡ Ok r
    unfolding wide
    resource_row pool s er lead small =
        lead_known lead field.Rep field.OptionalIndex row pool small (omega arith) e (rep_at pool row 1 refl h)
        (destructor_at pool row 2 refl refl s) (omega arith)

    pub resource_absent : word row 2 ≡ 0 → word row 3 ≡ 0 → (lead : ℕ) (pool : List ℕ) → length pool ≤ 65536
        → measured_row (Some (two lead field.Rep field.OptionalIndex)) row pool ≡ Ok 3
    resource_absent z w lead pool small =
        resource_row pool (destructor_absent (word row 2) (word row 3) pool z w) refl lead small

    pub resource_present : word row 2 ≡ 1 → {q : ℕ} → q ≡ length (unsigned (word row 3)) → (lead : ℕ) (pool : List ℕ) → length pool ≤ 65536
        → measured_row (Some (two lead field.Rep field.OptionalIndex)) row pool ≡ Ok (3 + q)
    resource_present z eq lead pool small =
        resource_row pool (destructor_present (word row 2) (word row 3) pool z eq) (omega arith) lead small

-- ---- the bytes of rows

pub primitive-wrote : (l : List ℕ) (i x : ℕ) {new : List ℕ} {q : Stored} → left q new ≡ store (valtype 0 x) i l → i + 1 ≤ length l
    → new ≡ sets l i (primvaltype x ∷ [])
unfolding valtype
primitive-wrote l i x e h = (number_wrote e h).content

module _ (p x : ℕ) where
  pub no_destructor : p ≡ 0 → length (destructor p x) ≡ 1
  unfolding destructor
  no_destructor e = simp (eq-eqb _ _ e)

  pub some_destructor : (p ≡ 0 → ⊥) → length (destructor p x) ≡ 1 + length (unsigned x)
  unfolding destructor
  some_destructor n = simp (ne_eqb _ _ n) (omega arith)

  module _ (l : List ℕ) (i lead rep : ℕ) {byte : ℕ} (eb : byte ≡ representation rep) where
    abbrev head : List ℕ
    head = set (set l i lead) (i + 1) byte

    behind : {k : ℕ} {new : List ℕ} → Wrote head (i + 2) (destructor p x) k new → Wrote l i (lead ∷ representation rep ∷ destructor p x) k new
    behind {k} {new} w = subst (λ y. Wrote l i (lead ∷ y ∷ destructor p x) k new) eb (then (bytes-wrote l i lead byte) w)

    third : (y : ℕ) → Wrote head (i + 2) (y ∷ []) (i + 3) (set head (i + 2) y)
    third y = record { place = omega arith; content = refl }

    pub resource_alone : p ≡ 0 → Wrote l i (lead ∷ representation rep ∷ destructor p x) (i + 3) (set head (i + 2) 0x00)
    unfolding destructor
    resource_alone e = behind (simp (eq-eqb _ _ e) (third 0x00))

    pub resource_wrote : (p ≡ 0 → ⊥) → {new : List ℕ} {q : Stored} → left q new ≡ store (unsigned x) (i + 3) (set head (i + 2) 0x01)
        → i + (2 + length (destructor p x)) ≤ length l
        → Wrote l i (lead ∷ representation rep ∷ destructor p x) (i + 3 + length (unsigned x)) new
    unfolding destructor
    resource_wrote n e h =
        let room : i + 3 + length (unsigned x) ≤ length (set head (i + 2) 0x01) =
        omega (arith, some_destructor n, length-set l i lead, length-set (set l i lead) (i + 1) byte, length-set head (i + 2) 0x01)
        in
        behind (simp (ne_eqb _ _ n) (then-byte (third 0x01) (number_wrote e room)))
