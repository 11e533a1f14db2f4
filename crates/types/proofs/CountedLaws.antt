-- The rounds of the loops over a counted kind's elements: an element that is seen, and one that is put.
use Rattle.std.specs.Prelude.{Some}
use Prim.Native.Nat.{ℕ, zero, suc, ◌+◌, ◌-◌, ◌≤◌, ◌<◌}
use native.Mathlib.Omega.{arith}
use mathlib.Core.Path.{◌≡◌, refl, ap, ◌∙◌, subst}
use mathlib.Core.Bool.{Bool, true, false, cond}
use mathlib.Core.List.{List, [], ◌∷◌, ◌++◌}
use lib.Dec.{eqb}
use lib.ListN.{length, drop, set}
use lib.Seq.{sets}
use Rattle.numbers.specs.Bytes as stored
use Rattle.numbers.specs.Bytes.{store, part_of}
use Rattle.numbers.specs.Leb.{unsigned}
use Rattle.numbers.specs.Numbers.{value_of}
use Rattle.numbers.specs.Stored.{Stored}
use Rattle.fields.specs.declared.Field.TheVariants as field
use Rattle.fields.specs.Words.{word, wide}
use Rattle.writing.specs.Binary.{valtype, optional}
use Rattle.writing.specs.Judge.{flaw}
use Rattle.writing.specs.inside.Wrote.{Wrote}
use Rattle.fields.specs.Shape.{repeated, widths}
use Rattle.fields.specs.Table.{elements}
use Rattle.writing.proofs.WroteLaws.{then, then-byte, room-first, room-then, of-store}
use Rattle.writing.specs.Sizes.{right_size}
use Rattle.writing.specs.inside.Rows.{Rights}
use Rattle.writing.proofs.RowLaws.{value-known, case_known, value_at_lem, case_at, nothing_at}
use Rattle.writing.proofs.ElementLaws.{known_next, name_at-small, name_at-known, stored-inside, name-put, named_first, named_room}
use Rattle.writing.proofs.GroupLaws.{Going, Putting, putting_round, value_words, second_value_words, second_optional_words, name_element, value_element, labelled_element, case_element, byte-wrote}
use Rattle.types.specs.inside.Optional.{OptionalKnown}
use Rattle.types.specs.Table.{label, labelvaltype, case}
use Rattle.types.proofs.SmallLaws.{value-few}

-- ---- an element that is seen

module _ {pool row : List ℕ} {from n base i at made : ℕ} where
  pub label_next : Going pool (field.Name ∷ field.Nothing ∷ []) (label pool) 65541 row from n base (n - i) at made → i < n → length pool ≤ 65536
      → {one : ℕ} → Some one ≡ right_size pool field.Name (word row at ∷ word row (at + 1) ∷ [])
      → Going pool (field.Name ∷ field.Nothing ∷ []) (label pool) 65541 row from n base (n - (i + 1)) (at + 2) (made + one)
  unfolding wide widths
  label_next k h small e =
      known_next field.Name field.Nothing pool (name_element pool) k (omega arith) (name_at-known pool row at e) (nothing_at pool (drop (at + 2) row)) (omega arith)
      (name_at-small pool row at small e) refl

  pub value_next : Going pool (field.Value ∷ field.Nothing ∷ []) (λ ws. valtype (word ws 0) (word ws 1)) 5 row from n base (n - i) at made → i < n
      → {one : ℕ} → Some one ≡ right_size [] field.Value (word row at ∷ word row (at + 1) ∷ [])
      → Going pool (field.Value ∷ field.Nothing ∷ []) (λ ws. valtype (word ws 0) (word ws 1)) 5 row from n base (n - (i + 1)) (at + 2) (made + one)
  unfolding wide widths
  value_next k h e =
      known_next field.Value field.Nothing pool (value_element pool) k (omega arith) (value_at_lem pool row at refl refl (value-known e pool))
      (nothing_at pool (drop (at + 2) row)) (omega arith) (value-few (word row at) (word row (at + 1)) e) refl

  pub field_next : Going pool (field.Name ∷ field.Value ∷ []) (labelvaltype pool) 65546 row from n base (n - i) at made → i < n
      → length pool ≤ 65536 → {one two : ℕ} → Some one ≡ right_size pool field.Name (word row at ∷ word row (at + 1) ∷ [])
      → Some two ≡ right_size [] field.Value (word row (at + 2) ∷ word row (at + 3) ∷ [])
      → Going pool (field.Name ∷ field.Value ∷ []) (labelvaltype pool) 65546 row from n base (n - (i + 1)) (at + 4) (made + (one + two))
  unfolding wide widths
  field_next k h small e d =
      let next : at + 3 ≡ at + 2 + 1 = omega arith in
      known_next field.Name field.Value pool (labelled_element pool) k (omega arith) (name_at-known pool row at e)
      (value_at_lem pool row (at + 2) refl (ap (λ j. word row j) next) (value-known d pool)) refl
      (omega (arith, name_at-small pool row at small e, value-few (word row (at + 2)) (word row (at + 3)) d)) refl

  pub case_next : Going pool (field.Name ∷ field.OptionalThenZero ∷ []) (case pool) 65548 row from n base (n - i) at made → i < n
      → length pool ≤ 65536 → {one two : ℕ} → Some one ≡ right_size pool field.Name (word row at ∷ word row (at + 1) ∷ [])
      → OptionalKnown 1 (word row (at + 2)) (word row (at + 3)) two → two ≤ 6
      → Going pool (field.Name ∷ field.OptionalThenZero ∷ []) (case pool) 65548 row from n base (n - (i + 1)) (at + 4) (made + (one + two + 1))
  unfolding wide widths optional
  case_next k h small {one} {two} e s few =
      let t = word row (at + 2) in
      let x = word row (at + 3) in
      let next : at + 3 ≡ at + 2 + 1 = omega arith in
      known_next field.Name field.OptionalThenZero pool (case_element pool) k (omega arith) (name_at-known pool row at e)
      (case_at pool row (at + 2) refl (ap (λ j. word row j) next) (case_known t x pool s.right (ap (λ (m : ℕ). m + 1) (s.size ∙ go t x (eqb t 2)))))
      (omega arith) (omega (arith, name_at-small pool row at small e)) refl
    where
      go : (t x : ℕ) (b : Bool) → cond b 1 (1 + length (valtype t x)) ≡ length (cond b (0x00 ∷ []) (0x01 ∷ valtype t x))
      go t x true = refl
      go t x false = omega arith

-- ---- an element that is put

-- indices are right: groups of two words of which nothing is needed
pub indices_right : (n : ℕ) (ws : List ℕ) → Rights [] (repeated n (field.Index ∷ field.Index ∷ [])) ws
unfolding Rights repeated flaw wide
indices_right zero ws = tt
indices_right (suc n) ws = (refl, (refl, indices_right n (drop 1 (drop 1 ws))))

module _ {row : List ℕ} {from n : ℕ} {old : List ℕ} {base due at to : ℕ} {now mid : List ℕ} {s : ℕ} {r : Stored} where
  pub value_put : Putting [] (field.Index ∷ field.Index ∷ []) (λ ws. valtype (word ws 0) (word ws 1)) row from n old base due at to now
      → 0 < due → base + length (elements n 2 (λ ws. valtype (word ws 0) (word ws 1)) (drop from row)) ≤ length old
      → stored.left r mid ≡ store (valtype (word row at) (word row (at + 1))) to now → s ≡ value_of r
      → Wrote now to (valtype (word (drop at row) 0) (word (drop at row) 1)) (to + s) mid × (to + s ≤ length mid)
  unfolding wide widths
  value_put k h room e v =
      let round = putting_round due k h room in
      let w : Wrote now to (valtype (word (drop at row) 0) (word (drop at row) 1)) (to + s) mid =
      of-store (e ∙ ap (λ l. store l to now) (value_words row at)) v round.1 in
      (w, stored-inside w round.1)

  module _ {pool : List ℕ} where
    pub label_put : Putting pool (field.Name ∷ field.Nothing ∷ []) (label pool) row from n old base due at to now
        → 0 < due → base + length (elements n 2 (label pool) (drop from row)) ≤ length old
        → stored.left r mid ≡ store (unsigned (word row (at + 1)) ++ part_of pool (word row at) (word row (at + 1))) to now → s ≡ value_of r
        → Wrote now to (label pool (drop at row)) (to + s) mid × (to + s ≤ length mid)
    unfolding wide widths
    label_put k h room e v =
        let round = putting_round due k h room in
        let w = name-put pool row at e v (field.Nothing ∷ []) round.0 round.1 in
        (w, stored-inside w round.1)

    module _ (k : Putting pool (field.Name ∷ field.Value ∷ []) (labelvaltype pool) row from n old base due at to now) (h : 0 < due)
        (room : base + length (elements n 4 (labelvaltype pool) (drop from row)) ≤ length old)
        (e : stored.left r mid ≡ store (unsigned (word row (at + 1)) ++ part_of pool (word row at) (word row (at + 1))) to now)
        (v : s ≡ value_of r) where
      pub field_label : Wrote now to (label pool (drop at row)) (to + s) mid
          × (to + s + length (valtype (word (drop at row) 2) (word (drop at row) 3)) ≤ length mid)
      unfolding wide widths
      field_label =
          let second : List ℕ → List ℕ = λ ws. valtype (word ws 2) (word ws 3) in
          (named_first field.Value second refl k h room e v, named_room field.Value second refl k h room e v refl)

      pub field_put : {new : List ℕ} {t : ℕ} {q : Stored} → stored.left q new ≡ store (valtype (word row (at + 2)) (word row (at + 3))) (to + s) mid
          → t ≡ value_of q → Wrote now to (labelvaltype pool (drop at row)) (to + s + t) new × (to + s + t ≤ length new)
      field_put {new} {t} d u =
          let w : Wrote mid (to + s) (valtype (word (drop at row) 2) (word (drop at row) 3)) (to + s + t) new =
          of-store (d ∙ ap (λ l. store l (to + s) mid) (second_value_words row at)) u field_label.1 in
          (then field_label.0 w, stored-inside w field_label.1)

    module _ (k : Putting pool (field.Name ∷ field.OptionalThenZero ∷ []) (case pool) row from n old base due at to now) (h : 0 < due)
        (room : base + length (elements n 4 (case pool) (drop from row)) ≤ length old)
        (e : stored.left r mid ≡ store (unsigned (word row (at + 1)) ++ part_of pool (word row at) (word row (at + 1))) to now)
        (v : s ≡ value_of r) where
      case_label : Wrote now to (label pool (drop at row)) (to + s) mid
          × (to + s + length (optional (word (drop at row) 2) (word (drop at row) 3) ++ 0x00 ∷ []) ≤ length mid)
      unfolding wide widths
      case_label =
          let second : List ℕ → List ℕ = λ ws. optional (word ws 2) (word ws 3) ++ 0x00 ∷ [] in
          (named_first field.OptionalThenZero second refl k h room e v, named_room field.OptionalThenZero second refl k h room e v refl)

      pub case_room : (to + s ≤ length mid) × (to + s + length (optional (word row (at + 2)) (word row (at + 3))) ≤ length mid)
      case_room =
          let o = optional (word (drop at row) 2) (word (drop at row) 3) in
          let fits = room-first o (0x00 ∷ []) (to + s) (length mid) case_label.1 in
          (omega arith, omega (arith, ap length (second_optional_words row at)))

      module _ {next : ℕ} {new : List ℕ} (w : Wrote mid (to + s) (optional (word row (at + 2)) (word row (at + 3))) next new) where
        case_optional : Wrote mid (to + s) (optional (word (drop at row) 2) (word (drop at row) 3)) next new
        case_optional = subst (λ l. Wrote mid (to + s) l next new) (second_optional_words row at) w

        pub case_byte : next + 1 ≤ length new
        case_byte = room-then case_optional (0x00 ∷ []) case_label.1

        pub case_put : Wrote now to (case pool (drop at row)) (next + 1) (set new next 0x00)
        case_put = then case_label.0 (then case_optional (byte-wrote new next 0x00))

-- ---- a row that is put: its byte, its count and its elements g

module _ (lead n : ℕ) (g old : List ℕ) (to : ℕ) {mid : List ℕ} {s : ℕ} {r : Stored} (room : to + length (lead ∷ (unsigned n ++ g)) ≤ length old)
    (e : stored.left r mid ≡ store (unsigned n) (to + 1) (set old to lead)) (v : s ≡ value_of r) where
  pub counted_front : Wrote old to (lead ∷ unsigned n) (to + 1 + s) mid × (to + 1 + s + length g ≤ length mid)
  counted_front =
      let one = byte-wrote old to lead in
      let fits = room-first (unsigned n) g (to + 1) (length (set old to lead)) (room-then one (unsigned n ++ g) room) in
      let w = then-byte one (of-store e v fits) in
      (w, room-then w g room)

  pub counted_put : {new : List ℕ} → new ≡ sets mid (to + 1 + s) g → Wrote old to (lead ∷ (unsigned n ++ g)) (to + 1 + s + length g) new
  counted_put e = then counted_front.0 (record { place = refl; content = e })
