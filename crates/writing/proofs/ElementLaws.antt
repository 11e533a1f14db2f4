-- Elements of two fields in the loops over a count: an element that is seen, and one that is put, its first field before its second.
use Rattle.std.specs.Prelude.{Some}
use Prim.Native.Nat.{ℕ, suc, ◌+◌, ◌≤◌, ◌<◌}
use native.Mathlib.Omega.{arith}
use mathlib.Core.Path.{◌≡◌, refl, sym, ap, ◌∙◌, subst}
use mathlib.Core.List.{List, [], ◌∷◌, ◌++◌, append-nil}
use lib.ListN.{length, drop, length-append}
use lib.Seq.{drop-drop}
use Rattle.numbers.specs.Bytes as stored
use Rattle.numbers.specs.Bytes.{store, part_of}
use Rattle.numbers.specs.Leb.{unsigned}
use Rattle.numbers.specs.Numbers.{value_of}
use Rattle.numbers.specs.Stored.{Stored}
use Rattle.fields.specs.declared.Field.{Field}
use Rattle.fields.specs.declared.Field.TheVariants as field
use Rattle.fields.specs.Flaw.{Right}
use Rattle.fields.specs.Words.{word, wide}
use Rattle.fields.specs.Shape.{widths}
use Rattle.fields.specs.Table.{elements}
use Rattle.writing.specs.Binary.{name, bytes}
use Rattle.writing.specs.Judge.{flaw}
use Rattle.writing.specs.Sizes.{right_size}
use Rattle.writing.specs.inside.Wrote.{Wrote}
use Rattle.writing.specs.inside.Rows.{Known, Rights}
use Rattle.writing.proofs.TableLaws.{strings}
use Rattle.writing.proofs.WroteLaws.{then, same_size, room-first, room-then, of-store}
use Rattle.writing.proofs.RowLaws.{known_of, name_small, name_at_lem}
use Rattle.writing.proofs.GroupLaws.{Going, going_next, Putting, putting_round, name_words, name_held, part_name}

-- the bytes of two fields
pub pair-element : (f g : Field) (pool ws : List ℕ) → bytes pool f ws ++ bytes pool g (drop (wide f) ws) ≡ strings pool (f ∷ g ∷ []) ws
unfolding strings
pair-element f g pool ws = ap (λ l. bytes pool f ws ++ l) (sym (append-nil (bytes pool g (drop (wide f) ws))))

-- ---- an element that is seen

module _ (f g : Field) (pool row : List ℕ) (at : ℕ) {p q : ℕ} (a : Known pool f (drop at row) p) (b : Known pool g (drop (at + wide f) row) q) where
  two_right : Rights pool (f ∷ g ∷ []) (drop at row)
  unfolding Rights
  two_right = (a.right, (subst (λ l. flaw pool g l ≡ Right) (sym (drop-drop (wide f) at row)) b.right, tt))

  two_size : p + q ≡ length (strings pool (f ∷ g ∷ []) (drop at row))
  unfolding strings
  two_size =
      let x = bytes pool f (drop at row) in
      let y = bytes pool g (drop (wide f) (drop at row)) in
      omega (
        arith,
        a.size,
        b.size,
        ap (λ l. length (bytes pool g l)) (drop-drop (wide f) at row),
        length-append x (y ++ []),
        length-append y [],
      )

-- two fields are seen, of which an element has the bytes
module _ (f g : Field) (pool : List ℕ) {element : List ℕ → List ℕ} (same : (ws : List ℕ) → element ws ≡ strings pool (f ∷ g ∷ []) ws) {most : ℕ}
    {row : List ℕ} {from n base due m at made : ℕ} where
  pub known_next : Going pool (f ∷ g ∷ []) element most row from n base due at made → due ≡ suc m
      → {p q one at' : ℕ} → Known pool f (drop at row) p → Known pool g (drop (at + wide f) row) q → one ≡ p + q → one ≤ most
      → at' ≡ at + widths (f ∷ g ∷ []) → Going pool (f ∷ g ∷ []) element most row from n base m at' (made + one)
  known_next k h a b e few ea =
      going_next k h (two_right f g pool row at a b) (e ∙ two_size f g pool row at a b ∙ ap length (sym (same (drop at row)))) few ea

-- a name of a small pool has few bytes
pub name_at-small : (pool row : List ℕ) (at : ℕ) {one : ℕ} → length pool ≤ 65536
    → Some one ≡ right_size pool field.Name (word row at ∷ word row (at + 1) ∷ []) → one ≤ 65541
name_at-small pool row at small e = rw (sym e) at (name_small pool (word row at) (word row (at + 1)) small)

pub name_at-known : (pool row : List ℕ) (at : ℕ) {one : ℕ} → Some one ≡ right_size pool field.Name (word row at ∷ word row (at + 1) ∷ [])
    → Known pool field.Name (drop at row) one
name_at-known pool row at e = name_at_lem pool row at refl refl (known_of e)

-- ---- an element that is put

-- what was stored where there was room ends within the buffer
pub stored-inside : {old bs new : List ℕ} {to next : ℕ} → Wrote old to bs next new → to + length bs ≤ length old → next ≤ length new
stored-inside w room = omega (arith, w.place, same_size w)

-- a name that is right
pub name-put : (pool row : List ℕ) (at : ℕ) {to s : ℕ} {now mid : List ℕ} {r : Stored}
    → stored.left r mid ≡ store (unsigned (word row (at + 1)) ++ part_of pool (word row at) (word row (at + 1))) to now → s ≡ value_of r
    → (fs : List Field) → Rights pool (field.Name ∷ fs) (drop at row)
    → to + length (name pool (word (drop at row) 0) (word (drop at row) 1)) ≤ length now
    → Wrote now to (name pool (word (drop at row) 0) (word (drop at row) 1)) (to + s) mid
name-put pool row at {to} {s} {now} e v fs right room =
    let same = part_name pool (word row at) (word row (at + 1)) (name_held row at pool fs right) ∙ name_words row at pool in
    of-store (e ∙ ap (λ l. store l to now) same) v room

-- the first field's bytes are put, and then bs, which are the second's
module _ {pool : List ℕ} {f g : Field} (first second : List ℕ → List ℕ) {row : List ℕ} {from n : ℕ} {old : List ℕ} {base due at to : ℕ}
    {now mid : List ℕ} {past : ℕ}
    (k : Putting pool (f ∷ g ∷ []) (λ ws. first ws ++ second ws) row from n old base due at to now) (h : 0 < due)
    (room : base + length (elements n (widths (f ∷ g ∷ [])) (λ ws. first ws ++ second ws) (drop from row)) ≤ length old)
    (put : Rights pool (f ∷ g ∷ []) (drop at row) → to + length (first (drop at row)) ≤ length now
    → Wrote now to (first (drop at row)) past mid) where
  pub both_right : Rights pool (f ∷ g ∷ []) (drop at row)
  both_right = (putting_round due k h room).0

  both_room : to + length (first (drop at row) ++ second (drop at row)) ≤ length now
  both_room = (putting_round due k h room).1

  pub first_put : Wrote now to (first (drop at row)) past mid
  first_put = put both_right (room-first (first (drop at row)) (second (drop at row)) to (length now) both_room)

  pub second_room : {bs : List ℕ} → bs ≡ second (drop at row) → past + length bs ≤ length mid
  second_room e = omega (arith, room-then first_put (second (drop at row)) both_room, ap length e)

  module _ {bs new : List ℕ} {next : ℕ} (e : bs ≡ second (drop at row)) (w : Wrote mid past bs next new) where
    pub second_put : Wrote now to (first (drop at row) ++ second (drop at row)) next new
    second_put = then first_put (subst (λ l. Wrote mid past l next new) e w)

    pub second_inside : next ≤ length new
    second_inside = stored-inside w (second_room e)

-- a name is put, and then bs, which are the second field's bytes; an element has w words
module _ (g : Field) (second : List ℕ → List ℕ) {w : ℕ} (ew : w ≡ widths (field.Name ∷ g ∷ [])) {pool row : List ℕ} {from n : ℕ} {old : List ℕ}
    {base due at to : ℕ} {now mid : List ℕ} {s : ℕ} {r : Stored}
    (k : Putting pool (field.Name ∷ g ∷ []) (λ ws. name pool (word ws 0) (word ws 1) ++ second ws) row from n old base due at to now) (h : 0 < due)
    (room : base + length (elements n w (λ ws. name pool (word ws 0) (word ws 1) ++ second ws) (drop from row)) ≤ length old)
    (e : stored.left r mid ≡ store (unsigned (word row (at + 1)) ++ part_of pool (word row at) (word row (at + 1))) to now) (v : s ≡ value_of r) where
  abbrev Named : List ℕ → List ℕ
  Named ws = name pool (word ws 0) (word ws 1)

  all_room : base + length (elements n (widths (field.Name ∷ g ∷ [])) (λ ws. name pool (word ws 0) (word ws 1) ++ second ws) (drop from row)) ≤ length old
  all_room = subst (λ j. base + length (elements n j (λ ws. name pool (word ws 0) (word ws 1) ++ second ws) (drop from row)) ≤ length old) ew room

  put_first : Rights pool (field.Name ∷ g ∷ []) (drop at row) → to + length (Named (drop at row)) ≤ length now
      → Wrote now to (Named (drop at row)) (to + s) mid
  put_first = name-put pool row at e v (g ∷ [])

  pub named_right : Rights pool (field.Name ∷ g ∷ []) (drop at row)
  named_right = both_right Named second k h all_room put_first

  pub named_first : Wrote now to (name pool (word (drop at row) 0) (word (drop at row) 1)) (to + s) mid
  named_first = first_put Named second k h all_room put_first

  pub named_room : {bs : List ℕ} → bs ≡ second (drop at row) → to + s + length bs ≤ length mid
  named_room = second_room Named second k h all_room put_first

  pub named_put : {bs new : List ℕ} {next : ℕ} → bs ≡ second (drop at row) → Wrote mid (to + s) bs next new
      → Wrote now to (name pool (word (drop at row) 0) (word (drop at row) 1) ++ second (drop at row)) next new
  named_put = second_put Named second k h all_room put_first
