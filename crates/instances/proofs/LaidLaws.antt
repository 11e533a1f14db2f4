-- A row's head and its elements behind it: what is seen of them makes the row's size, and put one after the other they are its bytes.
use Rattle.std.specs.Prelude.{Ok}
use Rattle.std.specs.Prelude.{Some, IfSome}
use Rattle.std.proofs.lemmas.Option.{IfSome_then}
use Rattle.fields.specs.declared.Shape.{Shape}
use Rattle.std.specs.Prelude.{Option}
use Rattle.std.specs.Prelude.{◌≡◌, ℕ, ◌+◌, ◌*◌, ◌≤◌, List, [], ◌∷◌, ◌++◌, length, drop}
use native.Mathlib.Omega.{arith}
use mathlib.Core.Path.{refl, sym, ap, ◌∙◌, subst}
use mathlib.Core.List.{append_assoc, append-nil}
use lib.ListN.{length-append}
use lib.Seq.{sets, length-sets}
use Rattle.numbers.specs.Leb.{unsigned}
use Rattle.fields.specs.declared.Field.{Field}
use Rattle.fields.specs.declared.Field.TheVariants as field
use Rattle.fields.specs.Words.{word, wide}
use Rattle.fields.specs.Shape.{repeated, widths}
use Rattle.fields.specs.Table.{elements}
use Rattle.fields.proofs.NearLaws.{first_word}
use Rattle.writing.specs.Binary.{bytes}
use Rattle.writing.specs.Judge.{flaw}
use Rattle.writing.specs.Row.{measured_row, row_bytes}
use Rattle.writing.specs.inside.Rows.{Rights, Groups, Fits}
use Rattle.writing.specs.inside.Wrote.{Wrote}
use Rattle.writing.proofs.TableLaws.{strings}
use Rattle.writing.proofs.WroteLaws.{then, room-first, room-then}
use Rattle.writing.proofs.RowLaws.{index_at, nothing_at, many_known, many_held, counted_known, counted_held}
use Rattle.instances.specs.inside.Head.{instantiate_shape, instantiate_head, export_items_shape, export_items_head, Headed}

-- what was stored, by another name
pub wrote_as : {old a b new : List ℕ} {to next : ℕ} → a ≡ b → Wrote old to a next new → Wrote old to b next new
wrote_as {old} {a} {b} {new} {to} {next} e w = subst (λ l. Wrote old to l next new) e w

-- ---- a row that fits

pub record Laid (found : Option Shape) (head : List ℕ) (g : List Field) (w : ℕ) (element : List ℕ → List ℕ) (from n : ℕ) (row pool : List ℕ) (to room : ℕ)
    : Type 0 where
  pub width : length row ≡ from + n * w
  pub groups : Rights pool (repeated n g) (drop from row)
  pub ends : to + length (head ++ elements n w element (drop from row)) ≤ room
  pub made : row_bytes found pool row ≡ head ++ elements n w element (drop from row)

module _ {found : Option Shape} {head : List ℕ} {g : List Field} {w : ℕ} {element : List ℕ → List ℕ} {from n : ℕ} {row pool : List ℕ} {to : ℕ} where
  pub head_room : {room : ℕ} → Laid found head g w element from n row pool to room → to + length head ≤ room
  head_room {room} l = room-first head (elements n w element (drop from row)) to room l.ends

  module _ {old : List ℕ} (l : Laid found head g w element from n row pool to (length old)) {next : ℕ} {mid : List ℕ} (a : Wrote old to head next mid) where
    pub elements_room : next + length (elements n w element (drop from row)) ≤ length mid
    elements_room = room-then a (elements n w element (drop from row)) l.ends

    pub laid_put : {new : List ℕ} → new ≡ sets mid next (elements n w element (drop from row)) → new ≡ sets old to (row_bytes found pool row)
    laid_put e = (then a (record { place = refl; content = e })).content ∙ ap (λ bs. sets old to bs) (sym l.made)

    pub laid_same : {new : List ℕ} → new ≡ sets mid next (elements n w element (drop from row)) → length new ≡ length old
    laid_same e = ap length (laid_put e) ∙ length-sets old to (row_bytes found pool row)

-- ---- 00, an index, a count and arguments

module _ (d : Field) {w : ℕ} (ew : w ≡ widths (field.Name ∷ d ∷ [])) (row pool : List ℕ) {element : List ℕ → List ℕ}
    (same : (ws : List ℕ) → element ws ≡ strings pool (field.Name ∷ d ∷ []) ws) where
  pub instantiate_known : length pool ≤ 65536 → length row ≤ 16384 → {base : ℕ} → Headed (instantiate_head row) row 3 (word row 2) w base → (o : Option ℕ)
      → IfSome o (λ r. Groups pool (field.Name ∷ d ∷ []) element (word row 2) (drop 3 row) base r)
      → IfSome o (λ r. measured_row (Some (instantiate_shape d)) row pool ≡ Ok r)
  unfolding wide flaw bytes
  instantiate_known small short h o s =
      IfSome_then o s (λ r g. many_known (field.Fixed 0x00) field.Nothing field.Index field.Name d field.Nothing refl refl ew row pool same (λ ws. refl) (λ ws. refl) small short
      (omega (arith, h.width)) (index_at pool row 1 refl refl)
      (omega (arith, h.size, length-append (unsigned (word row 1)) (unsigned (word row 2))))
      g (nothing_at pool (drop (3 + word row 2 * w) row)) (omega arith))

  pub instantiate_laid : {to room : ℕ} → Fits (Some (instantiate_shape d)) row pool to room
      → Laid (Some (instantiate_shape d)) (instantiate_head row) (field.Name ∷ d ∷ []) w element 3 (word row 2) row pool to room
  unfolding wide bytes
  instantiate_laid f =
      let h = many_held (field.Fixed 0x00) field.Nothing field.Index field.Name d field.Nothing refl refl ew row pool same f.measured in
      let u = unsigned (word row 1) in
      let v = unsigned (word row 2) in
      let l = elements (word row 2) w element (drop 3 row) in
      let p = first_word row 1 in
      record {
        width = omega (arith, h.width);
        groups = h.groups;
        ends = omega (arith, h.size, f.ends, ap (λ x. length (unsigned x)) p, length-append (0x00 ∷ (u ++ v)) l, length-append u v);
        made = h.made ∙ (λ i. 0x00 ∷ (unsigned (sym p i) ++ (v ++ append-nil l i))) ∙ ap (λ bs. 0x00 ∷ bs) (sym (append_assoc u v l));
      }

-- ---- 01, a count and items

module _ (c d : Field) {w : ℕ} (ew : w ≡ widths (c ∷ d ∷ [])) (row pool : List ℕ) {element : List ℕ → List ℕ}
    (same : (ws : List ℕ) → element ws ≡ strings pool (c ∷ d ∷ []) ws) where
  pub export_items_known : length pool ≤ 65536 → length row ≤ 16384 → {base : ℕ} → Headed (export_items_head row) row 2 (word row 1) w base → (o : Option ℕ)
      → IfSome o (λ r. Groups pool (c ∷ d ∷ []) element (word row 1) (drop 2 row) base r)
      → IfSome o (λ r. measured_row (Some (export_items_shape c d)) row pool ≡ Ok r)
  export_items_known small short h o s =
      IfSome_then o s (λ r g. counted_known 0x01 c d ew row pool same small short h.width (omega (arith, h.size)) g)

  pub export_items_laid : {to room : ℕ} → Fits (Some (export_items_shape c d)) row pool to room
      → Laid (Some (export_items_shape c d)) (export_items_head row) (c ∷ d ∷ []) w element 2 (word row 1) row pool to room
  export_items_laid f =
      let h = counted_held 0x01 c d ew row pool same f.measured in
      let u = unsigned (word row 1) in
      let l = elements (word row 1) w element (drop 2 row) in
      record { width = h.width; groups = h.groups; ends = omega (arith, h.size, f.ends, length-append u l); made = h.made }
