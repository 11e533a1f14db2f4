-- An import row: what is seen of its two fields makes its size, what a row that has a size holds, and what is answered of it.
use Rattle.std.specs.Prelude.{Ok, Some, None}
use Prim.Native.Nat.{ℕ, ◌+◌, ◌^◌, ◌≤◌, ◌<◌}
use native.Mathlib.Omega.{arith}
use mathlib.Core.Path.{◌≡◌, refl, sym, ap, ◌∙◌, subst}
use mathlib.Core.Bool.{true, false}
use mathlib.Core.List.{List, [], ◌∷◌, ◌++◌}
use lib.ListN.{length, drop, set}
use lib.Seq.{sets, get_or-drop}
use Rattle.numbers.specs.Bytes as stored
use Rattle.numbers.specs.Bytes.{store, part_of}
use Rattle.numbers.specs.Leb.{unsigned}
use Rattle.numbers.specs.Numbers.{value_of}
use Rattle.numbers.specs.Stored.{Stored}
use Rattle.fields.specs.Answer.{Refused}
use Rattle.fields.specs.declared.Field.TheVariants as field
use Rattle.fields.specs.Flaw.{Right}
use Rattle.fields.specs.declared.Refusal.{Refusal}
use Rattle.fields.specs.declared.Refusal.TheVariants.{Room}
use Rattle.fields.specs.Words.{word, wide}
use Rattle.writing.specs.Binary.{name, flag, slots, externname, externdesc, bytes}
use Rattle.writing.specs.Judge.{flaw}
use Rattle.writing.specs.Row.{measured_row, row_bytes}
use Rattle.writing.specs.inside.Extern.{option_words}
use Rattle.writing.specs.inside.Wrote.{Wrote}
use Rattle.fields.specs.Table.{shape_in}
use Rattle.fields.specs.Answers.{left}
use Rattle.writing.proofs.ExternLaws.{extern_bound, plain_bytes, plain_size}
use Rattle.writing.proofs.FlawLaws.{reference-below, extern_inside_lem}
use Rattle.writing.proofs.GroupLaws.{byte-named}
use Rattle.writing.proofs.WroteLaws as wrote
use Rattle.writing.specs.Sizes.{within, right_size}
use Rattle.writing.specs.inside.Rows.{Known, Fits}
use Rattle.writing.proofs.RowLaws.{within-fits, within_not, known_of, bare_known, bare_held, written_answer, room_answer, refused_answer}
use Rattle.imports.specs.Write.{shape_of, measured_import, write_import}
use Rattle.imports.proofs.ReferenceLaws.{reference_at, reference_some}
use Rattle.imports.proofs.SomeLaws.{import-some}

module _ (row pool : List ℕ) where
  abbrev extern : List ℕ
  extern = externname pool (drop 1 row)

  abbrev described : List ℕ
  described = externdesc (word row 12) (word row 13) (word row 14)

  pub import_known : length row ≡ 15 → length pool ≤ 65536 → {p q : ℕ}
      → Some p ≡ right_size pool field.ExternName (drop 1 row)
      → Known pool field.Reference (word row 12 ∷ word row 13 ∷ word row 14 ∷ []) q → q ≤ 7
      → (p + q < 2 ^ 32) × (measured_row (shape_of 17) row pool ≡ Ok (p + q))
  unfolding shape_in wide
  import_known width small {p} {q} e s most =
      let bound = rw (sym e) at (extern_bound pool (drop 1 row) small) in
      let few : p + q < 2 ^ 32 = omega arith in (
        few,
        bare_known field.ExternName field.Reference row pool small (omega arith) width (known_of e) (reference_at pool row 12 s) refl,
      )

  described_at : bytes pool field.Reference (drop 12 row) ≡ described
  unfolding bytes
  described_at = λ i. externdesc (get_or-drop 12 row 0 0 i) (get_or-drop 12 row 1 0 i) (get_or-drop 12 row 2 0 i)

  pub record ImportHeld (n : ℕ) : Type 0 where
    pub width : length row ≡ 15
    pub right : flaw pool field.ExternName (drop 1 row) ≡ Right
    pub sort : word row 12 < 6
    pub size : n ≡ length extern + length described
    pub made : row_bytes (shape_of 17) pool row ≡ extern ++ described

  pub import_held : {n : ℕ} → measured_row (shape_of 17) row pool ≡ Ok n → ImportHeld n
  unfolding shape_in wide bytes flaw
  import_held e =
      let h = bare_held field.ExternName field.Reference row pool e in
      record {
        width = h.width;
        right = h.first;
        sort = omega (arith, get_or-drop 12 row 0 0, reference-below (drop 12 row) h.second);
        size = omega (arith, h.size, ap length described_at);
        made = h.made ∙ ap (λ v. extern ++ v) described_at;
      }

  -- ---- an extern name without options: its words, its size and its bytes

  pub bare_size : option_words (drop 1 row) ≡ 0
      → ((one : ℕ) → Some one ≡ right_size pool field.Name (word row 1 ∷ word row 2 ∷ []) → Some (1 + one) ≡ right_size pool field.ExternName (drop 1 row))
      × (None ≡ right_size pool field.Name (word row 1 ∷ word row 2 ∷ []) → None ≡ right_size pool field.ExternName (drop 1 row))
  bare_size e = plain_size pool (drop 1 row) e (sym (get_or-drop 1 row 0 0)) (sym (get_or-drop 1 row 1 0))

  pub bare_bytes : word row 3 + word row 6 + word row 9 ≡ 0 → extern ≡ 0x00 ∷ name pool (word row 1) (word row 2)
  unfolding slots flag
  bare_bytes e =
      let x2 : word (drop 1 row) 2 ≡ 0 = omega (arith, e, get_or-drop 1 row 2 0) in
      let x5 : word (drop 1 row) 5 ≡ 0 = omega (arith, e, get_or-drop 1 row 5 0) in
      let x8 : word (drop 1 row) 8 ≡ 0 = omega (arith, e, get_or-drop 1 row 8 0) in
      let none : 0 ≡ slots (drop 1 row) = rw (x2, x5, x8) in
      plain_bytes pool (drop 1 row) none (sym (get_or-drop 1 row 0 0)) (sym (get_or-drop 1 row 1 0)) refl

  pub name_ends : flaw pool field.ExternName (drop 1 row) ≡ Right → word row 1 + word row 2 ≤ length pool
  name_ends e = omega (arith, (extern_inside_lem pool (drop 1 row) e).itself, get_or-drop 1 row 0 0, get_or-drop 1 row 1 0)

  pub bare_wrote : flaw pool field.ExternName (drop 1 row) ≡ Right → word row 3 + word row 6 + word row 9 ≡ 0 → (old : List ℕ) (to : ℕ)
      → to + length extern ≤ length old → {q : Stored} {s : ℕ} {new : List ℕ}
      → stored.left q new ≡ store (unsigned (word row 2) ++ part_of pool (word row 1) (word row 2)) (to + 1) (set old to 0x00) → s ≡ value_of q
      → Wrote old to extern (to + 1 + s) new
  bare_wrote right e old to room d v =
      rw (bare_bytes e)
      (byte-named old to 0x00 pool (word row 1) (word row 2) (name_ends right) (omega (arith, ap length (bare_bytes e), room)) d v)

  pub import_put : {to size mid : ℕ} {old new last : List ℕ} → measured_row (shape_of 17) row pool ≡ Ok size → Wrote old to extern mid new
      → last ≡ sets new mid described → last ≡ sets old to (row_bytes (shape_of 17) pool row)
  import_put {to} {size} {mid} {old} {new} {last} e x y =
      let second : Wrote new mid described (mid + length described) last = record { place = refl; content = y } in
      (wrote.then x second).content ∙ ap (λ v. sets old to v) (sym (import_held e).made)

  -- ---- answers

  pub measured_as : {k r : ℕ} → k ≡ word row 0 → k ≡ 17 → measured_row (shape_of 17) row pool ≡ Ok r → Ok r ≡ measured_import row pool
  unfolding measured_import
  measured_as {k} {r} e s h = sym (subst (λ (n : ℕ). measured_row (shape_of n) row pool ≡ Ok r) (sym s ∙ e) h)

  module _ {n : ℕ} (e : measured_import row pool ≡ Ok n) where
    as_import : measured_row (shape_of 17) row pool ≡ Ok n
    unfolding measured_import
    as_import = subst (λ (k : ℕ). measured_row (shape_of k) row pool ≡ Ok n) (import-some row pool n e).0 e

    some : 0 < n
    some = omega (arith, (import_held as_import).size, reference_some (word row 12) (word row 13) (word row 14))

    module _ (out : List ℕ) (at : ℕ) where
      pub import_fits : within n at (length out) ≡ true → Fits (shape_of 17) row pool at (length out)
      import_fits t = record { size = n; measured = as_import; ends = (within-fits n at (length out) t).1 }

      pub import_written : within n at (length out) ≡ true → {new : List ℕ} → new ≡ sets out at (row_bytes (shape_of 17) pool row)
          → left (Ok n) new ≡ write_import row pool out at
      unfolding measured_import write_import
      import_written t {new} p =
          written_answer (shape_of (word row 0)) row pool e out at (within-fits n at (length out) t).1
          (subst (λ (k : ℕ). new ≡ sets out at (row_bytes (shape_of k) pool row)) (sym (import-some row pool n e).0) p)

      pub import_room : within n at (length out) ≡ false → left (Refused Room n) out ≡ write_import row pool out at
      unfolding measured_import write_import
      import_room t = room_answer (shape_of (word row 0)) row pool e out at (within_not n at (length out) t some)

  pub import_refused : {w : Refusal} {v : ℕ} → measured_import row pool ≡ Refused w v → (out : List ℕ) (at : ℕ)
      → left (Refused w v) out ≡ write_import row pool out at
  unfolding measured_import write_import
  import_refused e out at = refused_answer (shape_of (word row 0)) row pool e out at
