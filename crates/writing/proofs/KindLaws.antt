-- Answers about the shape that a table has for a row's kind: as answers about the row, and that rows whose production begins with a byte have bytes.
use Rattle.std.specs.Prelude.{Option, None, Some, IfSome, Ok}
use Rattle.std.proofs.lemmas.Option.{IfSome_then}
use Prim.Native.Nat.{ℕ, ◌<◌}
use native.Mathlib.Omega.{arith}
use mathlib.Core.Path.{◌≡◌, sym, ap, ◌∙◌, subst}
use mathlib.Core.Bool.{Bool, true, false, cond}
use mathlib.Core.List.{List, [], ◌∷◌}
use lib.Dec.{eqb}
use lib.ListN.{length, drop}
use lib.Seq.{sets}
use Rattle.numbers.proofs.Impossible.{impossible}
use Rattle.fields.specs.Answer.{Refused}
use Rattle.fields.specs.declared.Refusal.TheVariants.{Room}
use Rattle.fields.specs.declared.Shape.{Shape}
use Rattle.fields.specs.Words.{word}
use Rattle.fields.specs.Table.{Line, shape_in, production_in}
use Rattle.fields.specs.Answers.{left}
use Rattle.writing.specs.Agree.{Row}
use Rattle.writing.specs.Row.{measured_row, row_bytes, write_row}
use Rattle.writing.specs.Sizes.{within}
use Rattle.writing.specs.inside.Rows.{Fits}
use Rattle.writing.proofs.RowLaws.{within-fits, within_not, room_answer}
use Rattle.writing.proofs.WholeLaws.{accepted}

-- ---- answers about the shape of the kind k that code found, j being the row's first word

module _ (ls : List Line) {i j k : ℕ} {found : Option Shape} (e : shape_in ls k ≡ found) (f : i ≡ j) (h : i ≡ k) where
  pub as_kind : shape_in ls j ≡ found
  as_kind = ap (shape_in ls) (sym f ∙ h) ∙ e

  pub measured_as : (row pool : List ℕ) {r : ℕ} → measured_row found row pool ≡ Ok r → measured_row (shape_in ls j) row pool ≡ Ok r
  measured_as row pool m = ap (λ s. measured_row s row pool) as_kind ∙ m

  pub sized_as : (row pool : List ℕ) (o : Option ℕ) → IfSome o (λ r. measured_row found row pool ≡ Ok r)
      → IfSome o (λ r. measured_row (shape_in ls j) row pool ≡ Ok r)
  sized_as row pool o s = IfSome_then o s (λ r m. measured_as row pool m)

  pub fits_as : {row pool : List ℕ} {to room : ℕ} → Fits (shape_in ls j) row pool to room → Fits found row pool to room
  fits_as {row} {pool} {to} {room} t = subst (λ s. Fits s row pool to room) as_kind t

  pub bytes_as : (row pool : List ℕ) → row_bytes found pool row ≡ row_bytes (shape_in ls j) pool row
  bytes_as row pool = ap (λ s. row_bytes s pool row) (sym as_kind)

-- a size that was found, and room for it
pub sized-fits : {found : Option Shape} {row pool : List ℕ} {at room size : ℕ} → (0 < size → measured_row found row pool ≡ Ok size)
    → within size at room ≡ true → Fits found row pool at room
sized-fits {found} {row} {pool} {at} {room} {size} m e =
    let h = within-fits size at room e in record { size = size; measured = m h.0; ends = h.1 }

pub put_as : (old : List ℕ) (to : ℕ) {new a b : List ℕ} → a ≡ b → new ≡ sets old to a → new ≡ sets old to b
put_as old to e p = p ∙ ap (λ l. sets old to l) e

-- no kind has no bytes
pub put_not : {found : Option Shape} → found ≡ None → (row pool old : List ℕ) (to : ℕ) → old ≡ sets old to (row_bytes found pool row)
unfolding row_bytes
put_not e row pool old to = ap (λ f. sets old to (row_bytes f pool row)) (sym e)

-- ---- rows that have bytes: each production of the table begins with one

abbrev Nonempty : List ℕ → Type 0
Nonempty [] = ⊥
Nonempty (x ∷ l) = Unit {0}

some-length : (l : List ℕ) → Nonempty l → 0 < length l
some-length [] h = absurd h
some-length (x ∷ l) h = omega arith

abbrev pub Begin : List Line → List ℕ → List ℕ → Type 0
Begin [] pool ws = Unit {0}
Begin (l ∷ ls) pool ws = Nonempty (l.production pool ws) × Begin ls pool ws

begins_in : (ls : List Line) (pool ws : List ℕ) → Begin ls pool ws → (k : ℕ) (s : Shape) → shape_in ls k ≡ Some s → Nonempty (production_in ls k pool ws)
unfolding shape_in production_in
begins_in [] pool ws a k s f = impossible cc
begins_in (l ∷ ls) pool ws a k s f = go (eqb k l.kind) f (begins_in ls pool ws a.1 k s)
  where
    go : (b : Bool) → cond b (Some l.shape) (shape_in ls k) ≡ Some s → (shape_in ls k ≡ Some s → Nonempty (production_in ls k pool ws))
        → Nonempty (cond b (l.production pool ws) (production_in ls k pool ws))
    go true f ih = a.0
    go false f ih = ih f

module _ {ls : List Line} {row pool : List ℕ} {n : ℕ} (begin : Begin ls pool (drop 1 row)) (e : measured_row (shape_in ls (word row 0)) row pool ≡ Ok n)
    (r : Row ls row pool n) where
  pub some_bytes : 0 < n
  some_bytes =
      let a = accepted (shape_in ls (word row 0)) row pool n e in
      let ws = drop 1 row in
      let h = begins_in ls pool ws begin (word row 0) a.shape a.is in
      omega (arith, r.size_is_length, ap length r.as_production, some-length (production_in ls (word row 0) pool ws) h)

  pub no_room : (out : List ℕ) (at : ℕ) → within n at (length out) ≡ false
      → left (Refused Room n) out ≡ write_row (shape_in ls (word row 0)) row pool out at
  no_room out at w = room_answer (shape_in ls (word row 0)) row pool e out at (within_not n at (length out) w some_bytes)
