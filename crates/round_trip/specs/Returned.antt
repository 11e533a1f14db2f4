-- What reading the bytes of a row leaves, by the first byte above the grade that the row has.
use Rattle.std.specs.Prelude.{Some, Option, ℕ, ◌≤◌, ◌<◌, ◌≡◌, List, length}
use Rattle.std.proofs.lemmas.List.Edits.{sets}
use Rattle.fields.specs.declared.Refusal.TheVariants as refusal
use Rattle.fields.specs.Read.{Item, Refused}
use Rattle.fields.specs.declared.Shape.{Shape}
use Rattle.round_trip.specs.Mark.{Mark, Clear, At, SameItem}
use Rattle.fields.specs.Answers.{LeftRow, left_row}

-- an item that is returned: the same as the row beside its pool, of its length in words and its size in bytes
pub record Returned (s : Shape) (pool row input room : List ℕ) (size : ℕ) (l : LeftRow) : Type 0 where
  pub words : List ℕ
  pub leaves : l ≡ left_row (Item (length row) size) (sets room 0 words)
  pub same : SameItem s pool row input words

-- what reading a row's bytes leaves, by the first byte above the grade that the row has
abbrev pub ReadBack : Mark → Shape → (pool row input room : List ℕ) → ℕ → LeftRow → Type 0
ReadBack (At j) s pool row input room size l = l ≡ left_row (Refused refusal.Newer j) room
ReadBack Clear s pool row input room size l =
    (length room < length row → l ≡ left_row (Refused refusal.Room (length row)) room)
    × (length row ≤ length room → Returned s pool row input room size l)

-- the same of a row whose kind has a shape
pub record ReadsBack (found : Option Shape) (mark : Mark) (pool row input room : List ℕ) (size : ℕ) (l : LeftRow) : Type 0 where
  pub shape : Shape
  pub is : found ≡ Some shape
  pub reads : ReadBack mark shape pool row input room size l
