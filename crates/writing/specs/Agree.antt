-- A table of kinds agrees with itself: what a shape writes is what the production beside it says; and what that comes to for a row.
use Rattle.std.specs.Prelude.{ℕ, ◌≤◌, ◌≡◌, List, [], ◌∷◌, drop, length}
use Rattle.fields.specs.Leaf.{Fine}
use Rattle.writing.specs.Write.{judged, written}
use Rattle.fields.specs.Table.{Line, shape_in, production_in}
use Rattle.numbers.specs.Bytes.{Bytes}
use Rattle.fields.specs.Words.{word, Words}
use Rattle.writing.specs.Largest.{largest_row}
use Rattle.writing.specs.Row.{row_bytes}

-- a row that is judged right is written as the production says
abbrev pub Agrees : Line → Type 0
Agrees l = (pool row : List ℕ) (e m : ℕ) → judged l.shape pool row 1 ≡ Fine e m → written l.shape pool row 1 ≡ l.production pool (drop 1 row)

-- so does every line
abbrev pub All : (Line → Type 0) → List Line → Type 0
All P [] = Unit {0}
All P (l ∷ ls) = P l × All P ls

-- a row that is accepted: its bytes are its production, its size is their length, no larger than can be, and they are bytes
pub record Row (ls : List Line) (row pool : List ℕ) (size : ℕ) : Type 0 where
  pub as_production : row_bytes (shape_in ls (word row 0)) pool row ≡ production_in ls (word row 0) pool (drop 1 row)
  pub size_is_length : size ≡ length (row_bytes (shape_in ls (word row 0)) pool row)
  pub no_larger : size ≤ largest_row
  pub are_bytes : Words row → Bytes pool → Bytes (row_bytes (shape_in ls (word row 0)) pool row)
