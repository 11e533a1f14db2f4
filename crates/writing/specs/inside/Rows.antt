-- What straight code says of fields and rows that are right.
use Rattle.fields.specs.declared.Shape.{Shape}
use Rattle.std.specs.Prelude.{ℕ, ◌+◌, ◌≤◌, ◌≡◌, Option, Some, None, Ok, List, [], ◌∷◌, length, drop}
use Rattle.fields.specs.declared.Field.{Field}
use Rattle.fields.specs.Flaw.{Right}
use Rattle.writing.specs.Binary.{bytes}
use Rattle.fields.specs.Words.{wide}
use Rattle.writing.specs.Judge.{flaw}
use Rattle.writing.specs.Row.{measured_row, write_row}
use Rattle.fields.specs.Shape.{repeated, widths}
use Rattle.fields.specs.Table.{elements}
use Rattle.fields.specs.Answers.{left}

-- a field is right and has r bytes
pub record Known (pool : List ℕ) (f : Field) (ws : List ℕ) (r : ℕ) : Type 0 where
  pub right : flaw pool f ws ≡ Right
  pub size : r ≡ length (bytes pool f ws)

-- fields one after the other are right
unfoldable pub Rights : List ℕ → List Field → List ℕ → Type 0
Rights pool [] ws = Unit {0}
Rights pool (f ∷ fs) ws = (flaw pool f ws ≡ Right) × Rights pool fs (drop (wide f) ws)

-- n groups of the fields g are right, and r is how many bytes they have with the `base` before them, each group's bytes being an element
pub record Groups (pool : List ℕ) (g : List Field) (element : List ℕ → List ℕ) (n : ℕ) (ws : List ℕ) (base r : ℕ) : Type 0 where
  pub right : Rights pool (repeated n g) ws
  pub size : r ≡ base + length (elements n (widths g) element ws)

-- a row of a kind's shape is right, and its bytes end within the room from `to` on
pub record Fits (found : Option Shape) (row pool : List ℕ) (to room : ℕ) : Type 0 where
  pub size : ℕ
  pub measured : measured_row found row pool ≡ Ok size
  pub ends : to + size ≤ room

-- a row of a kind's shape was written, or nothing was done
pub record Tried (found : Option Shape) (row pool old : List ℕ) (at : ℕ) (r : Option ℕ) (new : List ℕ) : Type 0 where
  pub none : r ≡ None → new ≡ old
  pub some : (n : ℕ) → r ≡ Some n → left (Ok n) new ≡ write_row found row pool old at
