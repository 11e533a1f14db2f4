-- Canonicals of one class have the same fields behind their leads: their shape, which rows are right, and their bytes. The same of a
-- lift, and what straight code leaves.
use Rattle.std.specs.Prelude.{ℕ, zero, suc, ◌+◌, ◌*◌, ◌≤◌, ◌<◌, ◌≡◌, Option, Some, None, Ok, List, [], ◌∷◌, ◌++◌, length, drop}
use Rattle.fields.specs.declared.Shape.{Shape}
use Rattle.std.proofs.lemmas.List.Edits.{sets}
use Rattle.numbers.specs.Leb.{unsigned}
use Rattle.fields.specs.declared.Field.TheVariants as field
use Rattle.fields.specs.Flaw.{Right}
use Rattle.fields.specs.Words.{word}
use Rattle.writing.specs.Binary.{flag, representation, canonopt}
use Rattle.writing.specs.Judge.{choice}
use Rattle.fields.specs.Table.{elements}
use Rattle.writing.specs.Row.{measured_row}
use Rattle.fields.specs.Answers.{left}
use Rattle.writing.specs.Write.{stored}
use Rattle.canonicals.specs.declared.Class.{Class}
use Rattle.canonicals.specs.declared.Class.TheVariants as class
use Rattle.canonicals.specs.Table.{plain, zeroed, optioned, lift_shape, lift}
use Rattle.fields.specs.Limits.{row_words, pool_bytes}

unfoldable pub shape_for : Class → ℕ → Option Shape
shape_for class.Nothing lead = Some (plain lead field.Nothing field.Nothing)
shape_for class.Zero lead = Some (zeroed lead field.Nothing)
shape_for class.Index lead = Some (plain lead field.Index field.Nothing)
shape_for class.ZeroIndex lead = Some (zeroed lead field.Index)
shape_for class.Indices lead = Some (plain lead field.Index field.Index)
shape_for class.Flag lead = Some (plain lead field.Flag field.Nothing)
shape_for class.IndexFlag lead = Some (plain lead field.Index field.Flag)
shape_for class.RepIndex lead = Some (plain lead field.Rep field.Index)
shape_for class.Options lead = Some (optioned lead field.Nothing)
shape_for class.ZeroOptions lead = Some (optioned lead (field.Fixed 0x00))
shape_for class.Not lead = None

-- n options, whose words stand one after the other: that they are right, and their bytes
unfoldable pub Choices : ℕ → List ℕ → Type 0
Choices zero ws = Unit {0}
Choices (suc n) ws = (choice ws ≡ Right) × Choices n (drop 2 ws)

abbrev pub choices : ℕ → List ℕ → List ℕ
choices n ws = elements n 2 (λ vs. canonopt (word vs 0) (word vs 1)) ws

-- they are right, and r is how many bytes they have with the `base` before them
pub record Chosen (n : ℕ) (ws : List ℕ) (base r : ℕ) : Type 0 where
  pub right : Choices n ws
  pub size : r ≡ base + length (choices n ws)

-- a row of an index and options
pub record Optioned (row : List ℕ) : Type 0 where
  pub short : length row ≤ row_words
  pub width : length row ≡ 3 + word row 2 * 2
  pub right : Choices (word row 2) (drop 3 row)

abbrev pub optioned_bytes : List ℕ → List ℕ
optioned_bytes row = unsigned (word row 1) ++ (unsigned (word row 2) ++ choices (word row 2) (drop 3 row))

abbrev pub optioned_size : List ℕ → ℕ
optioned_size row = length (unsigned (word row 1)) + length (unsigned (word row 2)) + length (choices (word row 2) (drop 3 row))

-- the row has its length, and its words are right
abbrev pub Good : Class → List ℕ → Type 0
Good class.Nothing row = length row ≡ 1
Good class.Zero row = length row ≡ 1
Good class.Index row = length row ≡ 2
Good class.ZeroIndex row = length row ≡ 2
Good class.Indices row = length row ≡ 3
Good class.Flag row = (length row ≡ 2) × (word row 1 < 2)
Good class.IndexFlag row = (length row ≡ 3) × (word row 2 < 2)
Good class.RepIndex row = (length row ≡ 3) × (word row 1 < 2)
Good class.Options row = Optioned row
Good class.ZeroOptions row = Optioned row
Good class.Not row = ⊥

-- the bytes, and how many they are
abbrev pub bytes_for : Class → ℕ → List ℕ → List ℕ
bytes_for class.Nothing lead row = lead ∷ []
bytes_for class.Zero lead row = lead ∷ 0x00 ∷ []
bytes_for class.Index lead row = lead ∷ unsigned (word row 1)
bytes_for class.ZeroIndex lead row = lead ∷ 0x00 ∷ unsigned (word row 1)
bytes_for class.Indices lead row = lead ∷ (unsigned (word row 1) ++ unsigned (word row 2))
bytes_for class.Flag lead row = lead ∷ flag (word row 1) ∷ []
bytes_for class.IndexFlag lead row = lead ∷ (unsigned (word row 1) ++ flag (word row 2) ∷ [])
bytes_for class.RepIndex lead row = lead ∷ representation (word row 1) ∷ unsigned (word row 2)
bytes_for class.Options lead row = lead ∷ optioned_bytes row
bytes_for class.ZeroOptions lead row = lead ∷ 0x00 ∷ optioned_bytes row
bytes_for class.Not lead row = []

abbrev pub size_for : Class → List ℕ → ℕ
size_for class.Nothing row = 1
size_for class.Zero row = 2
size_for class.Index row = 1 + length (unsigned (word row 1))
size_for class.ZeroIndex row = 2 + length (unsigned (word row 1))
size_for class.Indices row = 1 + length (unsigned (word row 1)) + length (unsigned (word row 2))
size_for class.Flag row = 2
size_for class.IndexFlag row = 2 + length (unsigned (word row 1))
size_for class.RepIndex row = 2 + length (unsigned (word row 2))
size_for class.Options row = 1 + optioned_size row
size_for class.ZeroOptions row = 2 + optioned_size row
size_for class.Not row = 0

-- a row was seen to be right, and has r bytes
pub record Known (c : Class) (row : List ℕ) (r : ℕ) : Type 0 where
  pub right : Good c row
  pub size : r ≡ size_for c row

-- it was seen to be right and stored in so many bytes, or nothing was done
pub record Put (c : Class) (lead : ℕ) (row old : List ℕ) (at : ℕ) (r : Option ℕ) (new : List ℕ) : Type 0 where
  pub none : r ≡ None → new ≡ old
  pub seen : (n : ℕ) → r ≡ Some n → Known c row n
  pub room : (n : ℕ) → r ≡ Some n → at + n ≤ length old
  pub content : (n : ℕ) → r ≡ Some n → new ≡ sets old at (bytes_for c lead row)

-- a lift, whose options stand before its type
pub record Lifted (row pool : List ℕ) : Type 0 where
  pub small : length pool ≤ pool_bytes
  pub short : length row ≤ row_words
  pub width : length row ≡ 4 + word row 3 * 2
  pub right : Choices (word row 3) (drop 4 row)

abbrev pub counted_bytes : List ℕ → List ℕ
counted_bytes row = unsigned (word row 3) ++ choices (word row 3) (drop 4 row)

abbrev pub counted_size : List ℕ → ℕ
counted_size row = length (unsigned (word row 3)) + length (choices (word row 3) (drop 4 row))

abbrev pub lifted_size : List ℕ → ℕ
lifted_size row = length (unsigned (word row 1)) + length (unsigned (word row 2)) + counted_size row

-- the lift was written, or nothing was done
pub record LiftTried (row pool old : List ℕ) (at : ℕ) (r : Option ℕ) (new : List ℕ) : Type 0 where
  pub none : r ≡ None → new ≡ old
  pub some : (n : ℕ) → r ≡ Some n → left (Ok n) new ≡ stored (measured_row (Some lift_shape) row pool) (lift (drop 1 row)) old at
