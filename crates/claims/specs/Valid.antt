-- Rows that are valid beside their pools, by document 01's words; the productions of the binary document that they stand for; and the
-- rows of a sheet.
use Rattle.std.specs.Prelude.{ℕ, ◌+◌, cond, List, [], ◌∷◌, ◌++◌, eqb, length, drop}
use Rattle.numbers.specs.Leb.{unsigned}
use Rattle.fields.specs.Words.{word}
use Rattle.fields.specs.Table.{Line, production_in}
use Rattle.types.specs.Table as typeTable
use Rattle.imports.specs.Table as importTable
use Rattle.canonicals.specs.Table as canonicalTable
use Rattle.instances.specs.Table as instanceTable
use Rattle.sections.specs.Finish.{framed}
use Rattle.sections.specs.Runs.{Accepted, Entry}
use Rattle.sections.specs.Section.{fresh, Entries, Types, Canonicals, Imports, CoreInstances, Instances, None, entries_of}
use Rattle.sections.specs.Steps.{rowing}
use Rattle.sheets.specs.Frame as frame
use Rattle.sheets.specs.Sheet.{family_of}
use Rattle.sheets.specs.Frame.{listed}

-- a section's family: core instance 2, instance 5, type 7, canonical 8, import 10
pub data Family : ℕ → Type 0 where
  core_instances : Family 2
  instances : Family 5
  types : Family 7
  canonicals : Family 8
  imports : Family 10

-- a fresh section of the family takes the row over a body
abbrev pub Takes : ℕ → List ℕ → List ℕ → List ℕ → Type 0
Takes family row pool body = Accepted (rowing (fresh family) row pool body)

-- "A row is valid beside its pool when a fresh section of its family takes it, given room"
abbrev pub Valid : ℕ → List ℕ → List ℕ → Type 0
Valid family row pool = (body : List ℕ) × Takes family row pool body

-- the production of the row's kind, over the words after it, by a table
abbrev pub line_of : List Line → List ℕ → List ℕ → List ℕ
line_of table pool row = production_in table (word row 0) pool (drop 1 row)

-- by the table of the family; lift is no line of one
abbrev pub production_by : Entries → List ℕ → List ℕ → List ℕ
production_by Types pool row = line_of typeTable.table pool row
production_by Canonicals pool row = cond (eqb (word row 0) 256) (canonicalTable.lift (drop 1 row)) (line_of canonicalTable.table pool row)
production_by Imports pool row = line_of importTable.table pool row
production_by CoreInstances pool row = line_of instanceTable.core_table pool row
production_by Instances pool row = line_of instanceTable.table pool row
production_by None pool row = []

unfoldable pub production : ℕ → List ℕ → List ℕ → List ℕ
production family pool row = production_by (entries_of family) pool row

-- those of rows, one after the other
unfoldable pub productions : ℕ → List Entry → List ℕ
productions family [] = []
productions family (e ∷ es) = production family e.pool e.row ++ productions family es

-- section ::= id size count and the productions, where size is that of count and productions
abbrev pub section : ℕ → List Entry → List ℕ
section family es =
    framed family (length (unsigned (length es)) + length (productions family es)) (length es) (productions family es)

-- ---- a sheet

-- rows beside one pool
abbrev pub beside : List ℕ → List (List ℕ) → List Entry
beside pool [] = []
beside pool (row ∷ rows) = record { row = row; pool = pool } ∷ beside pool rows

-- the rows of a sheet whose frame is whole, beside its pool
abbrev pub entries : List ℕ → List Entry
entries input = beside (frame.pool_of input) (listed (frame.framed input))

-- the first row sets the family
abbrev pub family_in : List Entry → ℕ
family_in [] = 0
family_in (e ∷ es) = family_of (word e.row 0)
