-- Demand 2: each accepted row is written as the definition drawn from the binary documents says; so is a section that was begun fresh
-- and finished, and a sheet.
use Rattle.std.specs.Prelude.{ℕ, ◌≤◌, ◌≡◌, ◌↔◌, List, [], ◌∷◌, length, Ok}
use Rattle.std.proofs.lemmas.List.Edits.{sets}
use Rattle.numbers.specs.Bytes.{Bytes}
use Rattle.fields.specs.Words.{Words}
use Rattle.fields.specs.Answers.{left}
use Rattle.writing.specs.Write.{stored}
use Rattle.sections.specs.declared.Phase.TheVariants.{Closed}
use Rattle.sections.specs.Finish.{finishing}
use Rattle.sections.specs.Runs.{Entry, rows, runs, AllAccepted}
use Rattle.sections.specs.Section.{fresh, measured_family, write_family}
use Rattle.sections.specs.Steps.{turned, gives, rowing}
use Rattle.sheets.specs.Sheet as sheet
use Rattle.sheets.specs.Sheet.{sheeted}
use Rattle.claims.specs.Valid.{Family, Takes, Valid, production, productions, section, entries, family_in}
use Rattle.writing.specs.Agree.{Agrees, All}
use Rattle.types.specs.Table as typeTable
use Rattle.imports.specs.Table as importTable
use Rattle.canonicals.specs.Table as canonicalTable
use Rattle.instances.specs.Table as instanceTable

-- each of the rows is valid
abbrev pub AllValid : ℕ → List Entry → Type 0
AllValid family [] = Unit {0}
AllValid family (e ∷ es) = Valid family e.row e.pool × AllValid family es

-- each has words of 32 bits and a pool of bytes
abbrev pub AllWords : List Entry → Type 0
AllWords [] = Unit {0}
AllWords (e ∷ es) = Words e.row × Bytes e.pool × AllWords es

-- what a sheet of these rows that is accepted leaves
pub record Made (es : List Entry) (body out : List ℕ) (l : sheet.Left) : Type 0 where
  pub family : Family (family_in es)
  pub valid : AllValid (family_in es) es
  pub size : l.answer ≡ Ok (length (section (family_in es) es))
  pub at_body : l.body ≡ sets body 0 (productions (family_in es) es)
  pub at_out : l.out ≡ sets out 0 (section (family_in es) es)

pub record Demand2 : Type 0 where
  -- in each table a kind's shape writes what the production beside it says
  pub tables_agree : All Agrees typeTable.table × All Agrees importTable.table × All Agrees canonicalTable.table
      × All Agrees instanceTable.core_table × All Agrees instanceTable.table
  -- a row is valid, over a body with room, exactly when measuring gives a size that fits
  pub valid_measured : (family : ℕ) → Family family → (row pool body : List ℕ)
      → Takes family row pool body ↔ ((size : ℕ) × (measured_family family row pool ≡ Ok size) × (size ≤ length body))
  -- the body then begins with the production, and the section has it and one entry
  pub valid_written : (family : ℕ) → Family family → (row pool body : List ℕ) → Takes family row pool body
      → rowing (fresh family) row pool body
      ≡ turned
      (gives (record { family = family; used = length (production family pool row); count = 1; phase = Closed })
      (Ok (length (production family pool row))))
      (sets body 0 (production family pool row))
  -- at any place: the production, or ROOM with its length
  pub written_at : (family : ℕ) → Family family → (row pool : List ℕ) → Valid family row pool → (out : List ℕ) (at : ℕ)
      → write_family family row pool out at ≡ stored (Ok (length (production family pool row))) (production family pool row) out at
  -- a section that was begun fresh, whose rows were all accepted, and that was finished: id, size, count and the productions in order
  pub finished : (family : ℕ) → Family family → (es : List Entry) (body out : List ℕ) → AllAccepted (rows es) (fresh family) body
      → (size : ℕ)
      → (finishing (runs (rows es) (fresh family) body).section (runs (rows es) (fresh family) body).body out).answer ≡ Ok size
      → finishing (runs (rows es) (fresh family) body).section (runs (rows es) (fresh family) body).body out
      ≡ left (Ok (length (section family es))) (sets out 0 (section family es))
  -- the same of a sheet
  pub sheet_made : (input body out : List ℕ) (size : ℕ) → (sheeted input body out).answer ≡ Ok size
      → Made (entries input) body out (sheeted input body out)
  -- the bytes are bytes, lift's included
  pub bytes : (family : ℕ) → Family family → (row pool : List ℕ) → Valid family row pool → Words row → Bytes pool
      → Bytes (production family pool row)
  -- rows that are all accepted from a fresh section on are each valid, and the bytes of a section of valid rows are bytes
  pub rows_valid : (family : ℕ) → Family family → (es : List Entry) (body : List ℕ) → AllAccepted (rows es) (fresh family) body
      → AllValid family es
  pub section_bytes : (family : ℕ) → Family family → (es : List Entry) → AllValid family es → AllWords es → Bytes (section family es)
