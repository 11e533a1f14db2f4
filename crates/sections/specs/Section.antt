-- The state of a section, and when it can stand over a body.
use Rattle.std.specs.Prelude.{ℕ, Bool, true, false, cond, List, [], eqb, ltb, leb}
use Rattle.fields.specs.Answer.{Answer, Refused}
use Rattle.fields.specs.declared.Refusal.TheVariants as refusal
use Rattle.fields.specs.Words.{word}
use Rattle.writing.specs.Row.{row_bytes}
use Rattle.fields.specs.Answers.{Left, refuse}
use Rattle.types.specs.Write as types
use Rattle.types.specs.Write.{write_type}
use Rattle.imports.specs.Write as imports
use Rattle.imports.specs.Write.{write_import}
use Rattle.canonicals.specs.Write as canonicals
use Rattle.canonicals.specs.Write.{write_canonical}
use Rattle.instances.specs.Write as instances
use Rattle.instances.specs.Write.{write_core_instance, write_instance}
use Rattle.sections.specs.declared.Phase.{Phase}
use Rattle.sections.specs.declared.Phase.TheVariants.{Closed, Opened, Headed}
use Rattle.sections.specs.declared.Section.{Section}

-- a section with nothing in it
abbrev pub fresh : ℕ → Section
fresh family = record { family = family; used = 0; count = 0; phase = Closed }

-- what the entries of a section are, by its number in the component binary document, which is its family
pub data Entries : Type 0 where
  Types : Entries
  Canonicals : Entries
  Imports : Entries
  CoreInstances : Entries
  Instances : Entries
  None : Entries

abbrev pub entries_of : ℕ → Entries
entries_of family =
    cond (eqb family 7) Types
    (cond (eqb family 8) Canonicals
    (cond (eqb family 10) Imports (cond (eqb family 2) CoreInstances (cond (eqb family 5) Instances None))))

-- a family is a section's
abbrev pub known : Entries → Bool
known Types = true
known Canonicals = true
known Imports = true
known CoreInstances = true
known Instances = true
known None = false

unfoldable pub known_family : ℕ → Bool
known_family family = known (entries_of family)

abbrev pub opened : Phase → Bool
opened Closed = false
opened (Opened start) = true
opened (Headed start) = true

-- an open entry is a type's, starts within the used part, and is counted
unfoldable pub holds_at : Section → ℕ → Bool
holds_at s start = cond (eqb s.family 7) (cond (leb start s.used) (ltb 0 s.count) false) false

abbrev pub holds : Phase → Section → Bool
holds Closed s = known_family s.family
holds (Opened start) s = holds_at s start
holds (Headed start) s = holds_at s start

-- the used part is no longer than the body of n bytes
unfoldable pub sounds : Section → ℕ → Bool
sounds s n = cond (ltb n s.used) false (holds s.phase s)

-- the size of a row of a family, LIMIT where it is no section's; and its bytes
abbrev pub measured_by : Entries → List ℕ → List ℕ → Answer
measured_by Types row pool = types.measured_type row pool
measured_by Canonicals row pool = canonicals.measured_canonical row pool
measured_by Imports row pool = imports.measured_import row pool
measured_by CoreInstances row pool = instances.measured_core_instance row pool
measured_by Instances row pool = instances.measured_instance row pool
measured_by None row pool = Refused refusal.Limit 0

unfoldable pub measured_family : ℕ → List ℕ → List ℕ → Answer
measured_family family row pool = measured_by (entries_of family) row pool

abbrev pub bytes_by : Entries → List ℕ → List ℕ → List ℕ
bytes_by Types pool row = row_bytes (types.shape_of (word row 0)) pool row
bytes_by Canonicals pool row = canonicals.canonical_bytes pool row
bytes_by Imports pool row = row_bytes (imports.shape_of (word row 0)) pool row
bytes_by CoreInstances pool row = row_bytes (instances.core_shape_of (word row 0)) pool row
bytes_by Instances pool row = row_bytes (instances.shape_of (word row 0)) pool row
bytes_by None pool row = []

unfoldable pub family_bytes : ℕ → List ℕ → List ℕ → List ℕ
family_bytes family pool row = bytes_by (entries_of family) pool row

-- a row by the writer of its family
abbrev pub write_by : Entries → List ℕ → List ℕ → List ℕ → ℕ → Left
write_by Types row pool body at = write_type row pool body at
write_by Canonicals row pool body at = write_canonical row pool body at
write_by Imports row pool body at = write_import row pool body at
write_by CoreInstances row pool body at = write_core_instance row pool body at
write_by Instances row pool body at = write_instance row pool body at
write_by None row pool body at = refuse refusal.Limit 0 body

unfoldable pub write_family : ℕ → List ℕ → List ℕ → List ℕ → ℕ → Left
write_family family row pool body at = write_by (entries_of family) row pool body at
