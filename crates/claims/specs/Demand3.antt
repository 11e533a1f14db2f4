-- Demand 3: what was written of a valid row, with anything behind it, is read back at every grade as that item, or refused as NEWER at
-- the first byte that marks a form above the grade; and no other item is ever returned for it. What was read is written again as the
-- same item, in no more bytes.
use Rattle.std.specs.Prelude.{ℕ, ◌≤◌, ◌<◌, ◌≡◌, cond, ◌⊎◌, List, [], ◌∷◌, ◌++◌, eqb, length, take, drop, Option, Some, None, Ok}
use Rattle.std.proofs.lemmas.List.Edits.{sets}
use Rattle.numbers.specs.Again.{Again}
use Rattle.numbers.specs.Bytes.{Bytes}
use Rattle.fields.specs.Read.{Item, Refused}
use Rattle.fields.specs.declared.Refusal.TheVariants as refusal
use Rattle.fields.specs.declared.Shape.{Shape}
use Rattle.fields.specs.declared.Site.{Site}
use Rattle.fields.specs.declared.Site.TheVariants.{Primitive, TypeLead, NameLead, CanonLead, CanonOption}
use Rattle.fields.specs.Grades.{grade_of}
use Rattle.fields.specs.Words.{word, Words}
use Rattle.round_trip.specs.Mark.{Mark, Clear, At, row_mark, SameItem}
use Rattle.round_trip.specs.Padded.{Padded}
use Rattle.fields.specs.Answers.{LeftRow, left_row}
use Rattle.reading.specs.Scan.{byte}
use Rattle.writing.specs.Write.{stored}
use Rattle.items.specs.ReadType.{read_type, lead_grade}
use Rattle.types.specs.Write as typeWrite
use Rattle.items.specs.ReadImport.{read_import}
use Rattle.imports.specs.Write as importWrite
use Rattle.canonicals.specs.Table.{lift_bytes}
use Rattle.canonicals.specs.Write as canonicalWrite
use Rattle.canonical_items.specs.ReadCanonical as canonicalRead
use Rattle.canonical_items.specs.ReadCanonical.{read_canonical}
use Rattle.instances.specs.Write as instanceWrite
use Rattle.instance_items.specs.ReadInstance.{read_core_instance, read_instance}
use Rattle.sections.specs.Section.{Entries, Types, Canonicals, Imports, CoreInstances, Instances, None, entries_of, write_family}
use Rattle.claims.specs.Valid.{Family, Valid, production}
use Rattle.fields.specs.Limits.{pool_bytes, input_bytes}

-- each family is read by its own section's call
abbrev pub reads_by : Entries → ℕ → List ℕ → List ℕ → LeftRow
reads_by Types g input room = read_type g input room
reads_by Canonicals g input room = read_canonical g input room
reads_by Imports g input room = read_import g input room
reads_by CoreInstances g input room = read_core_instance g input room
reads_by Instances g input room = read_instance g input room
reads_by None g input room = left_row (Refused refusal.Limit 0) room

abbrev pub reads : ℕ → ℕ → List ℕ → List ℕ → LeftRow
reads family g input room = reads_by (entries_of family) g input room

-- the shape of a kind
abbrev pub shape_by : Entries → ℕ → Option Shape
shape_by Types k = typeWrite.shape_of k
shape_by Canonicals k = canonicalWrite.shape_of k
shape_by Imports k = importWrite.shape_of k
shape_by CoreInstances k = instanceWrite.core_shape_of k
shape_by Instances k = instanceWrite.shape_of k
shape_by None k = None

-- "same item" as the row, whose kind has a shape
abbrev pub SameBy : Option Shape → List ℕ → List ℕ → List ℕ → List ℕ → Type 0
SameBy (Some s) pool row input words = SameItem s pool row input words
SameBy None pool row input words = ⊥

abbrev pub Same : ℕ → List ℕ → List ℕ → List ℕ → List ℕ → Type 0
Same family pool row input words = SameBy (shape_by (entries_of family) (word row 0)) pool row input words

-- the first byte above a grade that a row has, found of the row alone
unfoldable pub type_mark : ℕ → List ℕ → List ℕ → Mark
type_mark g pool row = row_mark (typeWrite.shape_of (word row 0)) (lead_grade (word row 0)) g pool row

-- the words of a lift in the order of its bytes: the type last
unfoldable pub type_last : List ℕ → List ℕ
type_last row = take 2 row ++ (drop 3 row ++ word row 2 ∷ [])

unfoldable pub canonical_mark : ℕ → List ℕ → List ℕ → Mark
canonical_mark g pool row =
    cond (eqb (word row 0) 256) (row_mark (Some lift_bytes) 1 g pool (type_last row))
    (row_mark (canonicalWrite.shape_of (word row 0)) (canonicalRead.lead_grade (word row 0)) g pool row)

unfoldable pub import_mark : ℕ → List ℕ → List ℕ → Mark
import_mark g pool row = row_mark (importWrite.shape_of (word row 0)) 1 g pool row

unfoldable pub core_instance_mark : ℕ → List ℕ → List ℕ → Mark
core_instance_mark g pool row = row_mark (instanceWrite.core_shape_of (word row 0)) 1 g pool row

unfoldable pub instance_mark : ℕ → List ℕ → List ℕ → Mark
instance_mark g pool row = row_mark (instanceWrite.shape_of (word row 0)) 1 g pool row

abbrev pub mark_by : Entries → ℕ → List ℕ → List ℕ → Mark
mark_by Types g pool row = type_mark g pool row
mark_by Canonicals g pool row = canonical_mark g pool row
mark_by Imports g pool row = import_mark g pool row
mark_by CoreInstances g pool row = core_instance_mark g pool row
mark_by Instances g pool row = instance_mark g pool row
mark_by None g pool row = Clear

abbrev pub first_above : ℕ → ℕ → List ℕ → List ℕ → Mark
first_above family g pool row = mark_by (entries_of family) g pool row

-- the sites at which a row of a family can be marked
abbrev pub sites_by : Entries → List Site
sites_by Types = Primitive ∷ TypeLead ∷ []
sites_by Canonicals = CanonLead ∷ CanonOption ∷ []
sites_by Imports = Primitive ∷ NameLead ∷ []
sites_by CoreInstances = []
sites_by Instances = NameLead ∷ []
sites_by None = []

abbrev pub sites : ℕ → List Site
sites family = sites_by (entries_of family)

-- b marks a form above grade g, by the table of grades
abbrev pub MarkingAt : ℕ → ℕ → List Site → Type 0
MarkingAt g b [] = ⊥
MarkingAt g b (s ∷ ss) = (g < grade_of s b) ⊎ MarkingAt g b ss

abbrev pub Marking : ℕ → ℕ → ℕ → Type 0
Marking family g b = MarkingAt g b (sites family)

-- an item that is returned: its words at the front of the room, as many as the row has, and the bytes that were written
pub record Returned (family : ℕ) (pool row input room : List ℕ) (l : LeftRow) : Type 0 where
  pub words : List ℕ
  pub leaves : l ≡ left_row (Item (length row) (length (production family pool row))) (sets room 0 words)
  pub same : Same family pool row input words

-- what a reading leaves, by the row's first byte above the grade: NEWER whatever the room, and ROOM only for want of room
abbrev pub ReadBack : Mark → ℕ → List ℕ → List ℕ → List ℕ → List ℕ → LeftRow → Type 0
ReadBack (At j) family pool row input room l = l ≡ left_row (Refused refusal.Newer j) room
ReadBack Clear family pool row input room l =
    (length room < length row → l ≡ left_row (Refused refusal.Room (length row)) room)
    × (length row ≤ length room → Returned family pool row input room l)

-- a row that was read at grade g of the bytes `taken`, written again with those bytes as the pool
pub record WrittenAgain (family g : ℕ) (taken row : List ℕ) : Type 0 where
  -- it is accepted, and written as its production
  pub writes : (out : List ℕ) (at : ℕ)
      → write_family family row taken out at ≡ stored (Ok (length (production family taken row))) (production family taken row) out at
  -- byte for byte what was taken, but each number in its shortest form
  pub padded : Padded taken (production family taken row)
  -- so in no more bytes than were taken; in exactly those where they are as many, and where they are some row's, with no number padded
  pub again : Again taken (production family taken row)
  pub unpadded : (other pool : List ℕ) → Words other → Valid family other pool → taken ≡ production family pool other
      → production family taken row ≡ taken
  -- and what is written, with anything behind it, is read at that grade as the same item
  pub same_item : (rest room : List ℕ) → length (production family taken row ++ rest) ≤ input_bytes → length row ≤ length room
      → Returned family taken row (production family taken row ++ rest) room (reads family g (production family taken row ++ rest) room)

-- flags named 02 and 78, and the bytes they are written as; and words that name, beside these bytes, nothing (past the end) and 01 78.
-- With their lengths and run together, the names of both are 01 02 01 78.
abbrev pub flags_row : List ℕ
flags_row = 7 ∷ 2 ∷ 0 ∷ 1 ∷ 1 ∷ 1 ∷ []

abbrev pub flags_pool : List ℕ
flags_pool = 0x02 ∷ 0x78 ∷ []

abbrev pub flags_bytes : List ℕ
flags_bytes = 0x6e ∷ 0x02 ∷ 0x01 ∷ 0x02 ∷ 0x01 ∷ 0x78 ∷ []

abbrev pub other_words : List ℕ
other_words = 7 ∷ 2 ∷ 6 ∷ 1 ∷ 4 ∷ 2 ∷ []

pub record Demand3 : Type 0 where
  -- every valid row, every following bytes up to the limit, every grade and room
  pub read_back : (family : ℕ) → Family family → (row pool : List ℕ) → Words row → Valid family row pool
      → (rest room : List ℕ) (g : ℕ) → 1 ≤ g → g ≤ 3 → length (production family pool row ++ rest) ≤ input_bytes
      → ReadBack (first_above family g pool row) family pool row (production family pool row ++ rest) room
      (reads family g (production family pool row ++ rest) room)
  -- whatever a reader of any grade returns for a valid row's bytes is that item
  pub never_another : (family : ℕ) → Family family → (row pool : List ℕ) → Words row → Valid family row pool
      → (rest room after : List ℕ) (g words bytes : ℕ)
      → reads family g (production family pool row ++ rest) room ≡ left_row (Item words bytes) after
      → (words ≡ length row) × (bytes ≡ length (production family pool row))
      × Same family pool row (production family pool row ++ rest) (take words after)
  -- the byte at NEWER's place marks a form above the grade
  pub newer_at : (family : ℕ) → Family family → (row pool : List ℕ) → Words row → Valid family row pool
      → (g j : ℕ) → 1 ≤ g → first_above family g pool row ≡ At j
      → (j < length (production family pool row)) × Marking family g (byte (production family pool row) j)
  -- what is accepted and took at most 65,536 bytes, written again with those bytes as the pool
  pub written_again : (family : ℕ) → Family family → (input room after : List ℕ) (g words bytes : ℕ) → Bytes input
      → reads family g input room ≡ left_row (Item words bytes) after → bytes ≤ pool_bytes
      → WrittenAgain family g (take bytes input) (take words after)
  -- "same item" is not met by names that only run together alike: the flags are written as those bytes, and the other words are not the
  -- same item
  pub not_the_same : ((out : List ℕ) (at : ℕ) → write_family 7 flags_row flags_pool out at ≡ stored (Ok 6) flags_bytes out at)
      × (Same 7 flags_pool flags_row flags_bytes other_words → ⊥)
