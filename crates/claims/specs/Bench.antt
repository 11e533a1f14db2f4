-- Bytes laid on the bench: items as rows beside a pool, and the bytes that document 01 prints for them; bytes that a reader refuses;
-- and bytes with a padded number, that it takes.
use Rattle.std.specs.Prelude.{ℕ, Bool, true, false, List, [], ◌∷◌}
use Rattle.fields.specs.declared.Refusal.{Refusal}
use Rattle.fields.specs.declared.Refusal.TheVariants as refusal

pub record Item : Type 0 where
  -- the family of its section
  pub family : ℕ
  pub row : List ℕ
  pub pool : List ℕ
  pub bytes : List ℕ

pub record Reading : Type 0 where
  -- whether an import is read, and not a type
  pub import : Bool
  pub grade : ℕ
  pub bytes : List ℕ
  pub why : Refusal
  pub place : ℕ

pub record Taking : Type 0 where
  -- whether an import is read, and not a type
  pub import : Bool
  pub bytes : List ℕ
  -- its row, whose names stand in the bytes
  pub row : List ℕ

pub data Line : Type 0 where
  Written : Item → Line
  Refused : Reading → Line
  Taken : Taking → Line

abbrev type : List ℕ → List ℕ → List ℕ → Line
type row pool bytes = Written (record { family = 7; row = row; pool = pool; bytes = bytes })

abbrev imports : List ℕ → List ℕ → List ℕ → Line
imports row pool bytes = Written (record { family = 10; row = row; pool = pool; bytes = bytes })

abbrev core_instance : List ℕ → List ℕ → List ℕ → Line
core_instance row pool bytes = Written (record { family = 2; row = row; pool = pool; bytes = bytes })

abbrev component_instance : List ℕ → List ℕ → List ℕ → Line
component_instance row pool bytes = Written (record { family = 5; row = row; pool = pool; bytes = bytes })

abbrev type_read : ℕ → List ℕ → Refusal → ℕ → Line
type_read g bytes why place = Refused (record { import = false; grade = g; bytes = bytes; why = why; place = place })

abbrev import_read : ℕ → List ℕ → Refusal → ℕ → Line
import_read g bytes why place = Refused (record { import = true; grade = g; bytes = bytes; why = why; place = place })

abbrev type_taken : List ℕ → List ℕ → Line
type_taken bytes row = Taken (record { import = false; bytes = bytes; row = row })

abbrev import_taken : List ℕ → List ℕ → Line
import_taken bytes row = Taken (record { import = true; bytes = bytes; row = row })

abbrev pub bench : List Line
bench =
    -- primitive string
    type (0 ∷ 12 ∷ []) [] (0x73 ∷ [])
    -- list of index 115
    ∷ type (3 ∷ 1 ∷ 115 ∷ []) [] (0x70 ∷ 0xf3 ∷ 0x00 ∷ [])
    -- own 115
    ∷ type (11 ∷ 115 ∷ []) [] (0x69 ∷ 0x73 ∷ [])
    -- option of 63; of 64
    ∷ type (9 ∷ 1 ∷ 63 ∷ []) [] (0x6b ∷ 0x3f ∷ [])
    ∷ type (9 ∷ 1 ∷ 64 ∷ []) [] (0x6b ∷ 0xc0 ∷ 0x00 ∷ [])
    -- tuple of 4294967295
    ∷ type (6 ∷ 1 ∷ 1 ∷ 4294967295 ∷ []) [] (0x6f ∷ 0x01 ∷ 0xff ∷ 0xff ∷ 0xff ∷ 0xff ∷ 0x0f ∷ [])
    -- own 128
    ∷ type (11 ∷ 128 ∷ []) [] (0x69 ∷ 0x80 ∷ 0x01 ∷ [])
    -- result, both absent
    ∷ type (10 ∷ 2 ∷ 0 ∷ 2 ∷ 0 ∷ []) [] (0x6a ∷ 0x00 ∷ 0x00 ∷ [])
    -- variant, case `a` empty
    ∷ type (2 ∷ 1 ∷ 0 ∷ 1 ∷ 2 ∷ 0 ∷ []) (0x61 ∷ []) (0x71 ∷ 0x01 ∷ 0x01 ∷ 0x61 ∷ 0x00 ∷ 0x00 ∷ [])
    -- function, nothing at all
    ∷ type (15 ∷ 0 ∷ 0 ∷ 2 ∷ 0 ∷ []) [] (0x40 ∷ 0x00 ∷ 0x01 ∷ 0x00 ∷ [])
    -- function a, b string to string
    ∷ type (15 ∷ 0 ∷ 2 ∷ 0 ∷ 1 ∷ 0 ∷ 12 ∷ 1 ∷ 1 ∷ 0 ∷ 12 ∷ 0 ∷ 12 ∷ []) (0x61 ∷ 0x62 ∷ [])
    (0x40 ∷ 0x02 ∷ 0x01 ∷ 0x61 ∷ 0x73 ∷ 0x01 ∷ 0x62 ∷ 0x73 ∷ 0x00 ∷ 0x73 ∷ [])
    -- import f, function 0
    ∷ imports (17 ∷ 0 ∷ 1 ∷ 0 ∷ 0 ∷ 0 ∷ 0 ∷ 0 ∷ 0 ∷ 0 ∷ 0 ∷ 0 ∷ 1 ∷ 0 ∷ 0 ∷ []) (0x66 ∷ []) (0x00 ∷ 0x01 ∷ 0x66 ∷ 0x01 ∷ 0x00 ∷ [])
    -- same, version suffix `1`
    ∷ imports (17 ∷ 0 ∷ 1 ∷ 0 ∷ 0 ∷ 0 ∷ 1 ∷ 1 ∷ 1 ∷ 0 ∷ 0 ∷ 0 ∷ 1 ∷ 0 ∷ 0 ∷ []) (0x66 ∷ 0x31 ∷ [])
    (0x02 ∷ 0x01 ∷ 0x66 ∷ 0x01 ∷ 0x01 ∷ 0x01 ∷ 0x31 ∷ 0x01 ∷ 0x00 ∷ [])
    -- core instance of module 1, with `a` as instance 0
    ∷ core_instance (18 ∷ 1 ∷ 1 ∷ 0 ∷ 1 ∷ 0 ∷ []) (0x61 ∷ []) (0x00 ∷ 0x01 ∷ 0x01 ∷ 0x01 ∷ 0x61 ∷ 0x12 ∷ 0x00 ∷ [])
    -- instance of the one item `a`, core module 0
    ∷ component_instance (21 ∷ 1 ∷ 0 ∷ 1 ∷ 0 ∷ 0 ∷ 0 ∷ 0 ∷ 0 ∷ 0 ∷ 0 ∷ 0 ∷ 0 ∷ 0 ∷ 0 ∷ []) (0x61 ∷ [])
    (0x01 ∷ 0x01 ∷ 0x00 ∷ 0x01 ∷ 0x61 ∷ 0x00 ∷ 0x11 ∷ 0x00 ∷ [])
    -- record x error-context
    ∷ type (1 ∷ 1 ∷ 0 ∷ 1 ∷ 0 ∷ 13 ∷ []) (0x78 ∷ []) (0x72 ∷ 0x01 ∷ 0x01 ∷ 0x78 ∷ 0x64 ∷ [])
    -- the same, read at grade 1
    ∷ type_read 1 (0x72 ∷ 0x01 ∷ 0x01 ∷ 0x78 ∷ 0x64 ∷ []) refusal.Newer 4
    -- map string to u32, read at grade 2
    ∷ type_read 2 (0x63 ∷ 0x73 ∷ 0x79 ∷ []) refusal.Newer 0
    -- import lead 01
    ∷ import_read 3 (0x01 ∷ []) refusal.Code 0
    -- own 0 as 69 80 00: padded numbers are legal (the fourth wish); and in five bytes
    ∷ type_taken (0x69 ∷ 0x80 ∷ 0x00 ∷ []) (11 ∷ 0 ∷ [])
    ∷ type_taken (0x69 ∷ 0x80 ∷ 0x80 ∷ 0x80 ∷ 0x80 ∷ 0x00 ∷ []) (11 ∷ 0 ∷ [])
    -- list of index 0, and of 115 in five bytes
    ∷ type_taken (0x70 ∷ 0x80 ∷ 0x00 ∷ []) (3 ∷ 1 ∷ 0 ∷ [])
    ∷ type_taken (0x70 ∷ 0xf3 ∷ 0x80 ∷ 0x80 ∷ 0x80 ∷ 0x00 ∷ []) (3 ∷ 1 ∷ 115 ∷ [])
    -- flags `x`, count and length padded
    ∷ type_taken (0x6e ∷ 0x81 ∷ 0x00 ∷ 0x81 ∷ 0x80 ∷ 0x00 ∷ 0x78 ∷ []) (7 ∷ 1 ∷ 6 ∷ 1 ∷ [])
    -- import f, version suffix `1`, the count of options padded, function 0
    ∷ import_taken (0x02 ∷ 0x01 ∷ 0x66 ∷ 0x81 ∷ 0x00 ∷ 0x01 ∷ 0x01 ∷ 0x31 ∷ 0x01 ∷ 0x00 ∷ [])
    (17 ∷ 2 ∷ 1 ∷ 0 ∷ 0 ∷ 0 ∷ 1 ∷ 7 ∷ 1 ∷ 0 ∷ 0 ∷ 0 ∷ 1 ∷ 0 ∷ 0 ∷ [])
    -- own 2^32; with an unused bit that is not 0; in five bytes that carry on; list of -1
    ∷ type_read 3 (0x69 ∷ 0x80 ∷ 0x80 ∷ 0x80 ∷ 0x80 ∷ 0x10 ∷ []) refusal.Number 1
    ∷ type_read 3 (0x69 ∷ 0x80 ∷ 0x80 ∷ 0x80 ∷ 0x80 ∷ 0x40 ∷ []) refusal.Number 1
    ∷ type_read 3 (0x69 ∷ 0x80 ∷ 0x80 ∷ 0x80 ∷ 0x80 ∷ 0x80 ∷ 0x00 ∷ []) refusal.Number 1
    ∷ type_read 3 (0x70 ∷ 0xff ∷ 0x7f ∷ []) refusal.Number 1
    ∷ []
