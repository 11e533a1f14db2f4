-- Reading a type: its kind is told by its first byte.
use Rattle.std.specs.Prelude.{List, [], ◌∷◌, ℕ, cond, eqb, ltb}
use Rattle.fields.specs.Answers.{LeftRow}
use Rattle.fields.specs.declared.Site.TheVariants.{TypeLead}
use Rattle.fields.specs.Grades as grades
use Rattle.reading.specs.Read.{read_item}
use Rattle.reading.specs.Scan.{byte}
use Rattle.types.specs.Write.{shape_of}

-- a first byte, and the kind of the items that begin with it
pub record First : Type 0 where
  pub begins : ℕ
  pub kind : ℕ

abbrev first : ℕ → ℕ → First
first b k = record { begins = b; kind = k }

abbrev pub firsts : List First
firsts =
    -- primvaltype ::= .. | 0x64; those from 0x73 on stand below
    first 0x64 0
    -- defvaltype
    ∷ first 0x72 1
    ∷ first 0x71 2
    ∷ first 0x70 3
    ∷ first 0x63 4
    ∷ first 0x67 5
    ∷ first 0x6f 6
    ∷ first 0x6e 7
    ∷ first 0x6d 8
    ∷ first 0x6b 9
    ∷ first 0x6a 10
    ∷ first 0x69 11
    ∷ first 0x68 12
    ∷ first 0x65 13
    ∷ first 0x66 14
    -- functype
    ∷ first 0x40 15
    ∷ first 0x43 15
    -- resourcetype
    ∷ first 0x3f 16
    ∷ []

-- the kind of a first byte; 17 is no type's
unfoldable pub kind_in : List First → ℕ → ℕ
kind_in [] b = 17
kind_in (f ∷ fs) b = cond (eqb b f.begins) f.kind (kind_in fs b)

-- primvaltype ::= 0x7f | 0x7e | .. | 0x73
unfoldable pub kind_of : ℕ → ℕ
kind_of b = cond (ltb b 0x73) (kind_in firsts b) (cond (ltb b 0x80) 0 17)

-- the grade of a kind's lead
unfoldable pub lead_grade : ℕ → ℕ
lead_grade k = grades.lead_grade TypeLead (shape_of k)

unfoldable pub read_type : ℕ → List ℕ → List ℕ → LeftRow
read_type g input row =
    read_item (shape_of (kind_of (byte input 0))) (kind_of (byte input 0)) (lead_grade (kind_of (byte input 0))) g input row
