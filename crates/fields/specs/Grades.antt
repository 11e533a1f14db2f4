-- The grades of forms: where the byte that marks a form stands, the bytes, and the grade. All else is of grade 1.
use Rattle.std.specs.Prelude.{None, Some, Option, ℕ, cond, List, [], ◌∷◌, ltb}
use Rattle.fields.specs.declared.Shape.{Shape}
use Rattle.fields.specs.declared.Site.{Site}
use Rattle.fields.specs.declared.Site.TheVariants as site
use Rattle.fields.specs.declared.Field.{Field}
use Rattle.fields.specs.declared.Field.TheVariants as field

-- the bytes from `first` to `last` mark forms of a grade
pub record Marks : Type 0 where
  pub first : ℕ
  pub last : ℕ
  pub grade : ℕ

abbrev marks : ℕ → ℕ → ℕ → Marks
marks a b n = record { first = a; last = b; grade = n }

abbrev pub marks_at : Site → List Marks
-- "primitive 64" is grade 2
marks_at site.Primitive = marks 0x64 0x64 2 ∷ []
-- "lead 65, 66 and 43" are grade 2, "63, 67" grade 3
marks_at site.TypeLead = marks 0x43 0x43 2 ∷ marks 0x63 0x63 3 ∷ marks 0x65 0x66 2 ∷ marks 0x67 0x67 3 ∷ []
-- "the import lead 02"; "in instance rows a name's lead 02 is grade 3"
marks_at site.NameLead = marks 0x02 0x02 3 ∷ []
-- "every lead of 05 and up but 40 and 41 is grade 2; 40, 41 .. are grade 3"
marks_at site.CanonLead = marks 0x05 0x3f 2 ∷ marks 0x40 0x41 3 ∷ marks 0x42 0xff 2 ∷ []
-- "async, callback" are grade 2, "core type and gc" grade 3
marks_at site.CanonOption = marks 0x06 0x07 2 ∷ marks 0x08 0x09 3 ∷ []

abbrev pub grade_in : List Marks → ℕ → ℕ
grade_in [] b = 1
grade_in (m ∷ ms) b = cond (ltb b m.first) (grade_in ms b) (cond (ltb m.last b) (grade_in ms b) m.grade)

-- the grade of what a byte marks at a site
abbrev pub grade_of : Site → ℕ → ℕ
grade_of s b = grade_in (marks_at s) b

-- the byte with which a shape begins; 00, which marks nothing, where it begins with none
abbrev pub fixed_byte : Field → ℕ
fixed_byte field.Nothing = 0
fixed_byte (field.Fixed b) = b
fixed_byte field.Primitive = 0
fixed_byte field.Value = 0
fixed_byte field.Optional = 0
fixed_byte field.OptionalThenZero = 0
fixed_byte field.Result = 0
fixed_byte field.Name = 0
fixed_byte field.Index = 0
fixed_byte field.Async = 0
fixed_byte field.Flag = 0
fixed_byte field.Rep = 0
fixed_byte field.OptionalIndex = 0
fixed_byte field.Choice = 0
fixed_byte field.ExternName = 0
fixed_byte field.Reference = 0
fixed_byte field.Argument = 0
fixed_byte field.CoreSortIndex = 0
fixed_byte field.SortIndex = 0

abbrev pub lead_byte : Option Shape → ℕ
lead_byte (Some s) = fixed_byte s.lead
lead_byte None = 0

-- the grade of a shape's lead
abbrev pub lead_grade : Site → Option Shape → ℕ
lead_grade s found = grade_of s (lead_byte found)
