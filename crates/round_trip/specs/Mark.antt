-- Where a row's first byte above a grade stands, of the row alone.
use Rattle.std.specs.Prelude.{None, Some, Option, ℕ, ◌+◌, ◌≡◌, cond, List, eqb, ltb, length, drop}
use Rattle.fields.specs.declared.Field.{Field}
use Rattle.fields.specs.declared.Field.TheVariants as field
use Rattle.fields.specs.declared.Shape.{Shape}
use Rattle.fields.specs.declared.Site.TheVariants.{TypeLead, NameLead, CanonOption}
use Rattle.fields.specs.declared.Site.TheVariants as site
use Rattle.fields.specs.Grades.{grade_of}
use Rattle.fields.specs.Words.{word, wide}
use Rattle.writing.specs.Binary.{slots, bytes}
use Rattle.fields.specs.Shape.{plan}
use Rattle.fields.specs.View.{view, said}
use Rattle.fields.specs.Walk.{Plan, end, step}

-- a field has no byte above the grade, or its first stands at a place of the field's bytes
pub data Mark : Type 0 where
  Clear : Mark
  At : ℕ → Mark

-- a form of grade n, marked by the byte at j
abbrev pub asks : ℕ → ℕ → ℕ → Mark
asks g n j = cond (ltb g n) (At j) Clear

-- primitive 13 is the byte 64
abbrev pub primitive_grade : ℕ → ℕ
primitive_grade p = cond (eqb p 13) (grade_of site.Primitive 0x64) 1

abbrev pub value_mark : ℕ → ℕ → ℕ → ℕ → Mark
value_mark g tag x j = cond (eqb tag 0) (asks g (primitive_grade x) j) Clear

unfoldable pub mark : ℕ → ℕ → Field → List ℕ → Mark
mark lead g field.Nothing ws = Clear
mark lead g (field.Fixed b) ws = asks g lead 0
mark lead g field.Primitive ws = asks g (primitive_grade (word ws 0)) 0
mark lead g field.Value ws = value_mark g (word ws 0) (word ws 1) 0
mark lead g field.Optional ws = value_mark g (word ws 0) (word ws 1) 1
mark lead g field.OptionalThenZero ws = value_mark g (word ws 0) (word ws 1) 1
mark lead g field.Result ws = value_mark g (word ws 0) (word ws 1) 1
mark lead g field.Name ws = Clear
mark lead g field.Index ws = Clear
mark lead g field.Async ws = cond (eqb (word ws 0) 0) Clear (asks g (grade_of TypeLead 0x43) 0)
mark lead g field.Flag ws = Clear
mark lead g field.Rep ws = Clear
mark lead g field.OptionalIndex ws = Clear
mark lead g field.Choice ws = asks g (grade_of CanonOption (word ws 0)) 0
mark lead g field.ExternName ws = cond (eqb (slots ws) 0) Clear (asks g (grade_of NameLead 0x02) 0)
mark lead g field.Reference ws = cond (eqb (word ws 0) 2) (value_mark g (word ws 1) (word ws 2) 1) Clear
mark lead g field.Argument ws = Clear
mark lead g field.CoreSortIndex ws = Clear
mark lead g field.SortIndex ws = Clear

abbrev pub ahead : Mark → ℕ → Mark → Mark
ahead Clear b r = r
ahead (At j) b r = At (b + j)

-- the first mark of a plan's fields, with b bytes before them
unfoldable pub first_mark : ℕ → ℕ → List ℕ → Plan → List ℕ → ℕ → Mark
first_mark lead g pool end ws b = Clear
first_mark lead g pool (step f k) ws b =
    ahead (mark lead g f ws) b (first_mark lead g pool (k (view pool f ws)) (drop (wide f) ws) (b + length (bytes pool f ws)))

-- the first mark of a whole row, which its kind's lead may be
unfoldable pub row_mark : Option Shape → ℕ → ℕ → List ℕ → List ℕ → Mark
row_mark (Some s) lead g pool row = first_mark lead g pool (plan s) (drop 1 row) 0
row_mark None lead g pool row = Clear

-- the fields of a plan, one after the other, say beside the input what they say beside the pool
unfoldable pub SameFields : List ℕ → List ℕ → Plan → List ℕ → List ℕ → Type 0
SameFields pool input end ws vs = Unit {0}
SameFields pool input (step f k) ws vs =
    (said input f vs ≡ said pool f ws) × SameFields pool input (k (view pool f ws)) (drop (wide f) ws) (drop (wide f) vs)

-- "same item": equal kinds, words other than name starts, and name bytes, field by field
pub record SameItem (s : Shape) (pool row input words : List ℕ) : Type 0 where
  pub kind : word words 0 ≡ word row 0
  pub long : length words ≡ length row
  pub says : SameFields pool input (plan s) (drop 1 row) (drop 1 words)
