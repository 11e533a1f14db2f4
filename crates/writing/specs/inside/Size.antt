-- How many bytes a field has, by its words alone; where the field is right this is the length of its bytes.
use Rattle.std.specs.Prelude.{ℕ, ◌+◌, cond, List, eqb, length}
use Rattle.numbers.specs.Leb.{unsigned, signed}
use Rattle.fields.specs.declared.Field.{Field}
use Rattle.fields.specs.declared.Field.TheVariants as field
use Rattle.fields.specs.Words.{word, indexed}
use Rattle.writing.specs.Binary.{slots}

abbrev pub value_size : List ℕ → ℕ → ℕ
value_size ws i = cond (eqb (word ws i) 0) 1 (length (signed (word ws (i + 1))))

-- a byte says whether the value is there; `absent` is the size where it is not
abbrev pub optional_size : ℕ → List ℕ → ℕ → ℕ
optional_size absent ws i = cond (eqb (word ws i) 2) absent (1 + value_size ws i)

abbrev pub name_size : List ℕ → ℕ → ℕ
name_size ws i = length (unsigned (word ws (i + 1))) + word ws (i + 1)

abbrev pub slot_size : List ℕ → ℕ → ℕ
slot_size ws i = cond (eqb (word ws i) 0) 0 (1 + name_size ws (i + 1))

abbrev pub slots_size : List ℕ → ℕ
slots_size ws = slot_size ws 2 + (slot_size ws 5 + slot_size ws 8)

-- the count is there where an option is
abbrev pub extern_size : List ℕ → ℕ
extern_size ws = cond (eqb (slots ws) 0) (1 + name_size ws 0) (2 + (name_size ws 0 + slots_size ws))

abbrev pub reference_size : List ℕ → ℕ
reference_size ws =
    cond (eqb (word ws 0) 0) (2 + length (unsigned (word ws 1)))
    (cond (eqb (word ws 0) 2) (1 + value_size ws 1)
    (cond (eqb (word ws 0) 3) (cond (eqb (word ws 1) 0) (2 + length (unsigned (word ws 2))) 2) (1 + length (unsigned (word ws 1)))))

abbrev pub sort_index_size : List ℕ → ℕ
sort_index_size ws = cond (eqb (word ws 0) 0) (2 + length (unsigned (word ws 1))) (1 + length (unsigned (word ws 1)))

unfoldable pub size : Field → List ℕ → ℕ
size field.Nothing ws = 0
size (field.Fixed b) ws = 1
size field.Primitive ws = 1
size field.Value ws = value_size ws 0
size field.Optional ws = optional_size 1 ws 0
size field.OptionalThenZero ws = optional_size 1 ws 0 + 1
size field.Result ws = optional_size 2 ws 0
size field.Name ws = name_size ws 0
size field.Index ws = length (unsigned (word ws 0))
size field.Async ws = 1
size field.Flag ws = 1
size field.Rep ws = 1
size field.OptionalIndex ws = cond (eqb (word ws 0) 0) 1 (1 + length (unsigned (word ws 1)))
size field.Choice ws = cond (indexed (word ws 0)) (1 + length (unsigned (word ws 1))) 1
size field.ExternName ws = extern_size ws
size field.Reference ws = reference_size ws
size field.Argument ws = 1 + length (unsigned (word ws 0))
size field.CoreSortIndex ws = 1 + length (unsigned (word ws 1))
size field.SortIndex ws = sort_index_size ws
