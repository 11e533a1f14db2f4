-- The parts of a function, as straight code puts them.
use Rattle.std.specs.Prelude.{List, ◌∷◌, ◌++◌, ℕ, ◌+◌, ◌*◌, drop}
use Rattle.numbers.specs.Leb.{unsigned}
use Rattle.fields.specs.declared.Field.TheVariants as field
use Rattle.fields.specs.declared.Shape.{Shape}
use Rattle.fields.specs.Words.{word}
use Rattle.writing.specs.Binary.{functype, resultlist}
use Rattle.fields.specs.Table.{many_of, elements}
use Rattle.types.specs.Table.{labelvaltype}

-- functype ::= 0x40 ps:<paramlist> rs:<resultlist> | 0x43 ..: its fields, and its bytes over a row
abbrev pub function_shape : Shape
function_shape = many_of field.Nothing field.Nothing field.Async field.Name field.Value field.Result

abbrev pub function_bytes : List ℕ → List ℕ → List ℕ
function_bytes pool row =
    functype (word row 1)
    ∷ (unsigned (word row 2)
    ++ (elements (word row 2) 4 (labelvaltype pool) (drop 3 row)
    ++ resultlist (word row (3 + word row 2 * 4)) (word row (4 + word row 2 * 4))))

-- the words of a step, and what they make: the first byte and the parameters
abbrev pub head_bytes : List ℕ → List ℕ → List ℕ
head_bytes pool words =
    functype (word words 0) ∷ (unsigned (word words 1) ++ elements (word words 1) 4 (labelvaltype pool) (drop 2 words))
