-- Writing a canonical row.
use Rattle.std.specs.Prelude.{ℕ, Option, Some, cond, List, eqb, drop}
use Rattle.fields.specs.declared.Shape.{Shape}
use Rattle.fields.specs.Answer.{Answer}
use Rattle.fields.specs.Words.{word}
use Rattle.writing.specs.Row.{measured_row, row_bytes}
use Rattle.fields.specs.Table.{shape_in}
use Rattle.fields.specs.Answers.{Left}
use Rattle.writing.specs.Write.{stored}
use Rattle.canonicals.specs.Table.{table, lift_shape, lift}

-- lift is no line of the table, since its bytes are in another order than its words
abbrev pub shape_of : ℕ → Option Shape
shape_of k = cond (eqb k 256) (Some lift_shape) (shape_in table k)

unfoldable pub canonical_bytes : List ℕ → List ℕ → List ℕ
canonical_bytes pool row = cond (eqb (word row 0) 256) (lift (drop 1 row)) (row_bytes (shape_in table (word row 0)) pool row)

unfoldable pub measured_canonical : List ℕ → List ℕ → Answer
measured_canonical row pool = measured_row (shape_of (word row 0)) row pool

unfoldable pub write_canonical : List ℕ → List ℕ → List ℕ → ℕ → Left
write_canonical row pool out at = stored (measured_canonical row pool) (canonical_bytes pool row) out at
