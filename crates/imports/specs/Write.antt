-- Writing an import row.
use Rattle.fields.specs.declared.Shape.{Shape}
use Rattle.std.specs.Prelude.{Option, List, ℕ}
use Rattle.fields.specs.Answer.{Answer}
use Rattle.fields.specs.Words.{word}
use Rattle.writing.specs.Row.{measured_row, write_row}
use Rattle.fields.specs.Table.{shape_in}
use Rattle.fields.specs.Answers.{Left}
use Rattle.imports.specs.Table.{table}

abbrev pub shape_of : ℕ → Option Shape
shape_of k = shape_in table k

unfoldable pub measured_import : List ℕ → List ℕ → Answer
measured_import row pool = measured_row (shape_of (word row 0)) row pool

unfoldable pub write_import : List ℕ → List ℕ → List ℕ → ℕ → Left
write_import row pool out at = write_row (shape_of (word row 0)) row pool out at
