-- Writing a row of a core instance, and of an instance.
use Rattle.fields.specs.declared.Shape.{Shape}
use Rattle.std.specs.Prelude.{Option, ℕ, List}
use Rattle.fields.specs.Answer.{Answer}
use Rattle.fields.specs.Words.{word}
use Rattle.writing.specs.Row.{measured_row, write_row}
use Rattle.fields.specs.Table.{shape_in}
use Rattle.fields.specs.Answers.{Left}
use Rattle.instances.specs.Table.{core_table, table}

abbrev pub core_shape_of : ℕ → Option Shape
core_shape_of k = shape_in core_table k

unfoldable pub measured_core_instance : List ℕ → List ℕ → Answer
measured_core_instance row pool = measured_row (core_shape_of (word row 0)) row pool

unfoldable pub write_core_instance : List ℕ → List ℕ → List ℕ → ℕ → Left
write_core_instance row pool out at = write_row (core_shape_of (word row 0)) row pool out at

abbrev pub shape_of : ℕ → Option Shape
shape_of k = shape_in table k

unfoldable pub measured_instance : List ℕ → List ℕ → Answer
measured_instance row pool = measured_row (shape_of (word row 0)) row pool

unfoldable pub write_instance : List ℕ → List ℕ → List ℕ → ℕ → Left
write_instance row pool out at = write_row (shape_of (word row 0)) row pool out at
