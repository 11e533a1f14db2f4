-- A row whose first word is its kind: LIMIT, then an empty row, then the kind, then what its shape says.
use Rattle.std.specs.Prelude.{None, Some, Option, cond, List, [], ℕ, eqb, ltb, length}
use Rattle.fields.specs.declared.Shape.{Shape}
use Rattle.fields.specs.declared.Refusal.TheVariants as refusal
use Rattle.fields.specs.Answer.{Answer, Refused}
use Rattle.fields.specs.Answers.{Left}
use Rattle.writing.specs.Write.{measured, written, stored}
use Rattle.fields.specs.Limits.{row_words, pool_bytes}

abbrev pub measured_found : Option Shape → List ℕ → List ℕ → Answer
measured_found (Some s) row pool = measured s row 1 pool
measured_found None row pool = Refused refusal.Kind 0

unfoldable pub measured_row : Option Shape → List ℕ → List ℕ → Answer
measured_row found row pool =
    cond (ltb row_words (length row)) (Refused refusal.Limit 0)
    (cond (ltb pool_bytes (length pool)) (Refused refusal.Limit 0)
    (cond (eqb (length row) 0) (Refused refusal.Row 0) (measured_found found row pool)))

-- the bytes of a row, the kind itself being none
unfoldable pub row_bytes : Option Shape → List ℕ → List ℕ → List ℕ
row_bytes (Some s) pool row = written s pool row 1
row_bytes None pool row = []

unfoldable pub write_row : Option Shape → List ℕ → List ℕ → List ℕ → ℕ → Left
write_row found row pool out at = stored (measured_row found row pool) (row_bytes found pool row) out at
