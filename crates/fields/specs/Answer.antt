-- What a writing call answers: so many bytes were added, or why the row is refused, and the number with that.
use Rattle.std.specs.Prelude.{ℕ, Result, Err}
use Rattle.fields.specs.declared.Fault.{Fault}
use Rattle.fields.specs.declared.Refusal.{Refusal}

abbrev pub Answer : Type 0
Answer = Result ℕ Fault

abbrev pub Refused : Refusal → ℕ → Answer
Refused w n = Err (record { why = w; value = n })
