-- What a reading call answers: so many words of the row and so many bytes taken, or why the input is refused, and the number with that.
use Rattle.std.specs.Prelude.{ℕ, Result, Ok, Err}
use Rattle.fields.specs.declared.Fault.{Fault}
use Rattle.fields.specs.declared.Extent.{Extent}
use Rattle.fields.specs.declared.Refusal.{Refusal}

abbrev pub Read : Type 0
Read = Result Extent Fault

abbrev pub Item : ℕ → ℕ → Read
Item m t = Ok (record { words = m; took = t })

abbrev pub Refused : Refusal → ℕ → Read
Refused w n = Err (record { why = w; value = n })
