-- Whether the words of a field are right: all are, or the first that is not, and why.
use Rattle.std.specs.Prelude.{ℕ, Result, Ok, Err}
use Rattle.fields.specs.declared.Fault.{Fault}
use Rattle.fields.specs.declared.Refusal.{Refusal}

abbrev pub Flaw : Type 0
Flaw = Result (Unit {0}) Fault

pattern abbrev pub Right : Flaw
Right = Ok tt

abbrev pub Wrong : Refusal → ℕ → Flaw
Wrong w j = Err (record { why = w; value = j })
