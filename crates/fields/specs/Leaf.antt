-- What stands at a place: so much is taken, and so much is made of it; or what is wrong, and where.
use Rattle.std.specs.Prelude.{ℕ, Result, Ok, Err}
use Rattle.fields.specs.declared.Fault.{Fault}
use Rattle.fields.specs.declared.Refusal.{Refusal}
use Rattle.fields.specs.declared.Span.{Span}

abbrev pub Leaf : Type 0
Leaf = Result Span Fault

abbrev pub Fine : ℕ → ℕ → Leaf
Fine t m = Ok (record { took = t; made = m })

abbrev pub Bad : Refusal → ℕ → Leaf
Bad w j = Err (record { why = w; value = j })
