-- A byte sequence of a name: a well-formed one of so many bytes, or so many bytes of one, and then a byte that cannot stand there.
use Rattle.std.specs.Prelude.{ℕ, Result, Err}
use Rattle.numbers.specs.declared.text.Breaks.{Breaks as Broken}

abbrev pub Sequence : Type 0
Sequence = Result ℕ Broken

abbrev pub Breaks : ℕ → Sequence
Breaks n = Err (record { after = n })
