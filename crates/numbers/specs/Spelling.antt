-- What a name is: well-formed UTF-8, or it stops at the first byte at which no well-formed name can go on.
use Rattle.std.specs.Prelude.{ℕ, Result, Ok, Err}
use Rattle.numbers.specs.declared.text.NotText.{NotText}

abbrev pub Spelling : Type 0
Spelling = Result (Unit {0}) NotText

pattern abbrev pub Right : Spelling
Right = Ok tt

abbrev pub Stops : ℕ → Spelling
Stops n = Err (record { stop = n })
