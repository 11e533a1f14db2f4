-- What taking a number from the front of an input finds: the number and how many bytes it has, or why there is none.
use Rattle.std.specs.Prelude.{ℕ, Result, Ok, Err}
use Rattle.numbers.specs.declared.leb.NoNumber.{NoNumber}
use Rattle.numbers.specs.declared.leb.NoNumber.TheVariants as none
use Rattle.numbers.specs.declared.leb.Number.{Number}

abbrev pub Taken : Type 0
Taken = Result Number NoNumber

abbrev pub Value : ℕ → ℕ → Taken
Value n t = Ok (record { value = n; took = t })

-- the input ends inside the number
pattern abbrev pub Cut : Taken
Cut = Err none.Cut

-- no number of 32 bits in at most five bytes
pattern abbrev pub Bad : Taken
Bad = Err none.Bad
