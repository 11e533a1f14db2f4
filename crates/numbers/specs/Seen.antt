-- A number that was taken, as straight code has it: its value and how many bytes it has, if there is one.
use Rattle.std.specs.Prelude.{Ok, Err, Option, Some, None, ℕ, cond, List, length, take, nat_lt, slice_index}
use Rattle.numbers.specs.declared.leb.Number.{Number}
use Rattle.numbers.specs.Taken.{Taken}
use Rattle.numbers.specs.Leb.{take_signed}

abbrev pub number : ℕ → ℕ → Number
number n t = record { value = n; took = t }

abbrev pub seen : Taken → Option Number
seen (Ok taken) = Some taken
seen (Err why) = None

-- an s33 of two or three bytes, where three are there
unfoldable pub short_signed : List ℕ → Option Number
short_signed input =
    cond (nat_lt (length input) 3) None (cond (nat_lt (slice_index input 0) 128) None (seen (take_signed (take 3 input))))
