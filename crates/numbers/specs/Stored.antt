-- What storing bytes comes to: so many now stand in the buffer, or so many do not fit.
use Rattle.std.specs.Prelude.{ℕ, Result, Err}
use Rattle.numbers.specs.declared.bytes.NoRoom.{NoRoom}

abbrev pub Stored : Type 0
Stored = Result ℕ NoRoom

abbrev pub Room : ℕ → Stored
Room n = Err (record { size = n })
