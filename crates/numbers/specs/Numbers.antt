-- Document 01's number and value of each answer: 0 OK, 8 ROOM, 11 CUT, 13 NUMBER.
use Rattle.std.specs.Prelude.{Err, Ok, ℕ}
use Rattle.numbers.specs.Stored.{Stored}
use Rattle.numbers.specs.Taken.{Taken, Cut, Bad}

unfoldable pub number_of : Stored → ℕ
number_of (Ok n) = 0
number_of (Err short) = 8

unfoldable pub value_of : Stored → ℕ
value_of (Ok n) = n
value_of (Err short) = short.size

unfoldable pub number_of_taken : Taken → ℕ
number_of_taken (Ok taken) = 0
number_of_taken Cut = 11
number_of_taken Bad = 13
