-- What the digits so far make, with those from the loop's place on, is the number.
use Rattle.std.proofs.Common.{◌≡◌, drop}
use Rattle.telling.specs.Numerals.{number_from}
use Rattle.telling.proofs.numerals.number_from.Given as goal

abbrev pub invariant-loop-digit : goal.invariant-loop-digit
invariant-loop-digit l = number_from 0 l.part ≡ number_from l.number (drop l.digit-index l.part)
