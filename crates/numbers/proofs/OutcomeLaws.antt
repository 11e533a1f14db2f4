-- What answers hold: two that are the same hold the same numbers.
use Rattle.std.specs.Prelude.{◌≡◌, ℕ, Ok, Err}
use Rattle.std.proofs.Common.{ap}
use Rattle.numbers.specs.Taken.{Taken, Value}
use Rattle.numbers.specs.Spelling.{Spelling, Stops}

abbrev value_in : Taken → ℕ
value_in (Ok taken) = taken.value
value_in (Err why) = 0

abbrev took_in : Taken → ℕ
took_in (Ok taken) = taken.took
took_in (Err why) = 0

pub value-same : {n t m u : ℕ} → Value n t ≡ Value m u → (n ≡ m) × (t ≡ u)
value-same e = (ap value_in e, ap took_in e)

abbrev stop_in : Spelling → ℕ
stop_in (Ok right) = 0
stop_in (Err not_text) = not_text.stop

pub stops-same : {n m : ℕ} → Stops n ≡ Stops m → n ≡ m
stops-same e = ap stop_in e
