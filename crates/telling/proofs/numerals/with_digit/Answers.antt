use Rattle.telling.specs.Numerals.{with_digit}
use native.Mathlib.Nat.{mod-add-mod}
use Rattle.telling.proofs.numerals.with_digit.Goals as goal

pub returns : goal.returns
unfolding with_digit
returns c = rw c.from.ensures (mod-add-mod _ _ _)
