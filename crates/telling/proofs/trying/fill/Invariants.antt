-- The places before the loop's are filled, and the others are as they were.
use Rattle.std.proofs.Common.{length, ◌-◌, ◌≡◌, ◌≤◌, ◌++◌, drop}
use Rattle.telling.specs.Trying.{filled}
use Rattle.telling.proofs.trying.fill.Given as goal

abbrev pub invariant-loop-i : goal.invariant-loop-i
invariant-loop-i l = (l.out ≡ filled l.turned l.i ++ drop l.i l.initial.out) × (l.i ≤ length l.initial.out)

abbrev pub decreases-loop-i : goal.decreases-loop-i
decreases-loop-i l = length l.initial.out - l.i
