-- `is_framed` meets its contract. The loop's invariant: the rows from here are whole where those from the start are. The measure is how
-- many bytes are due.
use Prim.Native.Nat.{◌-◌, ◌≤◌}
use mathlib.Core.Path.{◌≡◌}
use lib.ListN.{length}
use Rattle.sheets.specs.inside.Steps.{rest, whole}
use Rattle.sheets.proofs.is_framed.Given as goal

abbrev pub invariant-loop-at : goal.invariant-loop-at
invariant-loop-at l = (l.at ≤ length l.input) × (whole (rest l.input l.start) ≡ whole (rest l.input l.at))

abbrev pub decreases-loop-at : goal.decreases-loop-at
decreases-loop-at l = length l.input - l.at
