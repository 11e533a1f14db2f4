-- `scan_groups` meets its contract. The loop's invariant is `Walked`: the walk over the groups that are due, from here, is the whole;
-- the place stays inside the input, and a group makes 22 words at most.
use Prim.Native.Nat.{◌+◌, ◌*◌, ◌≤◌}
use mathlib.Core.List.{[], ◌∷◌}
use lib.ListN.{length}
use Rattle.reading.specs.Scan.{scan}
use Rattle.fields.proofs.LoopLaws.{Walked}
use Rattle.reading.proofs.item.scan_groups.Given as goal

abbrev pub invariant-loop : goal.invariant-loop
invariant-loop l = (Walked (scan l.lead l.grade) l.input (l.one ∷ l.two ∷ []) l.n l.from l.base l.counter l.at l.made) × (l.at ≤ length l.input) × (l.made ≤ l.base + 22 * l.counter)
