-- `numbers::text::spelled` meets its contract. The loop's invariant: the name is text if what is to come of it is, and stops where that does.
-- A round is what `sequence_at` ensures.
use Rattle.std.proofs.Common.{◌≡◌, ◌+◌, ◌-◌, ◌≤◌, [], length, drop}
use Rattle.numbers.specs.Text.{text, rest, goes, stop}
use Rattle.numbers.proofs.text.spelled.Given as goal

abbrev pub invariant-loop-i : goal.invariant-loop-i
invariant-loop-i l = (l.i ≤ length l.name) × ((text l.name ≡ rest [] (drop l.i l.name)) × (stop l.name ≡ l.i + goes [] (drop l.i l.name)))

abbrev pub decreases-loop-i : goal.decreases-loop-i
decreases-loop-i l = length l.name - l.i
