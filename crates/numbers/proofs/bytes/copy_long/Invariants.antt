-- `numbers::bytes::copy_long` meets its contract. The loop's invariant: the first k bytes of src stand in the buffer (`Held` of
-- `CopyLaws`); the last chunk makes them all (`CopyLaws.held-last`). Assumes nothing.
use Rattle.std.proofs.Common.{◌-◌, ◌≤◌, length}
use Rattle.numbers.proofs.CopyLaws.{Held}
use Rattle.numbers.proofs.bytes.copy_long.Given as goal

abbrev pub invariant-loop-k : goal.invariant-loop-k
invariant-loop-k l = (l.k ≤ length l.src) × Held l.initial.out l.at l.src l.k l.out

abbrev pub decreases-loop-k : goal.decreases-loop-k
decreases-loop-k l = length l.src - l.k
