-- No more digits than bytes so far.
use Rattle.std.proofs.Common.{◌≤◌}
use Rattle.unsheet.proofs.bytes_of.Given as goal

abbrev pub invariant-loop-byte : goal.invariant-loop-byte
invariant-loop-byte l = l.count ≤ l.byte-index
