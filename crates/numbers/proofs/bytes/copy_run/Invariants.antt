-- `numbers::bytes::copy_run` meets its contract. The loop's invariant: the first k of the bytes to copy stand in the buffer
-- (`Held` of `CopyLaws`). Assumes nothing.
use Rattle.std.proofs.Common.{◌≤◌, drop}
use Rattle.numbers.proofs.CopyLaws.{Held}
use Rattle.numbers.proofs.bytes.copy_run.Given as goal

abbrev pub invariant-loop-k : goal.invariant-loop-k
invariant-loop-k l = (l.k ≤ l.size) × Held l.initial.out l.to (drop l.from l.src) l.k l.out
