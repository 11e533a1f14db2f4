-- `numbers::read` meets its contract. The loop's invariant is `Begun` of `proofs/Reading.antt`, which has a law for each way out of a round.
-- Assumes nothing.
use Rattle.numbers.proofs.Reading.{Begun}
use Rattle.numbers.proofs.leb.read.Given as goal

abbrev pub invariant-loop-i : goal.invariant-loop-i
invariant-loop-i l = Begun l.input l.end l.i l.low l.scale
