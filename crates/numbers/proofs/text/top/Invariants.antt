-- `numbers::text::top` meets its contract. The loop's invariant: no byte passed is above `high`.
use Rattle.std.proofs.Common.{◌+◌, ◌≤◌}
use Rattle.numbers.specs.inside.Below.{Below}
use Rattle.numbers.proofs.text.top.Given as goal

abbrev pub invariant-loop-k : goal.invariant-loop-k
invariant-loop-k l = (l.k ≤ l.n) × Below (l.high + 1) l.s l.from (l.from + l.k)
