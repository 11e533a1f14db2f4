-- `put_options` meets its contract: the loop's invariant is `Putting`: what is still to be put, put here, leaves what the whole leaves.
use Rattle.std.proofs.Common.{◌-◌}
use Rattle.canonicals.proofs.ClassLaws.{Putting}
use Rattle.canonicals.proofs.straight.put_options.Given as goal

abbrev pub invariant-loop : goal.invariant-loop
invariant-loop l = Putting l.row l.from l.n l.initial.out l.base (l.n - l.counter) l.at l.to l.out
