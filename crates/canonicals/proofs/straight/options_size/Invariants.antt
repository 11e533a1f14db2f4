-- `options_size` meets its contract: the loop's invariant is `Going`: what is still to be seen makes the whole.
use Rattle.std.proofs.Common.{◌-◌}
use Rattle.canonicals.proofs.ClassLaws.{Going}
use Rattle.canonicals.proofs.straight.options_size.Given as goal

abbrev pub invariant-loop : goal.invariant-loop
invariant-loop l = Going l.row l.from l.n l.base (l.n - l.counter) l.at l.made
