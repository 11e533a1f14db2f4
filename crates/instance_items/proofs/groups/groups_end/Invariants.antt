-- `groups_end` meets its contract: the groups that are due end where all of them do (`Going`), and each step says whether its field is
-- right (`took-some`, `took_none`).
use Prim.Native.Nat.{◌-◌}
use Rattle.instance_items.specs.inside.Group.{group_of}
use Rattle.reading.proofs.StepLaws.{Going}
use Rattle.instance_items.proofs.groups.groups_end.Given as goal

abbrev pub invariant-loop : goal.invariant-loop
invariant-loop l = Going l.grade l.input (group_of l.kind) l.n l.from (l.n - l.counter) l.at
