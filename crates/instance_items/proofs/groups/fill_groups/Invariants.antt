-- `fill_groups` meets its contract: the loop's invariant is `Filling`: what is due of the groups, stored here, leaves what the whole
-- leaves; a round stores the words of two fields (`round_next`).
use Prim.Native.Nat.{◌-◌}
use Rattle.instance_items.specs.inside.Group.{group_of}
use Rattle.reading.proofs.FillLaws.{Filling}
use Rattle.instance_items.proofs.groups.fill_groups.Given as goal

abbrev pub invariant-loop : goal.invariant-loop
invariant-loop l = Filling l.grade l.input (group_of l.kind) l.n l.from l.initial.row l.base (l.n - l.counter) l.at l.to l.row
