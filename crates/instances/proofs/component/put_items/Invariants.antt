-- `component::put_items` meets its contract: the loop's invariant is `Putting`: what is still to be put, put here, leaves what the whole leaves.
use Rattle.std.specs.Prelude.{◌≡◌, ◌+◌, ◌-◌, ◌*◌, [], ◌∷◌}
use Rattle.fields.specs.declared.Field.TheVariants as field
use Rattle.writing.proofs.GroupLaws.{Putting}
use Rattle.instances.specs.Table.{inlineexport}
use Rattle.instances.proofs.component.put_items.Given as goal

abbrev pub invariant-loop : goal.invariant-loop
invariant-loop l = Putting l.pool (field.ExternName ∷ field.SortIndex ∷ []) (inlineexport l.pool) l.row l.from l.n l.initial.out l.base (l.n - l.counter) l.at l.to l.out × (l.at ≡ l.from + l.counter * 13)
