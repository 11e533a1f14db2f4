-- `core_rows::arguments_size` meets its contract: the loop's invariant is `Going` (what is still to be seen makes the whole) and its numbers.
use Rattle.std.specs.Prelude.{◌≡◌, ◌+◌, ◌-◌, ◌*◌, ◌≤◌, [], ◌∷◌}
use Rattle.fields.specs.declared.Field.TheVariants as field
use Rattle.writing.proofs.GroupLaws.{Going}
use Rattle.instances.specs.Table.{coreinstantiatearg}
use Rattle.instances.proofs.core_rows.arguments_size.Given as goal

abbrev pub invariant-loop : goal.invariant-loop
invariant-loop l = Going l.pool (field.Name ∷ field.Argument ∷ []) (coreinstantiatearg l.pool) 65547 l.row l.from l.n l.base (l.n - l.counter) l.at l.made
    × ((l.at ≡ l.from + l.counter * 3) × (l.made ≤ l.base + l.counter * 65547))
