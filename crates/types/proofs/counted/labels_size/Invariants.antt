-- `labels_size` meets its contract: the loop's invariant is `Going` (what is still to be seen makes the whole) and its numbers.
use Prim.Native.Nat.{◌+◌, ◌-◌, ◌*◌, ◌≤◌}
use mathlib.Core.Path.{◌≡◌}
use mathlib.Core.List.{[], ◌∷◌}
use Rattle.fields.specs.declared.Field.TheVariants as field
use Rattle.writing.proofs.GroupLaws.{Going}
use Rattle.types.specs.Table.{label}
use Rattle.types.proofs.counted.labels_size.Given as goal

abbrev pub invariant-loop : goal.invariant-loop
invariant-loop l = Going l.pool (field.Name ∷ field.Nothing ∷ []) (label l.pool) 65541 l.row l.from l.n l.base (l.n - l.counter) l.at l.made
    × ((l.at ≡ l.from + l.counter * 2) × (l.made ≤ l.base + l.counter * 65541))
