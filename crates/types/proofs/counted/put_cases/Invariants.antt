-- `put_cases` meets its contract: the loop's invariant is `Putting`: what is still to be put, put here, leaves what the whole leaves.
use Prim.Native.Nat.{◌+◌, ◌-◌, ◌*◌}
use mathlib.Core.Path.{◌≡◌}
use mathlib.Core.List.{[], ◌∷◌}
use Rattle.fields.specs.declared.Field.TheVariants as field
use Rattle.writing.proofs.GroupLaws.{Putting}
use Rattle.types.specs.Table.{case}
use Rattle.types.proofs.counted.put_cases.Given as goal

abbrev pub invariant-loop : goal.invariant-loop
invariant-loop l = Putting l.pool (field.Name ∷ field.OptionalThenZero ∷ []) (case l.pool) l.row l.from l.n l.initial.out l.base (l.n - l.counter) l.at l.to l.out × (l.at ≡ l.from + l.counter * 4)
