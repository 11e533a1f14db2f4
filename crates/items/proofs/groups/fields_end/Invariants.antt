-- `fields_end` meets its contract: the groups that are due end where all of them do (`Going`), and each step says whether its field is
-- right (`name-some`, `name_none`, `value-some`, `step_none`).
use Prim.Native.Nat.{◌-◌}
use mathlib.Core.List.{[], ◌∷◌}
use Rattle.fields.specs.declared.Field.TheVariants as field
use Rattle.reading.proofs.StepLaws.{Going}
use Rattle.items.proofs.groups.fields_end.Given as goal

abbrev pub invariant-loop : goal.invariant-loop
invariant-loop l = Going l.grade l.input (field.Name ∷ field.Value ∷ []) l.n l.from (l.n - l.counter) l.at
