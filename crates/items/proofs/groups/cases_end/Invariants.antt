-- `cases_end` meets its contract: the groups that are due end where all of them do (`Going`), and each step says whether its field is
-- right (`name-some`, `name_none`, `case-some`, `case_never`).
use Prim.Native.Nat.{◌-◌}
use mathlib.Core.List.{[], ◌∷◌}
use Rattle.fields.specs.declared.Field.TheVariants as field
use Rattle.reading.proofs.StepLaws.{Going}
use Rattle.items.proofs.groups.cases_end.Given as goal

abbrev pub invariant-loop : goal.invariant-loop
invariant-loop l = Going l.grade l.input (field.Name ∷ field.OptionalThenZero ∷ []) l.n l.from (l.n - l.counter) l.at
