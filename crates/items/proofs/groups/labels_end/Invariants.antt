-- `labels_end` meets its contract: the labels that are due end where all of them do (`Going`), and each step says whether its label is
-- right (`name-some`, `name_none`).
use Prim.Native.Nat.{◌-◌}
use mathlib.Core.List.{[], ◌∷◌}
use Rattle.fields.specs.declared.Field.TheVariants as field
use Rattle.reading.proofs.StepLaws.{Going}
use Rattle.items.proofs.groups.labels_end.Given as goal

abbrev pub invariant-loop : goal.invariant-loop
invariant-loop l = Going 1 l.input (field.Name ∷ field.Nothing ∷ []) l.n l.from (l.n - l.counter) l.at
