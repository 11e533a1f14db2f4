-- `values_end` meets its contract: the Vs that are due end where all of them do (`Going`); a V is right where a short number is seen
-- (`value-short`) or its step answers (`value-some`).
use Prim.Native.Nat.{◌-◌}
use mathlib.Core.List.{[], ◌∷◌}
use Rattle.fields.specs.declared.Field.TheVariants as field
use Rattle.reading.proofs.StepLaws.{Going}
use Rattle.items.proofs.groups.values_end.Given as goal

abbrev pub invariant-loop : goal.invariant-loop
invariant-loop l = Going l.grade l.input (field.Value ∷ field.Nothing ∷ []) l.n l.from (l.n - l.counter) l.at
