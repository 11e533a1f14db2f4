-- `fill_values` meets its contract: the loop's invariant is `Filling`: what is due of the groups, stored here, leaves what the whole
-- leaves; a round stores the words of a V, which is a short index or read as any V.
use Prim.Native.Nat.{◌-◌}
use mathlib.Core.List.{[], ◌∷◌}
use Rattle.fields.specs.declared.Field.TheVariants as field
use Rattle.reading.proofs.FillLaws.{Filling}
use Rattle.items.proofs.groups.fill_values.Given as goal

abbrev pub invariant-loop : goal.invariant-loop
invariant-loop l = Filling l.grade l.input (field.Value ∷ field.Nothing ∷ []) l.n l.from l.initial.row l.base (l.n - l.counter) l.at l.to l.row
