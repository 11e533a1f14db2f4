-- `fill_cases` meets its contract: the loop's invariant is `Filling`: what is due of the groups, stored here, leaves what the whole
-- leaves; a round stores the words of a label, an O and 00.
use Prim.Native.Nat.{◌-◌}
use mathlib.Core.List.{[], ◌∷◌}
use Rattle.fields.specs.declared.Field.TheVariants as field
use Rattle.reading.proofs.FillLaws.{Filling}
use Rattle.items.proofs.groups.fill_cases.Given as goal

abbrev pub invariant-loop : goal.invariant-loop
invariant-loop l = Filling l.grade l.input (field.Name ∷ field.OptionalThenZero ∷ []) l.n l.from l.initial.row l.base (l.n - l.counter) l.at l.to l.row
