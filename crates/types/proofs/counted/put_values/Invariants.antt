-- `put_values` meets its contract: the loop's invariant is `Putting`, by indices as nothing is needed of the words.
use Prim.Native.Nat.{◌+◌, ◌-◌, ◌*◌}
use mathlib.Core.Path.{◌≡◌}
use mathlib.Core.List.{[], ◌∷◌}
use Rattle.fields.specs.declared.Field.TheVariants as field
use Rattle.fields.specs.Words.{word}
use Rattle.writing.specs.Binary.{valtype}
use Rattle.writing.proofs.GroupLaws.{Putting}
use Rattle.types.proofs.counted.put_values.Given as goal

abbrev pub invariant-loop : goal.invariant-loop
invariant-loop l = Putting [] (field.Index ∷ field.Index ∷ []) (λ ws. valtype (word ws 0) (word ws 1)) l.row l.from l.n l.initial.out l.base (l.n - l.counter) l.at l.to l.out
    × (l.at ≡ l.from + l.counter * 2)
