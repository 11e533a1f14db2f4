-- `values_size` meets its contract: the loop's invariant is `Going` (what is still to be seen makes the whole) and its numbers.
use Prim.Native.Nat.{ℕ, ◌+◌, ◌-◌, ◌*◌, ◌≤◌}
use mathlib.Core.Path.{◌≡◌}
use mathlib.Core.List.{List, [], ◌∷◌}
use Rattle.fields.specs.declared.Field.TheVariants as field
use Rattle.fields.specs.Words.{word}
use Rattle.writing.specs.Binary.{valtype}
use Rattle.writing.proofs.GroupLaws.{Going}
use Rattle.types.proofs.counted.values_size.Given as goal

abbrev pub invariant-loop : goal.invariant-loop
invariant-loop l = ((pool : List ℕ) → Going pool (field.Value ∷ field.Nothing ∷ []) (λ ws. valtype (word ws 0) (word ws 1)) 5 l.row l.from l.n l.base (l.n - l.counter) l.at l.made)
    × ((l.at ≡ l.from + l.counter * 2) × (l.made ≤ l.base + l.counter * 5))
