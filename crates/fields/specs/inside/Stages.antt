-- The fields of a shape behind its opening, by the count that stands there.
use Rattle.std.specs.Prelude.{cond, List, ◌∷◌, ◌++◌, ℕ}
use Rattle.fields.specs.declared.Field.{Field}
use Rattle.fields.specs.declared.Field.TheVariants as field
use Rattle.fields.specs.declared.Shape.{Shape}
use Rattle.fields.specs.Shape.{group, closing, repeated}

-- the count, as many groups, and the closing
abbrev pub counted_fields : Shape → ℕ → List Field
counted_fields s n = field.Index ∷ (repeated n (group s) ++ closing s)

-- what follows the opening
abbrev pub later : Shape → ℕ → List Field
later s n = cond s.counted (counted_fields s n) (closing s)
