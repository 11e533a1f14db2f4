-- The groups of the kinds with a count, as straight code tells them apart.
use Rattle.std.specs.Prelude.{cond, ℕ, List, [], ◌∷◌, eqb}
use Rattle.fields.specs.declared.Field.{Field}
use Rattle.fields.specs.declared.Field.TheVariants as field
use Rattle.fields.specs.declared.Shape.{Shape}
use Rattle.fields.specs.Table.{many_of}

-- the second field of a group; the first is a name, but in a tuple
unfoldable pub group_one : ℕ → Field
group_one kind = cond (eqb kind 6) field.Value field.Name

unfoldable pub group_two : ℕ → Field
group_two kind = cond (eqb kind 1) field.Value (cond (eqb kind 2) field.OptionalThenZero field.Nothing)

abbrev pub group_of : ℕ → List Field
group_of kind = group_one kind ∷ group_two kind ∷ []

-- the shape of such a kind behind its lead
abbrev pub counted_of : ℕ → Shape
counted_of kind = many_of field.Nothing field.Nothing field.Nothing (group_one kind) (group_two kind) field.Nothing
