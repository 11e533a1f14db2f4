-- The class of a canonical is told by its shape, so no second class has it.
use Rattle.std.specs.Prelude.{Option, Some, None}
use Prim.Native.Nat.{ℕ, ◌+◌, ◌*◌}
use mathlib.Core.Path.{◌≡◌, refl, sym, ◌∙◌, ap}
use mathlib.Core.Bool.{cond}
use lib.Dec.{eqb}
use Rattle.fields.specs.declared.Field.{Field}
use Rattle.fields.specs.declared.Field.TheVariants as field
use Rattle.fields.specs.declared.Shape.{Shape}
use Rattle.canonicals.specs.declared.Class.{Class}
use Rattle.canonicals.specs.declared.Class.TheVariants as class
use Rattle.canonicals.specs.inside.Class.{shape_for}

-- a number for each field that a class has
abbrev tag : Field → ℕ
tag field.Nothing = 0
tag (field.Fixed b) = 1
tag field.Primitive = 6
tag field.Value = 6
tag field.Optional = 6
tag field.OptionalThenZero = 6
tag field.Result = 6
tag field.Name = 6
tag field.Index = 2
tag field.Async = 6
tag field.Flag = 3
tag field.Rep = 4
tag field.OptionalIndex = 6
tag field.Choice = 5
tag field.ExternName = 6
tag field.Reference = 6
tag field.Argument = 6
tag field.CoreSortIndex = 6
tag field.SortIndex = 6

-- and for a shape
abbrev key : Option Shape → ℕ
key (Some s) = 1 + tag s.zero + 20 * tag s.first + 400 * tag s.second + 8000 * tag s.one
key None = 0

abbrev class_in : ℕ → Class
class_in n =
    cond (eqb n 1) class.Nothing
    (cond (eqb n 2) class.Zero
    (cond (eqb n 41) class.Index
    (cond (eqb n 42) class.ZeroIndex
    (cond (eqb n 841) class.Indices
    (cond (eqb n 61) class.Flag
    (cond (eqb n 1241) class.IndexFlag
    (cond (eqb n 881) class.RepIndex (cond (eqb n 40041) class.Options (cond (eqb n 40042) class.ZeroOptions class.Not)))))))))

told : (c : Class) (lead : ℕ) → class_in (key (shape_for c lead)) ≡ c
unfolding shape_for
told class.Nothing lead = refl
told class.Zero lead = refl
told class.Index lead = refl
told class.ZeroIndex lead = refl
told class.Indices lead = refl
told class.Flag lead = refl
told class.IndexFlag lead = refl
told class.RepIndex lead = refl
told class.Options lead = refl
told class.ZeroOptions lead = refl
told class.Not lead = refl

pub one_class : (lead : ℕ) (c d : Class) → shape_for c lead ≡ shape_for d lead → c ≡ d
one_class lead c d e = sym (told c lead) ∙ ap (λ f. class_in (key f)) e ∙ told d lead
