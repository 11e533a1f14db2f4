-- A row of any family is measured as a row of a kind that is found or not, or is LIMIT.
use Rattle.std.specs.Prelude.{Option}
use Prim.Native.Nat.{ℕ}
use mathlib.Core.Bool.{Bool, true, false, cond}
use mathlib.Core.List.{List}
use Rattle.fields.specs.Answer.{Answer, Refused}
use Rattle.fields.specs.declared.Refusal.TheVariants as refusal
use Rattle.fields.specs.declared.Shape.{Shape}
use Rattle.writing.specs.Row.{measured_row}
use Rattle.types.specs.Write.{measured_type}
use Rattle.imports.specs.Write.{measured_import}
use Rattle.canonicals.specs.Write.{measured_canonical}
use Rattle.instances.specs.Write.{measured_core_instance, measured_instance}
use Rattle.sections.specs.Section.{Entries, Types, Canonicals, Imports, CoreInstances, Instances, None, entries_of, measured_by, measured_family}

-- what holds both ways holds of a test
pub on_test : {X : Type 0} (Q : X → Type 0) (b : Bool) {x y : X} → Q x → Q y → Q (cond b x y)
on_test Q true h k = h
on_test Q false h k = k

-- what holds of every row by what is found, and of LIMIT, holds of a row of any family
pub on_family : (Q : Answer → Type 0) (family : ℕ) (row pool : List ℕ) → ((found : Option Shape) → Q (measured_row found row pool)) → Q (Refused refusal.Limit 0)
    → Q (measured_family family row pool)
unfolding measured_family measured_type measured_import measured_canonical measured_core_instance measured_instance
on_family Q family row pool h limit = go (entries_of family)
  where
    go : (x : Entries) → Q (measured_by x row pool)
    go Types = h _
    go Canonicals = h _
    go Imports = h _
    go CoreInstances = h _
    go Instances = h _
    go None = limit
