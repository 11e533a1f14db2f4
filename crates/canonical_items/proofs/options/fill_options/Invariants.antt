-- `fill_options` meets its contract: what is due of the options, stored here, leaves what the whole leaves (`Filling`).
use Rattle.std.specs.Prelude.{◌-◌, [], ◌∷◌}
use Rattle.fields.specs.declared.Field.TheVariants as field
use Rattle.reading.proofs.FillLaws.{Filling}
use Rattle.canonical_items.proofs.options.fill_options.Given as goal

abbrev pub invariant-loop : goal.invariant-loop
invariant-loop l =
    Filling l.grade l.input (field.Choice ∷ field.Nothing ∷ []) l.n l.from l.initial.row l.base (l.n - l.counter) l.at l.to l.row
