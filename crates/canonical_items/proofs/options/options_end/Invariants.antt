-- `options_end` meets its contract: the options that are due end where all of them do (`Going`).
use Rattle.std.specs.Prelude.{◌-◌, [], ◌∷◌}
use Rattle.fields.specs.declared.Field.TheVariants as field
use Rattle.reading.proofs.StepLaws.{Going}
use Rattle.canonical_items.proofs.options.options_end.Given as goal

abbrev pub invariant-loop : goal.invariant-loop
invariant-loop l = Going l.grade l.input (field.Choice ∷ field.Nothing ∷ []) l.n l.from (l.n - l.counter) l.at
