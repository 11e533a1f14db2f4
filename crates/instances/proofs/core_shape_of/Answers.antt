-- `core_shape_of` meets its contract: each arm is a line of the table.
use mathlib.Core.Path.{ap, ◌∙◌}
use Rattle.std.specs.Prelude.{Some}
use borrow.Author.Tests.{ne_eqb}
use Rattle.fields.specs.Table.{shape_in}
use Rattle.instances.proofs.core_shape_of.Goals as goal

pub returns-in-18 : goal.returns-in-18
unfolding shape_in
returns-in-18 c =
    ap Some c.instantiate.ensures ∙ rw c.in-18.is

pub returns-in-20 : goal.returns-in-20
unfolding shape_in
returns-in-20 c =
    ap Some c.export_items.ensures ∙ rw c.in-20.is

pub returns-in_default : goal.returns-in_default
unfolding shape_in
returns-in_default c =
    simp (ne_eqb _ _ c.in_default.in_default-own.rest.0.1, ne_eqb _ _ c.in_default.in_default-own.rest.1)
