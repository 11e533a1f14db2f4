-- `shape_of` meets its contract: each arm is a line of the table.
use mathlib.Core.Path.{ap, ◌∙◌}
use Rattle.std.specs.Prelude.{Some}
use borrow.Author.Tests.{ne_eqb}
use Rattle.fields.specs.Table.{shape_in}
use Rattle.instances.proofs.shape_of.Goals as goal

pub returns-in-19 : goal.returns-in-19
unfolding shape_in
returns-in-19 c =
    ap Some c.instantiate.ensures ∙ rw c.in-19.is

pub returns-in-21 : goal.returns-in-21
unfolding shape_in
returns-in-21 c =
    ap Some c.export_items.ensures ∙ rw c.in-21.is

pub returns-in_default : goal.returns-in_default
unfolding shape_in
returns-in_default c =
    simp (ne_eqb _ _ c.in_default.in_default-own.rest.0.1, ne_eqb _ _ c.in_default.in_default-own.rest.1)
