-- `imports::shape_of` meets its contract: its arm is the line of the table.
use mathlib.Core.Path.{ap, ◌∙◌}
use Rattle.std.specs.Prelude.{Some}
use borrow.Author.Tests.{ne_eqb}
use Rattle.fields.specs.Table.{shape_in}
use Rattle.imports.proofs.shape_of.Goals as goal

pub returns-in-17 : goal.returns-in-17
unfolding shape_in
returns-in-17 c = ap Some c.two_of.ensures ∙ rw c.in-17.is

pub returns-in_default : goal.returns-in_default
unfolding shape_in
returns-in_default c = simp (ne_eqb _ _ c.in_default.in_default-own.rest.1)
