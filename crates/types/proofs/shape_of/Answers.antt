-- `types::shape_of` meets its contract: each arm is a line of the table. Assumes nothing.
use mathlib.Core.Path.{ap, ◌∙◌}
use Rattle.std.specs.Prelude.{Some}
use borrow.Author.Tests.{ne_eqb}
use Rattle.fields.specs.Table.{shape_in}
use Rattle.types.proofs.shape_of.Goals as goal

pub returns-in-0 : goal.returns-in-0
unfolding shape_in
returns-in-0 c = ap Some c.two_of.ensures ∙ rw c.in-0.is

pub returns-in-1 : goal.returns-in-1
unfolding shape_in
returns-in-1 c = ap Some c.many.ensures ∙ rw c.in-1.is

pub returns-in-2 : goal.returns-in-2
unfolding shape_in
returns-in-2 c = ap Some c.many-in-2.ensures ∙ rw c.in-2.is

pub returns-in-3 : goal.returns-in-3
unfolding shape_in
returns-in-3 c = ap Some c.two.ensures ∙ rw c.in-3.is

pub returns-in-4 : goal.returns-in-4
unfolding shape_in
returns-in-4 c = ap Some c.two-in-4.ensures ∙ rw c.in-4.is

pub returns-in-5 : goal.returns-in-5
unfolding shape_in
returns-in-5 c = ap Some c.two-in-5.ensures ∙ rw c.in-5.is

pub returns-in-6 : goal.returns-in-6
unfolding shape_in
returns-in-6 c = ap Some c.many-in-6.ensures ∙ rw c.in-6.is

pub returns-in-7 : goal.returns-in-7
unfolding shape_in
returns-in-7 c = ap Some c.many-in-7.ensures ∙ rw c.in-7.is

pub returns-in-8 : goal.returns-in-8
unfolding shape_in
returns-in-8 c = ap Some c.many-in-8.ensures ∙ rw c.in-8.is

pub returns-in-9 : goal.returns-in-9
unfolding shape_in
returns-in-9 c = ap Some c.two-in-9.ensures ∙ rw c.in-9.is

pub returns-in-10 : goal.returns-in-10
unfolding shape_in
returns-in-10 c = ap Some c.two-in-10.ensures ∙ rw c.in-10.is

pub returns-in-11 : goal.returns-in-11
unfolding shape_in
returns-in-11 c = ap Some c.two-in-11.ensures ∙ rw c.in-11.is

pub returns-in-12 : goal.returns-in-12
unfolding shape_in
returns-in-12 c = ap Some c.two-in-12.ensures ∙ rw c.in-12.is

pub returns-in-13 : goal.returns-in-13
unfolding shape_in
returns-in-13 c = ap Some c.two-in-13.ensures ∙ rw c.in-13.is

pub returns-in-14 : goal.returns-in-14
unfolding shape_in
returns-in-14 c = ap Some c.two-in-14.ensures ∙ rw c.in-14.is

pub returns-in-15 : goal.returns-in-15
unfolding shape_in
returns-in-15 c = ap Some c.many_of.ensures ∙ rw c.in-15.is

pub returns-in-16 : goal.returns-in-16
unfolding shape_in
returns-in-16 c = ap Some c.two-in-16.ensures ∙ rw c.in-16.is

pub returns-in_default : goal.returns-in_default
unfolding shape_in
returns-in_default c =
    simp (
      ne_eqb _ _ c.in_default.in_default-own.rest.1,
      ne_eqb _ _ c.in_default.in_default-own.rest.0.1,
      ne_eqb _ _ c.in_default.in_default-own.rest.0.0.1,
      ne_eqb _ _ c.in_default.in_default-own.rest.0.0.0.1,
      ne_eqb _ _ c.in_default.in_default-own.rest.0.0.0.0.1,
      ne_eqb _ _ c.in_default.in_default-own.rest.0.0.0.0.0.1,
      ne_eqb _ _ c.in_default.in_default-own.rest.0.0.0.0.0.0.1,
      ne_eqb _ _ c.in_default.in_default-own.rest.0.0.0.0.0.0.0.1,
      ne_eqb _ _ c.in_default.in_default-own.rest.0.0.0.0.0.0.0.0.1,
      ne_eqb _ _ c.in_default.in_default-own.rest.0.0.0.0.0.0.0.0.0.1,
      ne_eqb _ _ c.in_default.in_default-own.rest.0.0.0.0.0.0.0.0.0.0.1,
      ne_eqb _ _ c.in_default.in_default-own.rest.0.0.0.0.0.0.0.0.0.0.0.1,
      ne_eqb _ _ c.in_default.in_default-own.rest.0.0.0.0.0.0.0.0.0.0.0.0.1,
      ne_eqb _ _ c.in_default.in_default-own.rest.0.0.0.0.0.0.0.0.0.0.0.0.0.1,
      ne_eqb _ _ c.in_default.in_default-own.rest.0.0.0.0.0.0.0.0.0.0.0.0.0.0.1,
      ne_eqb _ _ c.in_default.in_default-own.rest.0.0.0.0.0.0.0.0.0.0.0.0.0.0.0.1,
      ne_eqb _ _ c.in_default.in_default-own.rest.0.0.0.0.0.0.0.0.0.0.0.0.0.0.0.0.1,
    )
