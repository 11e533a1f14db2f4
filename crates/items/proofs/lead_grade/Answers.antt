-- `items::lead_grade` meets its contract: a kind's grade is that of the byte with which its shape begins, and of any other kind 1.
use mathlib.Core.Path.{sym}
use Rattle.items.specs.ReadType.{lead_grade}
use Rattle.fields.specs.Table.{shape_in}
use Rattle.items.proofs.GradeLaws.{grade_else}
use Rattle.items.proofs.lead_grade.Goals as goal

pub returns-in-4 : goal.returns-in-4
unfolding lead_grade shape_in
returns-in-4 c = rw c.in-4.is c.grade_of.ensures

pub returns-in-5 : goal.returns-in-5
unfolding lead_grade shape_in
returns-in-5 c = rw c.in-5.is c.grade_of-in-5.ensures

pub returns-in-13 : goal.returns-in-13
unfolding lead_grade shape_in
returns-in-13 c = rw c.in-13.is c.grade_of-in-13.ensures

pub returns-in-14 : goal.returns-in-14
unfolding lead_grade shape_in
returns-in-14 c = rw c.in-14.is c.grade_of-in-14.ensures

pub returns-in_default : goal.returns-in_default
returns-in_default c =
    sym (grade_else _ c.in_default.in_default-own.rest.0.0.0.1 c.in_default.in_default-own.rest.0.0.1 c.in_default.in_default-own.rest.0.1 c.in_default.in_default-own.rest.1)
