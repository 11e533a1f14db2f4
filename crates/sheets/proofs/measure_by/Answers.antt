-- `measure_by` meets its contract: its arms are those of `measured_family`.
use borrow.Author.Tests.{ne_eqb}
use Rattle.sections.specs.Section.{measured_family}
use Rattle.sheets.proofs.measure_by.Goals as goal

pub returns-in-7 : goal.returns-in-7
unfolding measured_family
returns-in-7 c = rw c.in-7.is c.measure.ensures

pub returns-in-8 : goal.returns-in-8
unfolding measured_family
returns-in-8 c = rw c.in-8.is c.measure-in-8.ensures

pub returns-in-10 : goal.returns-in-10
unfolding measured_family
returns-in-10 c = rw c.in-10.is c.measure-in-10.ensures

pub returns-in-2 : goal.returns-in-2
unfolding measured_family
returns-in-2 c = rw c.in-2.is c.measure_core.ensures

pub returns-in-5 : goal.returns-in-5
unfolding measured_family
returns-in-5 c = rw c.in-5.is c.measure-in-5.ensures

pub returns-in_default : goal.returns-in_default
unfolding measured_family
returns-in_default c =
    simp (
      ne_eqb _ _ c.in_default.in_default-own.rest.1,
      ne_eqb _ _ c.in_default.in_default-own.rest.0.1,
      ne_eqb _ _ c.in_default.in_default-own.rest.0.0.1,
      ne_eqb _ _ c.in_default.in_default-own.rest.0.0.0.1,
      ne_eqb _ _ c.in_default.in_default-own.rest.0.0.0.0.1,
    )
