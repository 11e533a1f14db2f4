-- `sections::write_by` meets its contract: its arms are those of `write_family`, and each writer, lent row and pool from their start
-- on, leaves what its own contract says.
use borrow.Author.Tests.{ne_eqb}
use Rattle.numbers.proofs.BytesLaws.{to_end}
use Rattle.sections.specs.Section.{write_family}
use Rattle.sections.proofs.write_by.Goals as goal

pub returns-in-7 : goal.returns-in-7
unfolding write_family
returns-in-7 c =
    rw c.in-7.is (rw (to_end _ 0, to_end _ 0) at c.write.ensures)

pub returns-in-8 : goal.returns-in-8
unfolding write_family
returns-in-8 c =
    rw c.in-8.is (rw (to_end _ 0, to_end _ 0) at c.write-in-8.ensures)

pub returns-in-10 : goal.returns-in-10
unfolding write_family
returns-in-10 c =
    rw c.in-10.is (rw (to_end _ 0, to_end _ 0) at c.write-in-10.ensures)

pub returns-in-2 : goal.returns-in-2
unfolding write_family
returns-in-2 c =
    rw c.in-2.is (rw (to_end _ 0, to_end _ 0) at c.write_core.ensures)

pub returns-in-5 : goal.returns-in-5
unfolding write_family
returns-in-5 c =
    rw c.in-5.is (rw (to_end _ 0, to_end _ 0) at c.write-in-5.ensures)

pub returns-in_default : goal.returns-in_default
unfolding write_family
returns-in_default c =
    simp (
      ne_eqb _ _ c.in_default.in_default-own.rest.1,
      ne_eqb _ _ c.in_default.in_default-own.rest.0.1,
      ne_eqb _ _ c.in_default.in_default-own.rest.0.0.1,
      ne_eqb _ _ c.in_default.in_default-own.rest.0.0.0.1,
      ne_eqb _ _ c.in_default.in_default-own.rest.0.0.0.0.1,
    )
