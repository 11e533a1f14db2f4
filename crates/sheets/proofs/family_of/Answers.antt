-- `sheets::family_of` meets its contract: its test and its arms are those of `family_of`.
use borrow.Author.Tests.{ne_eqb, le-leb, lt-leb}
use Rattle.sheets.specs.Sheet.{family_of}
use Rattle.sheets.proofs.family_of.Goals as goal

pub returns-then-kind-ge256 : goal.returns-then-kind-ge256
unfolding family_of
returns-then-kind-ge256 c = simp (le-leb _ _ c.if-kind-ge256.true)

pub returns-in-17 : goal.returns-in-17
unfolding family_of
returns-in-17 c = rw c.in-17.is

pub returns-in-18 : goal.returns-in-18
unfolding family_of
returns-in-18 c = rw c.in-18.is

pub returns-in-19 : goal.returns-in-19
unfolding family_of
returns-in-19 c = rw c.in-19.is

pub returns-in-20 : goal.returns-in-20
unfolding family_of
returns-in-20 c = rw c.in-20.is

pub returns-in-21 : goal.returns-in-21
unfolding family_of
returns-in-21 c = rw c.in-21.is

pub returns-in_default : goal.returns-in_default
unfolding family_of
returns-in_default c =
    simp (
      lt-leb _ _ c.if-kind-ge256.false,
      ne_eqb _ _ c.in_default.in_default-own.rest.1,
      ne_eqb _ _ c.in_default.in_default-own.rest.0.1,
      ne_eqb _ _ c.in_default.in_default-own.rest.0.0.1,
      ne_eqb _ _ c.in_default.in_default-own.rest.0.0.0.1,
      ne_eqb _ _ c.in_default.in_default-own.rest.0.0.0.0.1,
    )
