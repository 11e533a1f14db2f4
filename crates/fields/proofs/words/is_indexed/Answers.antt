-- `fields::words::is_indexed` meets its contract: the tests on the option are those of `indexed`, in order.
use borrow.Author.Tests.{eq-eqb, ne_eqb}
use Rattle.fields.specs.Words.{indexed}
use Rattle.fields.proofs.words.is_indexed.Goals as goal

pub returns-then-k-eq3 : goal.returns-then-k-eq3
unfolding indexed
returns-then-k-eq3 c = simp (eq-eqb _ _ c.if-k-eq3.true)

pub returns-then-k-eq4 : goal.returns-then-k-eq4
unfolding indexed
returns-then-k-eq4 c = simp (ne_eqb _ _ c.if-k-eq3.false, eq-eqb _ _ c.if-k-eq4.true)

pub returns-then-k-eq5 : goal.returns-then-k-eq5
unfolding indexed
returns-then-k-eq5 c = simp (ne_eqb _ _ c.if-k-eq3.false, ne_eqb _ _ c.if-k-eq4.false, eq-eqb _ _ c.if-k-eq5.true)

pub returns-then-k-eq7 : goal.returns-then-k-eq7
unfolding indexed
returns-then-k-eq7 c =
    simp (
      ne_eqb _ _ c.if-k-eq3.false,
      ne_eqb _ _ c.if-k-eq4.false,
      ne_eqb _ _ c.if-k-eq5.false,
      eq-eqb _ _ c.if-k-eq7.true,
    )

pub returns : goal.returns
unfolding indexed
returns c =
    rw (
      ne_eqb _ _ c.if-k-eq3.false,
      ne_eqb _ _ c.if-k-eq4.false,
      ne_eqb _ _ c.if-k-eq5.false,
      ne_eqb _ _ c.if-k-eq7.false,
    )
