-- `writing::judge::reference_of` meets its contract: the tests on the sort and on the bound are those of `reference`.
use mathlib.Core.Path.{sym, ◌∙◌}
use borrow.Author.Tests.{eq-eqb, ne_eqb, lt-ltb, le-ltb}
use Rattle.writing.specs.Judge.{reference}
use Rattle.writing.proofs.judge.reference_of.Goals as goal

pub returns-then-sort-eq2 : goal.returns-then-sort-eq2
unfolding reference
returns-then-sort-eq2 c = c.value_at.ensures ∙ simp (sym c.word_at-sort.ensures, eq-eqb _ _ c.if-sort-eq2.true)

pub returns-then-bound-eq0 : goal.returns-then-bound-eq0
unfolding reference
returns-then-bound-eq0 c =
    simp (
      sym c.word_at-sort.ensures,
      ne_eqb _ _ c.if-sort-eq2.false,
      eq-eqb _ _ c.if-sort-eq3.true,
      sym c.word_at-bound.ensures,
      eq-eqb _ _ c.if-bound-eq0.true,
    )

pub returns-then-bound-eq1 : goal.returns-then-bound-eq1
unfolding reference
returns-then-bound-eq1 c =
    c.unused_at.ensures ∙ rw (
      ← c.word_at-sort.ensures,
      ne_eqb _ _ c.if-sort-eq2.false,
      eq-eqb _ _ c.if-sort-eq3.true,
      ← c.word_at-bound.ensures,
      ne_eqb _ _ c.if-bound-eq0.false,
      eq-eqb _ _ c.if-bound-eq1.true,
    )

pub returns-then-sort-eq3 : goal.returns-then-sort-eq3
unfolding reference
returns-then-sort-eq3 c =
    simp (
      sym c.word_at-sort.ensures,
      ne_eqb _ _ c.if-sort-eq2.false,
      eq-eqb _ _ c.if-sort-eq3.true,
      sym c.word_at-bound.ensures,
      ne_eqb _ _ c.if-bound-eq0.false,
      ne_eqb _ _ c.if-bound-eq1.false,
    )

pub returns-then-sort-lt6 : goal.returns-then-sort-lt6
unfolding reference
returns-then-sort-lt6 c =
    c.unused_at-then-sort-lt6.ensures ∙ simp (
      sym c.word_at-sort.ensures,
      ne_eqb _ _ c.if-sort-eq2.false,
      ne_eqb _ _ c.if-sort-eq3.false,
      lt-ltb _ _ c.if-sort-lt6.true,
    )

pub returns : goal.returns
unfolding reference
returns c =
    simp (
      sym c.word_at-sort.ensures,
      ne_eqb _ _ c.if-sort-eq2.false,
      ne_eqb _ _ c.if-sort-eq3.false,
      le-ltb _ _ c.if-sort-lt6.false,
    )
