-- `writing::judge::optional_index_of` meets its contract: the tests on the word are those of `optional_index`.
use mathlib.Core.Path.{sym, ◌∙◌}
use borrow.Author.Tests.{eq-eqb, ne_eqb}
use Rattle.writing.specs.Judge.{optional_index}
use Rattle.writing.proofs.judge.optional_index_of.Goals as goal

pub returns-then-present-eq0 : goal.returns-then-present-eq0
unfolding optional_index
returns-then-present-eq0 c = c.unused_at.ensures ∙ simp (sym c.word_at-present.ensures, eq-eqb _ _ c.if-present-eq0.true)

pub returns-then-present-eq1 : goal.returns-then-present-eq1
unfolding optional_index
returns-then-present-eq1 c = simp (sym c.word_at-present.ensures, ne_eqb _ _ c.if-present-eq0.false, eq-eqb _ _ c.if-present-eq1.true)

pub returns : goal.returns
unfolding optional_index
returns c = simp (sym c.word_at-present.ensures, ne_eqb _ _ c.if-present-eq0.false, ne_eqb _ _ c.if-present-eq1.false)
