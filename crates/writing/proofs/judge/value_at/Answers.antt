-- `writing::judge::value_at` meets its contract: the tests on the tag are those of `value`, and `below_at` judges what follows the tag 0.
use mathlib.Core.Path.{sym, ◌∙◌}
use borrow.Author.Tests.{eq-eqb, ne_eqb}
use Rattle.writing.specs.Judge.{value}
use Rattle.writing.proofs.judge.value_at.Goals as goal

pub returns-then-tag-eq0 : goal.returns-then-tag-eq0
unfolding value
returns-then-tag-eq0 c = c.below_at.ensures ∙ simp (sym c.word_at-tag.ensures, eq-eqb _ _ c.if-tag-eq0.true)

pub returns-then-tag-eq1 : goal.returns-then-tag-eq1
unfolding value
returns-then-tag-eq1 c = simp (sym c.word_at-tag.ensures, ne_eqb _ _ c.if-tag-eq0.false, eq-eqb _ _ c.if-tag-eq1.true)

pub returns : goal.returns
unfolding value
returns c = simp (sym c.word_at-tag.ensures, ne_eqb _ _ c.if-tag-eq0.false, ne_eqb _ _ c.if-tag-eq1.false)
