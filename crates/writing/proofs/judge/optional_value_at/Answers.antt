-- `writing::judge::optional_value_at` meets its contract: the tag 2 wants the other word unused, and any other is the tag of a value.
use mathlib.Core.Path.{sym, ◌∙◌}
use borrow.Author.Tests.{eq-eqb, ne_eqb}
use Rattle.writing.specs.Judge.{optional_value}
use Rattle.writing.proofs.judge.optional_value_at.Goals as goal

pub returns-then-word_at-eq2 : goal.returns-then-word_at-eq2
unfolding optional_value
returns-then-word_at-eq2 c = c.unused_at.ensures ∙ simp (sym c.word_at.ensures, eq-eqb _ _ c.if-word_at-eq2.true)

pub returns : goal.returns
unfolding optional_value
returns c = c.value_at.ensures ∙ simp (sym c.word_at.ensures, ne_eqb _ _ c.if-word_at-eq2.false)
