-- `writing::judge::optional_name_at` meets its contract: the tests on the word are those of `optional_name`.
use mathlib.Core.Path.{sym, ◌∙◌}
use borrow.Author.Tests.{eq-eqb, ne_eqb}
use Rattle.writing.specs.Judge.{optional_name}
use Rattle.writing.proofs.judge.optional_name_at.Goals as goal

pub returns-then-present-eq0 : goal.returns-then-present-eq0
unfolding optional_name
returns-then-present-eq0 c =
    c.first_flaw.ensures ∙ simp (
      sym c.word_at-present.ensures,
      eq-eqb _ _ c.if-present-eq0.true,
      c.unused_at.ensures,
      c.unused_at-then-present-eq0.ensures,
    )

pub returns-then-present-eq1 : goal.returns-then-present-eq1
unfolding optional_name
returns-then-present-eq1 c =
    c.named_at.ensures ∙ simp (
      sym c.word_at-present.ensures,
      ne_eqb _ _ c.if-present-eq0.false,
      eq-eqb _ _ c.if-present-eq1.true,
    )

pub returns : goal.returns
unfolding optional_name
returns c = simp (sym c.word_at-present.ensures, ne_eqb _ _ c.if-present-eq0.false, ne_eqb _ _ c.if-present-eq1.false)
