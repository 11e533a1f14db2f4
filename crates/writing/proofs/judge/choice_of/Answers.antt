-- `writing::judge::choice_of` meets its contract: the tests on the option are those of `choice`.
use mathlib.Core.Path.{sym, ◌∙◌}
use borrow.Author.Tests.{lt-ltb, le-ltb}
use Rattle.writing.specs.Judge.{choice}
use Rattle.writing.proofs.judge.choice_of.Goals as goal

pub returns-then-is_indexed : goal.returns-then-is_indexed
unfolding choice
returns-then-is_indexed c =
    simp (
      sym c.word_at-k.ensures,
      lt-ltb _ _ c.if-k-lt10.true,
      sym c.is_indexed.ensures,
      c.if-is_indexed.true,
    )

pub returns-then-k-lt10 : goal.returns-then-k-lt10
unfolding choice
returns-then-k-lt10 c =
    c.unused_at.ensures ∙ simp (
      sym c.word_at-k.ensures,
      lt-ltb _ _ c.if-k-lt10.true,
      sym c.is_indexed.ensures,
      c.if-is_indexed.false,
    )

pub returns : goal.returns
unfolding choice
returns c = simp (sym c.word_at-k.ensures, le-ltb _ _ c.if-k-lt10.false)
