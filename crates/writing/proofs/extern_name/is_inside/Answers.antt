-- `is_inside` makes the tests of `extern_inside`.
use mathlib.Core.Path.{sym, ◌∙◌}
use borrow.Author.Tests.{le-leb, lt-leb}
use Rattle.writing.specs.Binary.{extern_inside}
use Rattle.writing.proofs.extern_name.is_inside.Goals as goal

pub returns-then-slot_inside-2 : goal.returns-then-slot_inside-2
unfolding extern_inside
returns-then-slot_inside-2 c =
    simp (
      sym c.word_at-start.ensures,
      sym c.word_at-size.ensures,
      le-leb _ _ c.if-start-size.true,
      sym c.slot_inside.ensures ∙ c.if-slot_inside.true,
      sym c.slot_inside-then-slot_inside.ensures ∙ c.if-slot_inside-2.true,
    ) c.slot_inside-then-slot_inside-2.ensures

pub returns-else-slot_inside-2 : goal.returns-else-slot_inside-2
unfolding extern_inside
returns-else-slot_inside-2 c =
    simp (
      sym c.word_at-start.ensures,
      sym c.word_at-size.ensures,
      le-leb _ _ c.if-start-size.true,
      sym c.slot_inside.ensures ∙ c.if-slot_inside.true,
      sym c.slot_inside-then-slot_inside.ensures ∙ c.if-slot_inside-2.false,
    )

pub returns-else-slot_inside : goal.returns-else-slot_inside
unfolding extern_inside
returns-else-slot_inside c =
    simp (
      sym c.word_at-start.ensures,
      sym c.word_at-size.ensures,
      le-leb _ _ c.if-start-size.true,
      sym c.slot_inside.ensures ∙ c.if-slot_inside.false,
    )

pub returns-else-start-size : goal.returns-else-start-size
unfolding extern_inside
returns-else-start-size c = simp (sym c.word_at-start.ensures, sym c.word_at-size.ensures, lt-leb _ _ c.if-start-size.false)
