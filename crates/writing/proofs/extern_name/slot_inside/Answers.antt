-- `slot_inside` makes the tests of `slot_inside`.
use mathlib.Core.Path.{sym, ◌∙◌}
use borrow.Author.Tests.{eq-eqb, ne_eqb}
use Rattle.writing.specs.Binary.{slot_inside}
use Rattle.writing.proofs.extern_name.slot_inside.Goals as goal

pub returns-then-word_at-eq0 : goal.returns-then-word_at-eq0
unfolding slot_inside
returns-then-word_at-eq0 c = simp (eq-eqb _ _ (sym c.word_at.ensures ∙ c.if-word_at-eq0.true))

pub returns : goal.returns
unfolding slot_inside
returns c =
    simp (ne_eqb _ _ (λ z. c.if-word_at-eq0.false (c.word_at.ensures ∙ z)), c.word_at-start.ensures, c.word_at-size.ensures)
