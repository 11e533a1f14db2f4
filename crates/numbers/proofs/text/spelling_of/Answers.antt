-- `numbers::text::spelling_of` meets its contract: what `other_text` lets through is right, and `spelled` judges the others.
use Rattle.std.proofs.Common.{sym, ◌∙◌}
use Rattle.numbers.proofs.BytesLaws.{to_end}
use Rattle.numbers.proofs.TextLaws.{spelled_right}
use Rattle.numbers.proofs.text.spelling_of.Goals as goal

pub returns-then-other_text : goal.returns-then-other_text
returns-then-other_text c = sym (spelled_right _ (sym (rw (to_end _ 0) at c.other_text.ensures) ∙ c.if-other_text.true))

pub returns : goal.returns
returns c = rw (to_end _ 0) at c.spelled.ensures
