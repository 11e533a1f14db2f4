-- `value` meets its contract: a number that is seen is the index (`seen-index`), and else the V is a primitive (`seen_other`).
-- Assumes nothing.
use mathlib.Core.Path.{sym, ap, ◌∙◌}
use Rattle.reading.proofs.ValueLaws.{seen-index, seen_other, no_index}
use Rattle.reading.proofs.value.Goals as goal

pub returns-in-Some : goal.returns-in-Some
returns-in-Some c = seen-index _ _ _ (sym c.in-Some.is ∙ c.seen_signed.ensures)

pub returns-in_err-p : goal.returns-in_err-p
returns-in_err-p c =
    c.from_residual.ensures ∙ ap no_index (sym c.in_err-p.was ∙ c.primitive.ensures)
    ∙ seen_other _ _ (sym c.in_default.is ∙ c.seen_signed.ensures)

pub returns : goal.returns
returns c =
    ap no_index (sym c.in_ok-p.was ∙ c.primitive.ensures) ∙ seen_other _ _ (sym c.in_default.is ∙ c.seen_signed.ensures)
