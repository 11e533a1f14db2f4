-- `case_took` meets its contract: the tests behind the O that was read are those of the field (`case_fine` and what follows it).
use mathlib.Core.Path.{sym, ◌∙◌}
use Rattle.items.proofs.EndLaws.{case_fine, case_other, case_short, case_none}
use Rattle.items.proofs.groups.case_took.Goals as goal

pub returns-in_err-one : goal.returns-in_err-one
returns-in_err-one c = c.from_residual.ensures ∙ case_none _ _ (sym c.in_err-one.was ∙ c.optional.ensures)

pub returns-then-bs-took-eq0 : goal.returns-then-bs-took-eq0
returns-then-bs-took-eq0 c =
    case_fine _ _ (sym c.in_ok-one.was ∙ c.optional.ensures) c.if-took-bs.true c.if-bs-took-eq0.true

pub returns-else-bs-took-eq0 : goal.returns-else-bs-took-eq0
returns-else-bs-took-eq0 c =
    case_other _ _ (sym c.in_ok-one.was ∙ c.optional.ensures) c.if-took-bs.true c.if-bs-took-eq0.false

pub returns-else-took-bs : goal.returns-else-took-bs
returns-else-took-bs c = case_short _ _ (sym c.in_ok-one.was ∙ c.optional.ensures) c.if-took-bs.false
