-- `cabi::row_by_section` meets its contract: a state takes `Section::row` (`step-taken`), and other numbers are refused (`step-refused`).
use Rattle.cabi.proofs.CallLaws.{step-taken, step-refused}
use Rattle.cabi.proofs.row_by_section.Goals as goal

pub returns-in-Some : goal.returns-in-Some
returns-in-Some c =
    step-taken _ _ _ c.take_state.ensures c.in-Some.is c.row.ensures c.settle.ensures

pub returns-in-None : goal.returns-in-None
returns-in-None c =
    step-refused _ c.take_state.ensures c.in-None.is c.refuse.ensures
