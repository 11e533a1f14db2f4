-- `cabi::tb_open` meets its contract: a state takes `Section::open` (`step-taken`), and other numbers are refused (`step-refused`).
use Rattle.cabi.proofs.CallLaws.{step-taken, step-refused}
use Rattle.cabi.proofs.tb_open.Goals as goal

pub returns-in-Some : goal.returns-in-Some
returns-in-Some c =
    step-taken _ _ _ c.take_state.ensures c.in-Some.is c.open.ensures c.settle.ensures

pub returns-in-None : goal.returns-in-None
returns-in-None c =
    step-refused _ c.take_state.ensures c.in-None.is c.refuse.ensures
