-- `cabi::tb_finish` meets its contract: what the state's own finishing leaves, or LIMIT and nothing changed.
use Rattle.cabi.proofs.CallLaws.{finish_taken, finish_refused}
use Rattle.cabi.proofs.tb_finish.Goals as goal

pub returns-in-Some : goal.returns-in-Some
returns-in-Some c = finish_taken _ _ c.take_state.ensures c.in-Some.is c.finish.ensures c.reply_to.ensures

pub returns-in-None : goal.returns-in-None
returns-in-None c = finish_refused _ c.take_state.ensures c.in-None.is c.refuse.ensures
