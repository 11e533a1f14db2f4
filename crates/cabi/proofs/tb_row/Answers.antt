-- `cabi::tb_row` meets its contract: both ways do, and a state that is ready may go the first.
use Rattle.cabi.proofs.tb_row.Goals as goal

pub row_when_ready-requires : goal.row_when_ready-requires
row_when_ready-requires c = c.is_ready.ensures c.if-is_ready.true
