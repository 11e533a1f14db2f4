-- `cabi::tb_sheet` meets its contract: what `sheets::sheet` leaves, with its answer as a reply.
use Rattle.cabi.proofs.tb_sheet.Goals as goal

pub returns : goal.returns
returns c = simp (← c.sheet.ensures, c.reply_to.ensures)
