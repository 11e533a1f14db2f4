-- `cabi::tb_read_import` meets its contract: what `imports::read` leaves, with its answer as a reply; an item has few words.
use mathlib.Core.Path.{sym, subst}
use Rattle.reading.specs.inside.Few.{Few}
use Rattle.items.proofs.ReadLaws.{import-few}
use Rattle.cabi.proofs.tb_read_import.Goals as goal

pub reply_to_read-requires : goal.reply_to_read-requires
reply_to_read-requires c = subst (λ l. Few l.answer) (sym c.read_import.ensures) (import-few _ _ _)

pub returns : goal.returns
returns c = simp (← c.read_import.ensures, c.reply_to_read.ensures)
