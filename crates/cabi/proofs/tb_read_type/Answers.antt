-- `cabi::tb_read_type` meets its contract: what `types::read` leaves, with its answer as a reply; an item has few words.
use mathlib.Core.Path.{sym, subst}
use Rattle.reading.specs.inside.Few.{Few}
use Rattle.items.proofs.ReadLaws.{type-few}
use Rattle.cabi.proofs.tb_read_type.Goals as goal

pub reply_to_read-requires : goal.reply_to_read-requires
reply_to_read-requires c = subst (λ l. Few l.answer) (sym c.read_type.ensures) (type-few _ _ _)

pub returns : goal.returns
returns c = simp (← c.read_type.ensures, c.reply_to_read.ensures)
