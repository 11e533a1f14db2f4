-- `numbers::text::is_text` meets its contract: bytes below 128 are text (`ascii_text`), and `other_text` judges the others.
use Rattle.std.proofs.Common.{sym}
use Rattle.numbers.proofs.BytesLaws.{to_end}
use Rattle.numbers.proofs.TextLaws.{ascii_text}
use Rattle.numbers.proofs.text.is_text.Goals as goal

pub returns-then-ascii : goal.returns-then-ascii
returns-then-ascii c = sym (ascii_text _ (rw (to_end _ 0) at (c.ascii.ensures c.if-ascii.true)))

pub returns : goal.returns
returns c = rw (to_end _ 0) at c.other_text.ensures
