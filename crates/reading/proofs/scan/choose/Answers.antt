-- `reading::scan::choose` meets its contract: the test on the option is that of `indexed`.
use mathlib.Core.Path.{sym, ◌∙◌}
use Rattle.reading.proofs.scan.choose.Goals as goal

pub returns-then-is_indexed : goal.returns-then-is_indexed
returns-then-is_indexed c = c.index_behind.ensures ∙ simp (sym c.is_indexed.ensures, c.if-is_indexed.true)

pub returns : goal.returns
returns c = simp (sym c.is_indexed.ensures, c.if-is_indexed.false)
