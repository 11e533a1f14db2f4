-- `reading::scan::scan_index` meets its contract: the arms are those of `numbered`.
use mathlib.Core.Path.{sym, ◌∙◌}
use Rattle.reading.specs.Scan.{scan_index}
use Rattle.reading.proofs.scan.scan_index.Goals as goal

pub returns-in-Ok : goal.returns-in-Ok
unfolding scan_index
returns-in-Ok c = simp (sym c.take_unsigned.ensures, c.in-Ok.is)

pub returns-in-Err-Cut : goal.returns-in-Err-Cut
unfolding scan_index
returns-in-Err-Cut c = c.cut_short.ensures ∙ simp (sym c.take_unsigned.ensures, c.in-Err-Cut.is, c.in-Err-Cut.field-0-is)

pub returns-in-Err-Bad : goal.returns-in-Err-Bad
unfolding scan_index
returns-in-Err-Bad c = simp (sym c.take_unsigned.ensures, c.in-Err-Bad.is, c.in-Err-Bad.field-0-is)
