-- `reading::scan::scan_value_reference` meets its contract: the arms are those of `three`.
use mathlib.Core.Path.{sym}
use Rattle.std.proofs.Common.{rules}
use Rattle.reading.proofs.scan.scan_value_reference.Goals as goal

pub returns : goal.returns
returns c = simp (sym c.value_behind.ensures, c.in_ok-value.was)

pub returns-in_err-value : goal.returns-in_err-value
returns-in_err-value c = search rules
