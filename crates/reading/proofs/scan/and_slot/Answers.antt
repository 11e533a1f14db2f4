-- `reading::scan::and_slot` meets its contract: the arms are those of `onward`.
use native.Mathlib.Omega.{arith}
use mathlib.Core.Path.{◌∙◌}
use Rattle.std.proofs.Common.{rules}
use Rattle.reading.proofs.scan.and_slot.Goals as goal

pub slot_scan-requires : goal.slot_scan-requires
slot_scan-requires c =
    let end = rw c.in_ok-at.was at c.requires.1 in (c.requires.0, omega arith)

pub returns : goal.returns
returns c = c.slot_scan.ensures ∙ simp c.in_ok-at.was

pub returns-in_err-at : goal.returns-in_err-at
returns-in_err-at c = search rules
