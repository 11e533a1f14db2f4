-- `reading::scan::scan_extern` meets its contract: the second option ends inside the input (`second-near`), and the third option
-- and the end follow it.
use Prim.Native.Nat.{◌^◌}
use mathlib.Core.Path.{sym, ◌∙◌}
use Rattle.reading.specs.Scan.{scan_extern}
use Rattle.reading.proofs.ScanLaws.{inside, second-near}
use Rattle.std.proofs.Common.{rules}
use Rattle.reading.proofs.scan.scan_extern.Goals as goal

pub and_slot-requires : goal.and_slot-requires
and_slot-requires c =
    let a = c.args in
    (c.requires, rw c.second_scan.ensures (inside (2 ^ 30) (second-near a.grade a.bs.now) c.requires))

pub returns : goal.returns
unfolding scan_extern
returns c =
    c.end_scan.ensures ∙ simp (
      sym c.second_scan.ensures,
      sym c.and_slot.ensures,
      c.in_ok-at.was,
    )

pub returns-in_err-at : goal.returns-in_err-at
unfolding scan_extern
returns-in_err-at c = search rules
