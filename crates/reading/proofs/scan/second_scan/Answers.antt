-- `reading::scan::second_scan` meets its contract: the first option ends inside the input (`first-near`), and the second follows it.
use Prim.Native.Nat.{◌^◌}
use mathlib.Core.Path.{◌∙◌}
use Rattle.reading.specs.Scan.{second_scan}
use Rattle.reading.proofs.ScanLaws.{inside, first-near}
use Rattle.reading.proofs.scan.second_scan.Goals as goal

pub and_slot-requires : goal.and_slot-requires
and_slot-requires c =
    let a = c.args in
    (c.requires, rw c.first_scan.ensures (inside (2 ^ 30) (first-near a.grade a.bs.now) c.requires))

pub returns : goal.returns
unfolding second_scan
returns c = c.and_slot.ensures ∙ simp c.first_scan.ensures
