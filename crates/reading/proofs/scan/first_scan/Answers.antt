-- `reading::scan::first_scan` meets its contract: the head ends inside the input (`head_near`), and the first option follows it.
use Prim.Native.Nat.{◌^◌}
use mathlib.Core.Path.{◌∙◌}
use Rattle.reading.specs.Scan.{first_scan}
use Rattle.reading.proofs.ScanLaws.{inside, head_near}
use Rattle.reading.proofs.scan.first_scan.Goals as goal

pub and_slot-requires : goal.and_slot-requires
and_slot-requires c =
    let a = c.args in
    (c.requires, rw c.head_scan.ensures (inside (2 ^ 30) (head_near a.grade a.bs.now) c.requires))

pub returns : goal.returns
unfolding first_scan
returns c = c.and_slot.ensures ∙ simp c.head_scan.ensures
