-- `reading::scan::value_behind` meets its contract: a value behind the first byte lies inside the input (`value-near`).
use Prim.Native.Nat.{◌^◌}
use native.Mathlib.Omega.{arith}
use mathlib.Core.Path.{◌∙◌}
use Rattle.reading.proofs.ScanLaws.{behind, value-near}
use Rattle.reading.proofs.scan.value_behind.Goals as goal

pub past_by-requires-clause-inside : goal.past_by-requires-clause-inside
past_by-requires-clause-inside c =
    let a = c.args in
    rw (c.scan_value.ensures, c.rest_at.ensures) (behind (2 ^ 31) a.bs.now 1 (omega arith) (value-near a.grade _))

pub returns : goal.returns
returns c = c.past_by.ensures ∙ simp (c.scan_value.ensures, c.rest_at.ensures)
