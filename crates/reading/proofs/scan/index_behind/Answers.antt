-- `reading::scan::index_behind` meets its contract: an index behind k bytes lies inside the input (`index-near`).
use Prim.Native.Nat.{◌^◌}
use native.Mathlib.Omega.{arith}
use mathlib.Core.Path.{◌∙◌}
use Rattle.reading.proofs.ScanLaws.{behind, index-near}
use Rattle.reading.proofs.scan.index_behind.Goals as goal

pub past_by-requires-clause-inside : goal.past_by-requires-clause-inside
past_by-requires-clause-inside c =
    let a = c.args in
    rw (c.scan_index.ensures, c.rest_at.ensures) (behind (2 ^ 31) a.bs.now a.k (omega arith) (index-near a.m _))

pub returns : goal.returns
returns c = c.past_by.ensures ∙ simp (c.scan_index.ensures, c.rest_at.ensures)
