-- `reading::scan::string_at` meets its contract: the arms are those of `onward`, over a name that lies inside the input (`name-near`).
use Prim.Native.Nat.{◌^◌}
use native.Mathlib.Omega.{arith}
use mathlib.Core.Path.{sym}
use Rattle.reading.proofs.ScanLaws.{behind, name-near}
use Rattle.std.proofs.Common.{rules}
use Rattle.reading.proofs.scan.string_at.Goals as goal

pub past_by-requires-clause-inside : goal.past_by-requires-clause-inside
past_by-requires-clause-inside c =
    let a = c.args in
    rw (c.scan_name.ensures, c.rest_at.ensures) (behind (2 ^ 31) a.bs.now a.at (omega arith) (name-near _))

pub returns : goal.returns
returns c =
    simp (
      sym c.rest_at.ensures,
      sym c.scan_name.ensures,
      sym c.past_by.ensures,
      c.in_ok-name.was,
    )

pub returns-in_err-name : goal.returns-in_err-name
returns-in_err-name c = search rules
