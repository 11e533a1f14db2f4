-- `reading::scan::scan_case` meets its contract: the arms are those of `then_zero`, behind what lies inside the input (`optional-near`).
use Prim.Native.Nat.{◌^◌}
use native.Mathlib.Omega.{arith}
use mathlib.Core.Path.{sym, ◌∙◌}
use Rattle.reading.proofs.ScanLaws.{inside, optional-near}
use Rattle.std.proofs.Common.{rules}
use Rattle.reading.proofs.scan.scan_case.Goals as goal

pub overflow_add-next : goal.overflow_add-next
overflow_add-next c =
    let a = c.args in
    let found = sym c.scan_optional.ensures ∙ c.in_ok-took.was in
    let end = rw found at (inside (2 ^ 30) (optional-near a.grade a.bs.now) c.requires) in
    omega arith

pub returns : goal.returns
returns c = c.zero_at.ensures ∙ simp (sym c.scan_optional.ensures, c.in_ok-took.was)

pub returns-in_err-took : goal.returns-in_err-took
returns-in_err-took c = search rules
