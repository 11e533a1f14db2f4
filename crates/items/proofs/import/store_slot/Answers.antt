-- `store_slot` meets its contract: three stores, one place apart.
use Prim.Native.Nat.{suc, ◌+◌}
use native.Mathlib.Omega.{arith}
use native.Mathlib.Numerals.{add-one}
use mathlib.Core.Path.{◌≡◌}
use lib.ListN.{length-set}
use Rattle.items.proofs.import.store_slot.Goals as goal

pub bounds-row-to-2 : goal.bounds-row-to-2
bounds-row-to-2 c = simp length-set (omega arith)

pub bounds-row-to-3 : goal.bounds-row-to-3
bounds-row-to-3 c = simp length-set (omega arith)

pub returns : goal.returns
returns c =
    let e : c.args.to + 2 ≡ suc (suc c.args.to) = omega arith in
    rw (add-one, e)
