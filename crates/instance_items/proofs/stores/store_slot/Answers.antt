-- `store_slot` meets its contract: three stores, one place apart.
use Prim.Native.Nat.{ℕ, ◌+◌}
use mathlib.Core.Path.{ap, ◌∙◌}
use lib.ListN.{set}
use Rattle.instance_items.proofs.ExternLaws.{set-three}
use Rattle.instance_items.proofs.stores.store_slot.Goals as goal

pub returns : goal.returns
returns c =
    let a = c.args in
    ap (λ (m : ℕ). set (set (set a.row.now a.to a.s.present) (a.to + 1) m) (a.to + 2) a.s.size) c.moved.ensures
    ∙ set-three a.row.now a.to _ _ _
