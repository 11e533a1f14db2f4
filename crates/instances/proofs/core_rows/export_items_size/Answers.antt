-- `core_rows::export_items_size` meets its contract: the head and the items that are seen make the row (`export_items_known`).
use native.Mathlib.Omega.{arith}
use Rattle.fields.specs.declared.Field.TheVariants as field
use Rattle.instances.proofs.InstanceLaws.{core_item-wide, core_item_element}
use Rattle.instances.proofs.LaidLaws.{export_items_known}
use Rattle.instances.proofs.core_rows.export_items_size.Goals as goal

pub bounds-row-1 : goal.bounds-row-1
bounds-row-1 c =
    omega (arith, (rw c.in_ok-base.was at c.export_items_head_size.ensures.headed).width)

pub overflow_cast-row : goal.overflow_cast-row
overflow_cast-row c =
    omega (arith, c.type_inv.row 1)

pub items_size-requires-clause-pool_len_bound : goal.items_size-requires-clause-pool_len_bound
items_size-requires-clause-pool_len_bound c = c.requires

pub items_size-requires-clause-n_in_bounds : goal.items_size-requires-clause-n_in_bounds
items_size-requires-clause-n_in_bounds c = (omega (arith, (rw c.in_ok-base.was at c.export_items_head_size.ensures.headed).width), rw c.in_ok-base.was at c.export_items_head_size.ensures.upper_bound)

pub returns : goal.returns
returns c =
    let args = c.args in
    let head = rw c.in_ok-base.was at c.export_items_head_size.ensures.headed in
    let pool = args.pool.now in
    export_items_known field.Name field.CoreSortIndex core_item-wide args.row.now pool (core_item_element pool) c.requires.0 c.requires.1 head _ c.items_size.ensures
