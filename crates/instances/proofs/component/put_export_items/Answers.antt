-- `component::put_export_items` meets its contract: the head and the items behind it (`export_items_laid`).
use native.Mathlib.Omega.{arith}
use Rattle.fields.specs.declared.Field.TheVariants as field
use Rattle.instances.proofs.InstanceLaws.{item-wide, item_element}
use Rattle.instances.proofs.LaidLaws.{export_items_laid, head_room, elements_room, laid_put, laid_same}
use Rattle.instances.proofs.component.put_export_items.Goals as goal

pub bounds-row-1 : goal.bounds-row-1
bounds-row-1 c =
    let args = c.args in
    omega (arith, (export_items_laid field.ExternName field.SortIndex item-wide args.row.now args.pool.now (item_element _) (c.requires)).width)

pub put_lead-next-requires : goal.put_lead-next-requires
put_lead-next-requires c =
    let args = c.args in
    omega (arith, head_room (export_items_laid field.ExternName field.SortIndex item-wide args.row.now args.pool.now (item_element _) (c.requires)))

pub bounds-row-1-2 : goal.bounds-row-1-2
bounds-row-1-2 c =
    let args = c.args in
    omega (arith, (export_items_laid field.ExternName field.SortIndex item-wide args.row.now args.pool.now (item_element _) (c.requires)).width)

pub overflow_cast-row : goal.overflow_cast-row
overflow_cast-row c =
    omega (arith, c.type_inv.row 1)

pub put_items-requires-clause-n_in_bounds : goal.put_items-requires-clause-n_in_bounds
put_items-requires-clause-n_in_bounds c =
    let args = c.args in
    let laid = export_items_laid field.ExternName field.SortIndex item-wide args.row.now args.pool.now (item_element _) (c.requires) in
    omega (arith, laid.width)

pub put_items-requires-clause-rights : goal.put_items-requires-clause-rights
put_items-requires-clause-rights c =
    let args = c.args in
    let laid = export_items_laid field.ExternName field.SortIndex item-wide args.row.now args.pool.now (item_element _) (c.requires) in
    laid.groups

pub put_items-requires-clause-row_in_bounds : goal.put_items-requires-clause-row_in_bounds
put_items-requires-clause-row_in_bounds c =
    let args = c.args in
    let laid = export_items_laid field.ExternName field.SortIndex item-wide args.row.now args.pool.now (item_element _) (c.requires) in
    elements_room laid c.put_lead-next.ensures

pub shape_of-out : goal.shape_of-out
shape_of-out c =
    let args = c.args in
    let laid = export_items_laid field.ExternName field.SortIndex item-wide args.row.now args.pool.now (item_element _) (c.requires) in
    laid_same laid c.put_lead-next.ensures c.put_items.ensures

pub returns : goal.returns
returns c =
    let args = c.args in
    let laid = export_items_laid field.ExternName field.SortIndex item-wide args.row.now args.pool.now (item_element _) (c.requires) in
    laid_put laid c.put_lead-next.ensures c.put_items.ensures
