-- `core_rows::put_instantiate` meets its contract: the head and the arguments behind it (`instantiate_laid`).
use native.Mathlib.Omega.{arith}
use Rattle.fields.specs.declared.Field.TheVariants as field
use Rattle.instances.proofs.InstanceLaws.{core_argument-wide, core_argument_element}
use Rattle.instances.proofs.LaidLaws.{instantiate_laid, head_room, elements_room, laid_put, laid_same}
use Rattle.instances.proofs.core_rows.put_instantiate.Goals as goal

pub put_instantiate_head-next-requires : goal.put_instantiate_head-next-requires
put_instantiate_head-next-requires c =
    let args = c.args in
    let laid = instantiate_laid field.Argument core_argument-wide args.row.now args.pool.now (core_argument_element _) (c.requires) in
    record { in_bounds = omega (arith, laid.width); row_in_bounds = head_room laid }

pub bounds-row-2 : goal.bounds-row-2
bounds-row-2 c =
    let args = c.args in
    omega (arith, (instantiate_laid field.Argument core_argument-wide args.row.now args.pool.now (core_argument_element _) (c.requires)).width)

pub overflow_cast-row : goal.overflow_cast-row
overflow_cast-row c =
    omega (arith, c.type_inv.row 2)

pub put_arguments-requires-clause-n_in_bounds : goal.put_arguments-requires-clause-n_in_bounds
put_arguments-requires-clause-n_in_bounds c =
    let args = c.args in
    let laid = instantiate_laid field.Argument core_argument-wide args.row.now args.pool.now (core_argument_element _) (c.requires) in
    omega (arith, laid.width)

pub put_arguments-requires-clause-rights : goal.put_arguments-requires-clause-rights
put_arguments-requires-clause-rights c =
    let args = c.args in
    let laid = instantiate_laid field.Argument core_argument-wide args.row.now args.pool.now (core_argument_element _) (c.requires) in
    laid.groups

pub put_arguments-requires-clause-row_in_bounds : goal.put_arguments-requires-clause-row_in_bounds
put_arguments-requires-clause-row_in_bounds c =
    let args = c.args in
    let laid = instantiate_laid field.Argument core_argument-wide args.row.now args.pool.now (core_argument_element _) (c.requires) in
    elements_room laid c.put_instantiate_head-next.ensures

pub shape_of-out : goal.shape_of-out
shape_of-out c =
    let args = c.args in
    let laid = instantiate_laid field.Argument core_argument-wide args.row.now args.pool.now (core_argument_element _) (c.requires) in
    laid_same laid c.put_instantiate_head-next.ensures c.put_arguments.ensures

pub returns : goal.returns
returns c =
    let args = c.args in
    let laid = instantiate_laid field.Argument core_argument-wide args.row.now args.pool.now (core_argument_element _) (c.requires) in
    laid_put laid c.put_instantiate_head-next.ensures c.put_arguments.ensures
