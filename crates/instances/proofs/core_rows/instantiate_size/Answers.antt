-- `core_rows::instantiate_size` meets its contract: the head and the arguments that are seen make the row (`instantiate_known`).
use native.Mathlib.Omega.{arith}
use Rattle.fields.specs.declared.Field.TheVariants as field
use Rattle.instances.proofs.InstanceLaws.{core_argument-wide, core_argument_element}
use Rattle.instances.proofs.LaidLaws.{instantiate_known}
use Rattle.instances.proofs.core_rows.instantiate_size.Goals as goal

pub bounds-row-2 : goal.bounds-row-2
bounds-row-2 c =
    omega (arith, (rw c.in_ok-base.was at c.instantiate_head_size.ensures.headed).width)

pub overflow_cast-row : goal.overflow_cast-row
overflow_cast-row c =
    omega (arith, c.type_inv.row 2)

pub arguments_size-requires-clause-pool_len_bound : goal.arguments_size-requires-clause-pool_len_bound
arguments_size-requires-clause-pool_len_bound c = c.requires

pub arguments_size-requires-clause-n_in_bounds : goal.arguments_size-requires-clause-n_in_bounds
arguments_size-requires-clause-n_in_bounds c = (omega (arith, (rw c.in_ok-base.was at c.instantiate_head_size.ensures.headed).width), rw c.in_ok-base.was at c.instantiate_head_size.ensures.upper_bound)

pub returns : goal.returns
returns c =
    let args = c.args in
    let head = rw c.in_ok-base.was at c.instantiate_head_size.ensures.headed in
    let pool = args.pool.now in
    instantiate_known field.Argument core_argument-wide args.row.now pool (core_argument_element pool) c.requires.0 c.requires.1 head _ c.arguments_size.ensures
