-- `lift_size` meets its contract: the row is as long as its count says, and its options were seen.
use native.Mathlib.Omega.{arith}
use lib.ListN.{get_or}
use Rattle.numbers.proofs.LebLaws.{size_bounds}
use Rattle.canonicals.proofs.LiftedLaws.{lifted-known}
use Rattle.canonicals.proofs.straight.lift_size.Goals as goal

pub overflow_cast-n : goal.overflow_cast-n
overflow_cast-n c = omega (arith, c.type_inv.row 3)

pub overflow_mul-n : goal.overflow_mul-n
overflow_mul-n c = omega (arith, c.type_inv.row 3)

pub overflow_add-n : goal.overflow_add-n
overflow_add-n c = omega (arith, c.type_inv.row 3)

pub overflow_add-base : goal.overflow_add-base
overflow_add-base c = omega (arith, c.unsigned_size.ensures, size_bounds 128 (get_or c.args.row.now 1 0))

pub overflow_add-base-2 : goal.overflow_add-base-2
overflow_add-base-2 c =
    let a = c.args in
    omega (arith, c.unsigned_size.ensures, size_bounds 128 (get_or a.row.now 1 0), c.unsigned_size-2.ensures, size_bounds 128 (get_or a.row.now 2 0))

pub overflow_add-base-3 : goal.overflow_add-base-3
overflow_add-base-3 c =
    let a = c.args in
    omega (arith, c.unsigned_size.ensures, size_bounds 128 (get_or a.row.now 1 0), c.unsigned_size-2.ensures, size_bounds 128 (get_or a.row.now 2 0), c.unsigned_size-3.ensures, size_bounds 128 (get_or a.row.now 3 0))

pub options_size-requires : goal.options_size-requires
options_size-requires c =
    let a = c.args in
    (omega (arith, c.if-row-n.false), c.if-row-gt-ROW_WORDS.false, omega (arith, c.unsigned_size.ensures, size_bounds 128 (get_or a.row.now 1 0), c.unsigned_size-2.ensures, size_bounds 128 (get_or a.row.now 2 0), c.unsigned_size-3.ensures, size_bounds 128 (get_or a.row.now 3 0)))

pub returns : goal.returns
returns c =
    let a = c.args in
    lifted-known a.row.now a.pool.now c.options_size.result c.if-pool-gt-POOL_BYTES.false c.if-row-gt-ROW_WORDS.false c.if-row-n.false c.unsigned_size.ensures c.unsigned_size-2.ensures c.unsigned_size-3.ensures c.options_size.ensures
