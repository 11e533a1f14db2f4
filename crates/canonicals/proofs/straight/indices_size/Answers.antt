-- `indices_size` meets its contract: the sum is small, since a number has five bytes at most.
use native.Mathlib.Omega.{arith}
use lib.ListN.{get_or}
use Rattle.numbers.proofs.LebLaws.{size_bounds}
use Rattle.canonicals.proofs.straight.indices_size.Goals as goal

pub overflow_add-result : goal.overflow_add-result
overflow_add-result c = omega (arith, c.unsigned_size.ensures, size_bounds 128 (get_or c.args.row.now 1 0))

pub overflow_add-result-2 : goal.overflow_add-result-2
overflow_add-result-2 c =
    let a = c.args in
    omega (arith, c.unsigned_size.ensures, size_bounds 128 (get_or a.row.now 1 0), c.unsigned_size-2.ensures, size_bounds 128 (get_or a.row.now 2 0))
