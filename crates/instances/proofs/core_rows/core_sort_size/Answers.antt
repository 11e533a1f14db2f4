-- `core_sort_size` meets its contract: a byte and a number, which has at most five bytes.
use native.Mathlib.Omega.{arith}
use Rattle.numbers.proofs.LebLaws.{size_bounds}
use Rattle.instances.proofs.InstanceLaws.{core_sort_known}
use Rattle.instances.proofs.core_rows.core_sort_size.Goals as goal

pub overflow_add-result : goal.overflow_add-result
overflow_add-result c =
    let args = c.args in
    omega (arith, c.unsigned_size.ensures, size_bounds 128 args.x)

pub returns-then-kind-lt5 : goal.returns-then-kind-lt5
returns-then-kind-lt5 c =
    let args = c.args in
    let few = size_bounds 128 args.x in
    record {
      known = λ pool. core_sort_known args.kind args.x c.unsigned_size.ensures pool c.if-kind-lt5.true;
      upper_bound = omega (arith, c.unsigned_size.ensures, few);
    }
