-- `sort_size` meets its contract: one byte or two and a number, which has at most five bytes.
use native.Mathlib.Omega.{arith}
use Rattle.numbers.proofs.LebLaws.{size_bounds}
use Rattle.instances.proofs.InstanceLaws.{module_known, sort_known}
use Rattle.instances.proofs.component.sort_size.Goals as goal

pub overflow_add-result : goal.overflow_add-result
overflow_add-result c =
    let args = c.args in
    omega (arith, c.unsigned_size.ensures, size_bounds 128 args.x)

pub returns-then-sort-eq0 : goal.returns-then-sort-eq0
returns-then-sort-eq0 c =
    let args = c.args in
    let few = size_bounds 128 args.x in
    record {
      known = λ pool. module_known args.sort args.x c.unsigned_size.ensures pool c.if-sort-eq0.true;
      upper_bound = omega (arith, c.unsigned_size.ensures, few);
    }

pub overflow_add-result-then-sort-lt6 : goal.overflow_add-result-then-sort-lt6
overflow_add-result-then-sort-lt6 c =
    let args = c.args in
    omega (arith, c.unsigned_size-then-sort-lt6.ensures, size_bounds 128 args.x)

pub returns-then-sort-lt6 : goal.returns-then-sort-lt6
returns-then-sort-lt6 c =
    let args = c.args in
    let few = size_bounds 128 args.x in record {
      known = λ pool. sort_known args.sort args.x c.unsigned_size-then-sort-lt6.ensures pool c.if-sort-eq0.false c.if-sort-lt6.true;
      upper_bound = omega (arith, c.unsigned_size-then-sort-lt6.ensures, few);
    }
