-- `reference_size` meets its contract: each sort by its law, and a number has at most five bytes.
use native.Mathlib.Omega.{arith}
use mathlib.Core.Path.{sym, ◌∙◌}
use Rattle.numbers.proofs.LebLaws.{size_bounds}
use Rattle.writing.proofs.RowLaws.{value-small}
use Rattle.imports.proofs.ReferenceLaws.{value_reference, bound_reference, resource_reference, module_reference, index_reference}
use Rattle.imports.proofs.straight.reference_size.Goals as goal

pub overflow_add-result : goal.overflow_add-result
overflow_add-result c =
    let a = c.args in
    let small = rw (sym c.value_size.ensures ∙ c.in_ok-value.was) at (value-small a.x a.y) in
    omega arith

pub returns-then-sort-eq2 : goal.returns-then-sort-eq2
returns-then-sort-eq2 c =
    let a = c.args in
    let small = rw (sym c.value_size.ensures ∙ c.in_ok-value.was) at (value-small a.x a.y) in
    record {
      known = value_reference a.sort a.x a.y c.if-sort-eq2.true (sym c.in_ok-value.was ∙ c.value_size.ensures);
      upper_bound = omega arith;
    }

pub overflow_add-result-then-x-eq0 : goal.overflow_add-result-then-x-eq0
overflow_add-result-then-x-eq0 c = omega (arith, c.unsigned_size.ensures, size_bounds 128 c.args.y)

pub returns-then-x-eq0 : goal.returns-then-x-eq0
returns-then-x-eq0 c =
    let a = c.args in record {
      known = bound_reference a.sort a.x a.y c.if-sort-eq3.true c.if-x-eq0.true c.unsigned_size.ensures;
      upper_bound = omega (arith, c.unsigned_size.ensures, size_bounds 128 a.y);
    }

pub returns-then-y-eq0 : goal.returns-then-y-eq0
returns-then-y-eq0 c =
    let a = c.args in
    record { known = resource_reference a.sort a.x a.y c.if-sort-eq3.true (omega arith) (omega arith); upper_bound = omega arith }

pub overflow_add-result-then-sort-eq0 : goal.overflow_add-result-then-sort-eq0
overflow_add-result-then-sort-eq0 c = omega (arith, c.unsigned_size-then-sort-eq0.ensures, size_bounds 128 c.args.x)

pub returns-then-sort-eq0 : goal.returns-then-sort-eq0
returns-then-sort-eq0 c =
    let a = c.args in record {
      known = module_reference a.sort a.x a.y c.if-sort-eq0.true c.if-y-eq0-2.true c.unsigned_size-then-sort-eq0.ensures;
      upper_bound = omega (arith, c.unsigned_size-then-sort-eq0.ensures, size_bounds 128 a.x);
    }

pub overflow_add-result-then-sort-lt6 : goal.overflow_add-result-then-sort-lt6
overflow_add-result-then-sort-lt6 c = omega (arith, c.unsigned_size-then-sort-lt6.ensures, size_bounds 128 c.args.x)

pub returns-then-sort-lt6 : goal.returns-then-sort-lt6
returns-then-sort-lt6 c =
    let a = c.args in record {
      known = index_reference a.sort a.x a.y c.if-sort-eq0.false c.if-sort-eq2.false
          c.if-sort-eq3.false c.if-sort-lt6.true c.if-y-eq0-2.true c.unsigned_size-then-sort-lt6.ensures;
      upper_bound = omega (arith, c.unsigned_size-then-sort-lt6.ensures, size_bounds 128 a.x);
    }
