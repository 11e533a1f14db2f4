-- `option_size` meets its contract: by `indexed-known` and `bare_known`.
use native.Mathlib.Omega.{arith}
use mathlib.Core.Path.{sym, ◌∙◌}
use Rattle.numbers.proofs.LebLaws.{size_bounds}
use Rattle.canonicals.proofs.ClassLaws.{indexed-known, bare_known}
use Rattle.canonicals.proofs.straight.option_size.Goals as goal

pub overflow_add-result : goal.overflow_add-result
overflow_add-result c = omega (arith, c.unsigned_size.ensures, size_bounds 128 c.args.x)

pub returns-then-is_indexed : goal.returns-then-is_indexed
returns-then-is_indexed c = record {
  x_value = indexed-known c.args.k c.args.x c.if-k-lt10.true (sym c.is_indexed.ensures ∙ c.if-is_indexed.true) c.unsigned_size.ensures;
  upper_bound = omega (arith, c.unsigned_size.ensures, size_bounds 128 c.args.x);
}

pub returns-then-x-eq0 : goal.returns-then-x-eq0
returns-then-x-eq0 c =
    let a = c.args in
    record {
      x_value = bare_known a.k a.x c.if-k-lt10.true (sym c.is_indexed.ensures ∙ c.if-is_indexed.false) c.if-x-eq0.true;
      upper_bound = omega arith;
    }
