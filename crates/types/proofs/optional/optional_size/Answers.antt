-- `optional_size` meets its contract: an O that is absent is `absent_known`, one that is present `present_known`.
use native.Mathlib.Omega.{arith}
use mathlib.Core.Path.{sym, ◌∙◌}
use Rattle.types.proofs.SmallLaws.{value-few, absent_known, present_known}
use Rattle.types.proofs.optional.optional_size.Goals as goal

pub returns-then-x-eq0-clause-optional_known : goal.returns-then-x-eq0-clause-optional_known
returns-then-x-eq0-clause-optional_known c = absent_known c.args.absent c.args.tag c.args.x c.if-tag-eq2.true c.if-x-eq0.true

pub overflow_add-result : goal.overflow_add-result
overflow_add-result c = omega (arith, value-few c.args.tag c.args.x (sym c.in_ok-value_size.was ∙ c.value_size.ensures))

pub returns-clause-optional_known : goal.returns-clause-optional_known
returns-clause-optional_known c =
    present_known c.args.absent c.args.tag c.args.x c.if-tag-eq2.false (sym c.in_ok-value_size.was ∙ c.value_size.ensures)

pub returns-clause-upper_bound : goal.returns-clause-upper_bound
returns-clause-upper_bound c = omega (arith, value-few c.args.tag c.args.x (sym c.in_ok-value_size.was ∙ c.value_size.ensures))
