-- `core_rows::items_size` meets its contract: the loop's invariant is `Going` (what is still to be seen makes the whole) and its numbers.
use native.Mathlib.Omega.{arith}
use mathlib.Core.Path.{sym, ◌∙◌}
use Rattle.writing.proofs.GroupLaws.{going_end}
use Rattle.writing.proofs.ElementLaws.{name_at-small}
use Rattle.instances.proofs.InstanceLaws.{core_item_next}
use Rattle.instances.proofs.core_rows.items_size.Goals as goal

pub overflow_add-made : goal.overflow_add-made
overflow_add-made c =
    let args = c.args in
    let few = name_at-small args.pool.now args.row.now c.loop.at c.requires.pool_len_bound.0 (sym c.in_ok-one.was ∙ c.name_size.ensures) in
    omega (arith, few, rw c.in_ok-two.was at c.core_sort_size.ensures.upper_bound)

pub overflow_add-made-in-loop : goal.overflow_add-made-in-loop
overflow_add-made-in-loop c =
    let args = c.args in
    let few = name_at-small args.pool.now args.row.now c.loop.at c.requires.pool_len_bound.0 (sym c.in_ok-one.was ∙ c.name_size.ensures) in
    omega (arith, few, rw c.in_ok-two.was at c.core_sort_size.ensures.upper_bound)

pub loop-preserved : goal.loop-preserved
loop-preserved c =
    let args = c.args in
    let k = core_item_next c.loop.counter c.loop.invariant.0 (omega arith) c.requires.pool_len_bound.0 (sym c.in_ok-one.was ∙ c.name_size.ensures)
    ((rw c.in_ok-two.was at c.core_sort_size.ensures.known) args.pool.now) (rw c.in_ok-two.was at c.core_sort_size.ensures.upper_bound) in
    (k, (omega arith, omega (arith, k.small)))

pub returns : goal.returns
returns c =
    going_end _ c.loop.invariant.0 (omega arith)
