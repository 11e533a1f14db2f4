-- `core_rows::arguments_size` meets its contract: the loop's invariant is `Going` (what is still to be seen makes the whole) and its numbers.
use native.Mathlib.Omega.{arith}
use mathlib.Core.Path.{sym, ◌∙◌}
use Rattle.std.specs.Prelude.{◌+◌}
use Rattle.numbers.proofs.LebLaws.{size_bounds}
use Rattle.fields.specs.Words.{word}
use Rattle.writing.proofs.GroupLaws.{going_end}
use Rattle.writing.proofs.ElementLaws.{name_at-small}
use Rattle.instances.proofs.InstanceLaws.{core_argument_next}
use Rattle.instances.proofs.core_rows.arguments_size.Goals as goal

pub overflow_add-two : goal.overflow_add-two
overflow_add-two c =
    let args = c.args in
    omega (arith, c.unsigned_size-two.ensures, size_bounds 128 (word args.row.now (c.loop.at + 2)))

pub overflow_add-made : goal.overflow_add-made
overflow_add-made c =
    let args = c.args in
    let row = args.row.now in
    let few = name_at-small args.pool.now row c.loop.at c.requires.pool_len_bound.0 (sym c.in_ok-one.was ∙ c.name_size.ensures) in
    omega (arith, few, c.unsigned_size-two.ensures, size_bounds 128 (word row (c.loop.at + 2)))

pub overflow_add-made-in-loop : goal.overflow_add-made-in-loop
overflow_add-made-in-loop c =
    let args = c.args in
    let row = args.row.now in
    let few = name_at-small args.pool.now row c.loop.at c.requires.pool_len_bound.0 (sym c.in_ok-one.was ∙ c.name_size.ensures) in
    omega (arith, few, c.unsigned_size-two.ensures, size_bounds 128 (word row (c.loop.at + 2)))

pub loop-preserved : goal.loop-preserved
loop-preserved c =
    let k = core_argument_next c.loop.counter c.loop.invariant.0 (omega arith) c.requires.pool_len_bound.0 (sym c.in_ok-one.was ∙ c.name_size.ensures) c.unsigned_size-two.ensures in
    (k, (omega arith, omega (arith, k.small)))

pub returns : goal.returns
returns c =
    going_end _ c.loop.invariant.0 (omega arith)
