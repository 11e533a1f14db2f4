-- `labels_size` meets its contract: the loop's invariant is `Going` (what is still to be seen makes the whole) and its numbers.
use native.Mathlib.Omega.{arith}
use mathlib.Core.Path.{sym, ◌∙◌}
use Rattle.writing.proofs.ElementLaws.{name_at-small}
use Rattle.writing.proofs.GroupLaws.{going_end}
use Rattle.types.proofs.CountedLaws.{label_next}
use Rattle.types.proofs.counted.labels_size.Goals as goal

pub overflow_add-made : goal.overflow_add-made
overflow_add-made c =
    let args = c.args in
    omega (arith, name_at-small args.pool.now args.row.now c.loop.at c.requires.pool_len_bound.0 (sym c.in_ok-made.was ∙ c.name_size.ensures))

pub loop-preserved : goal.loop-preserved
loop-preserved c =
    let args = c.args in
    let one = sym c.in_ok-made.was ∙ c.name_size.ensures in
    let few = name_at-small args.pool.now args.row.now c.loop.at c.requires.pool_len_bound.0 one in
    (label_next c.loop.invariant.0 (omega arith) c.requires.pool_len_bound.0 one, (omega arith, omega arith))

pub returns : goal.returns
returns c = going_end _ c.loop.invariant.0 (omega arith)
