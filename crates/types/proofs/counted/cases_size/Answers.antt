-- `cases_size` meets its contract: the loop's invariant is `Going` (what is still to be seen makes the whole) and its numbers.
use native.Mathlib.Omega.{arith}
use mathlib.Core.Path.{sym, ◌∙◌}
use Rattle.writing.proofs.ElementLaws.{name_at-small}
use Rattle.writing.proofs.GroupLaws.{going_end}
use Rattle.types.proofs.CountedLaws.{case_next}
use Rattle.types.proofs.counted.cases_size.Goals as goal

pub overflow_add-made : goal.overflow_add-made
overflow_add-made c =
    omega (
      arith,
      name_at-small c.args.pool.now c.args.row.now c.loop.at c.requires.pool_len_bound.0 (sym c.in_ok-label.was ∙ c.name_size.ensures),
      rw c.in_ok-made.was at c.optional_size.ensures.upper_bound,
    )

pub overflow_add-made-in-loop : goal.overflow_add-made-in-loop
overflow_add-made-in-loop c =
    omega (
      arith,
      name_at-small c.args.pool.now c.args.row.now c.loop.at c.requires.pool_len_bound.0 (sym c.in_ok-label.was ∙ c.name_size.ensures),
      rw c.in_ok-made.was at c.optional_size.ensures.upper_bound,
    )

pub overflow_add-made-in-loop-2 : goal.overflow_add-made-in-loop-2
overflow_add-made-in-loop-2 c =
    omega (
      arith,
      name_at-small c.args.pool.now c.args.row.now c.loop.at c.requires.pool_len_bound.0 (sym c.in_ok-label.was ∙ c.name_size.ensures),
      rw c.in_ok-made.was at c.optional_size.ensures.upper_bound,
    )

pub loop-preserved : goal.loop-preserved
loop-preserved c =
    let row = c.args.row.now in
    let one = sym c.in_ok-label.was ∙ c.name_size.ensures in
    let few = name_at-small c.args.pool.now row c.loop.at c.requires.pool_len_bound.0 one in
    let known = rw c.in_ok-made.was at c.optional_size.ensures.optional_known in
    let short = rw c.in_ok-made.was at c.optional_size.ensures.upper_bound in
    (case_next c.loop.invariant.0 (omega arith) c.requires.pool_len_bound.0 one known short, (omega arith, omega arith))

pub returns : goal.returns
returns c = going_end _ c.loop.invariant.0 (omega arith)
