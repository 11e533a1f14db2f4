-- `fields_size` meets its contract: the loop's invariant is `Going` (what is still to be seen makes the whole) and its numbers.
use Prim.Native.Nat.{◌+◌}
use native.Mathlib.Omega.{arith}
use mathlib.Core.Path.{sym, ◌∙◌}
use Rattle.fields.specs.Words.{word}
use Rattle.writing.proofs.ElementLaws.{name_at-small}
use Rattle.writing.proofs.GroupLaws.{going_end}
use Rattle.types.proofs.SmallLaws.{value-few}
use Rattle.types.proofs.CountedLaws.{field_next}
use Rattle.types.proofs.counted.fields_size.Goals as goal

pub overflow_add-made : goal.overflow_add-made
overflow_add-made c =
    let row = c.args.row.now in
    omega (
      arith,
      name_at-small c.args.pool.now row c.loop.at c.requires.pool_len_bound.0 (sym c.in_ok-name_size.was ∙ c.name_size.ensures),
      value-few (word row (c.loop.at + 2)) (word row (c.loop.at + 3)) (sym c.in_ok-made.was ∙ c.value_size.ensures),
    )

pub overflow_add-made-in-loop : goal.overflow_add-made-in-loop
overflow_add-made-in-loop c =
    let row = c.args.row.now in
    omega (
      arith,
      name_at-small c.args.pool.now row c.loop.at c.requires.pool_len_bound.0 (sym c.in_ok-name_size.was ∙ c.name_size.ensures),
      value-few (word row (c.loop.at + 2)) (word row (c.loop.at + 3)) (sym c.in_ok-made.was ∙ c.value_size.ensures),
    )

pub loop-preserved : goal.loop-preserved
loop-preserved c =
    let row = c.args.row.now in
    let one = sym c.in_ok-name_size.was ∙ c.name_size.ensures in
    let two = sym c.in_ok-made.was ∙ c.value_size.ensures in
    let few = name_at-small c.args.pool.now row c.loop.at c.requires.pool_len_bound.0 one in
    let short = value-few (word row (c.loop.at + 2)) (word row (c.loop.at + 3)) two in
    (field_next c.loop.invariant.0 (omega arith) c.requires.pool_len_bound.0 one two, (omega arith, omega arith))

pub returns : goal.returns
returns c = going_end _ c.loop.invariant.0 (omega arith)
