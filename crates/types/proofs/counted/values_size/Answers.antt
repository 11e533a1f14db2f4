-- `values_size` meets its contract: the loop's invariant is `Going` (what is still to be seen makes the whole) and its numbers.
use Prim.Native.Nat.{◌+◌}
use native.Mathlib.Omega.{arith}
use mathlib.Core.Path.{sym, ◌∙◌}
use Rattle.fields.specs.Words.{word}
use Rattle.writing.proofs.GroupLaws.{going_end}
use Rattle.types.proofs.SmallLaws.{value-few}
use Rattle.types.proofs.CountedLaws.{value_next}
use Rattle.types.proofs.counted.values_size.Goals as goal

pub overflow_add-made : goal.overflow_add-made
overflow_add-made c =
    let row = c.args.row.now in
    omega (arith, value-few (word row c.loop.at) (word row (c.loop.at + 1)) (sym c.in_ok-made.was ∙ c.value_size.ensures))

pub loop-preserved : goal.loop-preserved
loop-preserved c =
    let one = sym c.in_ok-made.was ∙ c.value_size.ensures in
    let row = c.args.row.now in
    let few = value-few (word row c.loop.at) (word row (c.loop.at + 1)) one in
    (λ pool. value_next (c.loop.invariant.0 pool) (omega arith) one, (omega arith, omega arith))

pub returns : goal.returns
returns c = λ pool. going_end _ (c.loop.invariant.0 pool) (omega arith)
