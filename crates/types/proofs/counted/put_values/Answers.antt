-- `put_values` meets its contract: the loop's invariant is `Putting`, by indices as nothing is needed of the words.
use native.Mathlib.Omega.{arith}
use mathlib.Core.Path.{refl}
use lib.ListN.{drop}
use Rattle.fields.specs.Words.{wide}
use Rattle.fields.specs.Shape.{widths}
use Rattle.writing.proofs.GroupLaws.{putting_start, putting_next, putting_end}
use Rattle.types.proofs.CountedLaws.{indices_right, value_put}
use Rattle.types.proofs.counted.put_values.Goals as goal

pub loop-init : goal.loop-init
loop-init c = (putting_start (omega arith) (indices_right c.args.n (drop c.args.from c.args.row.now)), omega arith)

pub overflow_add-to : goal.overflow_add-to
overflow_add-to c =
    omega (arith, (value_put c.loop.invariant.0 (omega arith) c.requires.row_in_bounds c.put_value.ensures c.stored_size-to.ensures).1)

pub loop-preserved : goal.loop-preserved
unfolding widths wide
loop-preserved c =
    let w = (value_put c.loop.invariant.0 (omega arith) c.requires.row_in_bounds c.put_value.ensures c.stored_size-to.ensures).0 in
    (putting_next c.loop.invariant.0 (omega arith) w refl, omega arith)

pub shape_of-out : goal.shape_of-out
shape_of-out c = c.loop.invariant.0.same

pub returns : goal.returns
unfolding widths wide
returns c = (putting_end _ c.loop.invariant.0 (omega arith)).content
