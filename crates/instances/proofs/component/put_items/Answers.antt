-- `component::put_items` meets its contract: the loop's invariant is `Putting`: what is still to be put, put here, leaves what the whole leaves.
use native.Mathlib.Omega.{arith}
use mathlib.Core.Path.{refl}
use Rattle.fields.specs.Words.{wide}
use Rattle.fields.specs.Shape.{widths}
use Rattle.writing.proofs.GroupLaws.{putting_next, putting_end}
use Rattle.instances.proofs.InstanceLaws.{item_low, item_room, item_put}
use Rattle.instances.proofs.component.put_items.Goals as goal

pub overflow_add-to : goal.overflow_add-to
overflow_add-to c =
    omega (arith, item_room c.loop.invariant.0 (omega arith) c.requires.row_in_bounds c.put_extern.ensures c.stored_size-to.ensures)

pub put_sort-to-requires : goal.put_sort-to-requires
put_sort-to-requires c = (
  item_low c.loop.invariant.0 (omega arith) c.requires.row_in_bounds c.put_extern.ensures c.stored_size-to.ensures,
  item_room c.loop.invariant.0 (omega arith) c.requires.row_in_bounds c.put_extern.ensures c.stored_size-to.ensures,
)

pub loop-preserved : goal.loop-preserved
unfolding widths wide
loop-preserved c =
    let w = item_put c.loop.invariant.0 (omega arith) c.requires.row_in_bounds c.put_extern.ensures c.stored_size-to.ensures c.put_sort-to.ensures in
    (putting_next c.loop.invariant.0 (omega arith) w refl, omega arith)

pub shape_of-out : goal.shape_of-out
shape_of-out c =
    c.loop.invariant.0.same

pub returns : goal.returns
unfolding widths wide
returns c =
    (putting_end _ c.loop.invariant.0 (omega arith)).content
