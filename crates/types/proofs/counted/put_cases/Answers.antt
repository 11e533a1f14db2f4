-- `put_cases` meets its contract: the loop's invariant is `Putting`: what is still to be put, put here, leaves what the whole leaves.
use native.Mathlib.Omega.{arith}
use mathlib.Core.Path.{refl}
use Rattle.fields.specs.Words.{wide}
use Rattle.fields.specs.Shape.{widths}
use Rattle.writing.proofs.GroupLaws.{putting_next, putting_end}
use Rattle.types.proofs.CountedLaws.{case_room, case_byte, case_put}
use Rattle.types.proofs.counted.put_cases.Goals as goal

pub overflow_add-to : goal.overflow_add-to
overflow_add-to c =
    omega (arith, (case_room c.loop.invariant.0 (omega arith) c.requires.row_in_bounds c.put_name.ensures c.stored_size-to.ensures).0)

pub put_optional-to-requires : goal.put_optional-to-requires
put_optional-to-requires c =
    (case_room c.loop.invariant.0 (omega arith) c.requires.row_in_bounds c.put_name.ensures c.stored_size-to.ensures).1

pub bounds-out-to : goal.bounds-out-to
bounds-out-to c =
    let i = case_byte c.loop.invariant.0 (omega arith) c.requires.row_in_bounds c.put_name.ensures c.stored_size-to.ensures c.put_optional-to.ensures in
    omega arith

pub overflow_add-to-in-loop : goal.overflow_add-to-in-loop
overflow_add-to-in-loop c =
    omega (
      arith,
      case_byte c.loop.invariant.0 (omega arith) c.requires.row_in_bounds c.put_name.ensures c.stored_size-to.ensures c.put_optional-to.ensures,
    )

pub loop-preserved : goal.loop-preserved
unfolding widths wide
loop-preserved c =
    let w = case_put c.loop.invariant.0 (omega arith) c.requires.row_in_bounds c.put_name.ensures c.stored_size-to.ensures c.put_optional-to.ensures in
    (putting_next c.loop.invariant.0 (omega arith) w refl, omega arith)

pub shape_of-out : goal.shape_of-out
shape_of-out c = c.loop.invariant.0.same

pub returns : goal.returns
unfolding widths wide
returns c = (putting_end _ c.loop.invariant.0 (omega arith)).content
