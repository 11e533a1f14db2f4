-- `core_rows::put_arguments` meets its contract: the loop's invariant is `Putting`: what is still to be put, put here, leaves what the whole leaves.
use native.Mathlib.Omega.{arith}
use mathlib.Core.Path.{refl}
use Rattle.fields.specs.declared.Field.TheVariants as field
use Rattle.fields.specs.Words.{word, wide}
use Rattle.fields.specs.Shape.{widths}
use Rattle.writing.specs.Binary.{argument}
use Rattle.writing.proofs.GroupLaws.{putting_next, putting_end}
use Rattle.writing.proofs.ElementLaws.{named_room, named_put}
use Rattle.instances.proofs.InstanceLaws.{core_argument-wide, core_argument_words}
use Rattle.instances.proofs.core_rows.put_arguments.Goals as goal

pub overflow_add-to : goal.overflow_add-to
overflow_add-to c =
    omega (
      arith,
      named_room field.Argument (λ ws. argument (word ws 2)) core_argument-wide c.loop.invariant.0 (omega arith) c.requires.row_in_bounds
          c.put_name.ensures c.stored_size-to.ensures refl,
    )

pub put_lead-to-requires : goal.put_lead-to-requires
put_lead-to-requires c =
    let args = c.args in
    omega (
      arith,
      named_room field.Argument (λ ws. argument (word ws 2)) core_argument-wide c.loop.invariant.0 (omega arith) c.requires.row_in_bounds
          c.put_name.ensures c.stored_size-to.ensures (core_argument_words args.row.now c.loop.at),
    )

pub loop-preserved : goal.loop-preserved
unfolding widths wide
loop-preserved c =
    let args = c.args in
    let w = named_put field.Argument (λ ws. argument (word ws 2)) core_argument-wide c.loop.invariant.0 (omega arith) c.requires.row_in_bounds
    c.put_name.ensures c.stored_size-to.ensures (core_argument_words args.row.now c.loop.at) c.put_lead-to.ensures in
    (putting_next c.loop.invariant.0 (omega arith) w refl, omega arith)

pub shape_of-out : goal.shape_of-out
shape_of-out c =
    c.loop.invariant.0.same

pub returns : goal.returns
unfolding widths wide
returns c =
    (putting_end _ c.loop.invariant.0 (omega arith)).content
