-- `sections::put_frame` meets its contract: there is room for the whole, so its parts are stored one after the other (`frame_stored`).
use native.Mathlib.Omega.{arith}
use Rattle.sections.proofs.FrameLaws.{stored-small, frame_stored}
use Rattle.sections.proofs.put_frame.Goals as goal

pub overflow_add-counted : goal.overflow_add-counted
overflow_add-counted c =
    let a = c.args in
    omega (arith, stored-small a.size _ _ c.put_unsigned.ensures c.stored_size-counted.ensures)

pub overflow_add-start : goal.overflow_add-start
overflow_add-start c =
    let a = c.args in
    omega (
      arith,
      stored-small a.size _ _ c.put_unsigned.ensures c.stored_size-counted.ensures,
      stored-small a.count _ _ c.put_unsigned-2.ensures c.stored_size.ensures,
    )

pub returns : goal.returns
returns c =
    let a = c.args in
    frame_stored a.family a.size a.count a.body.now a.out.now c.requires
    c.put_unsigned.ensures c.stored_size-counted.ensures
    c.put_unsigned-2.ensures c.stored_size.ensures
    c.copy.ensures
