-- `sections::frame` meets its contract, by `FrameLaws`, a law for each way out; count and size have at most five bytes each (`number_size`).
use native.Mathlib.Omega.{arith}
use Prim.Native.Nat.{◌+◌}
use mathlib.Core.Path.{sym, ap, ◌∙◌}
use lib.ListN.{length}
use Rattle.fields.specs.Answers.{left}
use Rattle.sections.proofs.FrameLaws.{number_size, frame_size, frame_too_big, frame_no_room, frame_fits}
use Rattle.sections.proofs.frame.Goals as goal

pub overflow_sub-counted : goal.overflow_sub-counted
overflow_sub-counted c = omega (arith, number_size c.args.count)

pub returns-then-counted-body : goal.returns-then-counted-body
returns-then-counted-body c =
    let a = c.args in
    sym (frame_too_big a.family a.count _ _ c.unsigned_size-counted.ensures (omega (arith, c.if-counted-body.true)))

pub overflow_cast-size : goal.overflow_cast-size
overflow_cast-size c = omega (arith, number_size c.args.count)

pub overflow_add-all : goal.overflow_add-all
overflow_add-all c =
    omega (arith, number_size (c.unsigned_size-counted.result + length c.args.body.now))

pub overflow_add-all-2 : goal.overflow_add-all-2
overflow_add-all-2 c =
    let a = c.args in
    omega (arith, number_size a.count, number_size (c.unsigned_size-counted.result + length a.body.now))

pub returns-then-out-all : goal.returns-then-out-all
returns-then-out-all c =
    let a = c.args in
    sym
    (frame_no_room a.family a.count _ _ c.unsigned_size-counted.ensures c.if-counted-body.false
    c.unsigned_size.ensures c.if-out-all.true)

pub overflow_cast-size-2 : goal.overflow_cast-size-2
overflow_cast-size-2 c = omega (arith, number_size c.args.count)

pub put_frame-requires : goal.put_frame-requires
put_frame-requires c =
    let a = c.args in
    omega (arith, frame_size a.family (c.unsigned_size-counted.result + length a.body.now) a.count a.body.now)

pub returns : goal.returns
returns c =
    let a = c.args in
    ap (left _) c.put_frame.ensures
    ∙ sym
    (frame_fits a.family a.count _ _ c.unsigned_size-counted.ensures c.if-counted-body.false
    c.unsigned_size.ensures c.if-out-all.false)
