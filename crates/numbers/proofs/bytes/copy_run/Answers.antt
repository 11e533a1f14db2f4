-- `numbers::bytes::copy_run` meets its contract. The loop's invariant: the first k of the bytes to copy stand in the buffer
-- (`Held` of `CopyLaws`). Assumes nothing.
use Rattle.std.proofs.Common.{◌≡◌, refl, arith, length-drop, get_or-drop}
use Rattle.numbers.proofs.CopyLaws.{held, held-byte}
use Rattle.numbers.proofs.bytes.copy_run.Goals as goal

pub loop-k-init : goal.loop-k-init
loop-k-init c = (omega arith, held refl)

pub overflow_add-out : goal.overflow_add-out
overflow_add-out c = omega arith

pub bounds-src-from : goal.bounds-src-from
bounds-src-from c = omega arith

pub overflow_add-out-in-loop-k : goal.overflow_add-out-in-loop-k
overflow_add-out-in-loop-k c = omega arith

pub bounds-out-to : goal.bounds-out-to
bounds-out-to c = omega arith

pub loop-k-preserved : goal.loop-k-preserved
loop-k-preserved c =
    (omega arith, rw get_or-drop at (held-byte c.loop-k.invariant.1 (simp length-drop (omega arith))))

pub shape_of-out : goal.shape_of-out
shape_of-out c = c.loop-k.invariant.1.same

pub returns : goal.returns
returns c =
    let e : c.loop-k.k ≡ c.args.size = omega arith in
    rw e at c.loop-k.invariant.1.content
