-- `numbers::bytes::copy_long` meets its contract. The loop's invariant: the first k bytes of src stand in the buffer (`Held` of
-- `CopyLaws`); the last chunk makes them all (`CopyLaws.held-last`). Assumes nothing.
use Rattle.std.proofs.Common.{refl, ◌∙◌, arith}
use Rattle.numbers.proofs.CopyLaws.{held, held-chunk, held-last}
use Rattle.numbers.proofs.bytes.copy_long.Goals as goal

pub loop-k-init : goal.loop-k-init
loop-k-init c = (omega arith, held refl)

pub overflow_sub-size : goal.overflow_sub-size
overflow_sub-size c = omega arith

pub overflow_add-at : goal.overflow_add-at
overflow_add-at c = omega arith

pub overflow_add-k : goal.overflow_add-k
overflow_add-k c = omega arith

pub loop-k-smaller : goal.loop-k-smaller
loop-k-smaller c = omega arith

pub loop-k-preserved : goal.loop-k-preserved
loop-k-preserved c =
    (omega arith, held-chunk c.loop-k.k 16 c.loop-k.invariant.1 (omega arith) (omega arith) c.chunk.ensures)

pub overflow_sub-last : goal.overflow_sub-last
overflow_sub-last c = omega arith

pub overflow_add-at-2 : goal.overflow_add-at-2
overflow_add-at-2 c = omega arith

pub shape_of-out : goal.shape_of-out
shape_of-out c = c.out-2-1.given ∙ c.loop-k.invariant.1.same

pub returns : goal.returns
returns c =
    held-last 16 c.loop-k.invariant.1 c.loop-k.invariant.0 (omega arith) (omega arith) c.chunk-2.ensures
