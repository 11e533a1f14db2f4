-- `put_name`: a name past the pool has its length alone; of another the room for length and part is tested together, and then one is
-- stored after the other (`stored-then`).
use native.Mathlib.Omega.{arith}
use native.Mathlib.Nat.{add-sub_cancel_left}
use mathlib.Core.Path.{sym}
use mathlib.Core.List.{append-nil}
use Rattle.numbers.specs.Bytes.{part_of}
use Rattle.numbers.specs.Leb.{unsigned}
use Rattle.numbers.proofs.BytesLaws.{part-inside, part-past}
use Rattle.numbers.proofs.LebLaws.{size_bounds}
use Rattle.writing.proofs.LeafLaws.{part_length, stored-then, store-none}
use Rattle.writing.proofs.put_name.Goals as goal

pub returns-then-pool-end : goal.returns-then-pool-end
returns-then-pool-end c =
    let a = c.args in
    rw (part-past a.pool.now a.start a.size c.if-pool-end.true, append-nil) c.put_unsigned.ensures

pub overflow_add-all : goal.overflow_add-all
overflow_add-all c =
    let a = c.args in
    rw c.unsigned_size-head.ensures (omega (arith, size_bounds 128 a.size))

pub returns-then-out-at : goal.returns-then-out-at
returns-then-out-at c =
    let a = c.args in
    let size = part_length a.pool.now a.start a.size c.if-pool-end.false in
    rw c.unsigned_size-head.ensures
    (sym (store-none (unsigned a.size) (part_of a.pool.now a.start a.size) a.at a.out.now size (omega arith)))

pub returns-then-out-at-2 : goal.returns-then-out-at-2
returns-then-out-at-2 c =
    let a = c.args in
    let size = part_length a.pool.now a.start a.size c.if-pool-end.false in
    rw c.unsigned_size-head.ensures
    (sym (store-none (unsigned a.size) (part_of a.pool.now a.start a.size) a.at a.out.now size
    (omega (arith, c.if-out-at-2.true, c.if-out-at.false, c.unsigned_size-head.ensures))))

pub returns : goal.returns
returns c =
    let a = c.args in
    let part = part-inside a.pool.now a.start a.size c.if-pool-end.false in
    let size = part_length a.pool.now a.start a.size c.if-pool-end.false in
    rw c.unsigned_size-head.ensures
    (stored-then (unsigned a.size) (part_of a.pool.now a.start a.size) a.at a.out.now size
    (omega (arith, c.if-out-at-2.false, c.if-out-at.false, c.unsigned_size-head.ensures)) c.put_unsigned-2.ensures
    (rw (add-sub_cancel_left, sym part, c.unsigned_size-head.ensures) at c.copy.ensures))
