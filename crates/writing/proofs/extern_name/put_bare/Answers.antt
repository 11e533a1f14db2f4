-- `put_bare`: nothing of a name past the pool; of another the room for lead, length and part is tested together, and then one is
-- stored after the other (`bare_stored`).
use native.Mathlib.Omega.{arith}
use native.Mathlib.Nat.{add-sub_cancel_left}
use mathlib.Core.Path.{sym}
use Rattle.numbers.proofs.BytesLaws.{part-inside}
use Rattle.numbers.proofs.LebLaws.{size_bounds}
use Rattle.writing.proofs.ExternLaws.{bare_past, bare_stored, bare_none}
use Rattle.writing.proofs.extern_name.put_bare.Goals as goal

pub returns-then-pool-end : goal.returns-then-pool-end
returns-then-pool-end c =
    let a = c.args in
    rw (bare_past a.pool.now a.start a.size c.if-pool-end.true) c.copy.ensures

pub overflow_add-head : goal.overflow_add-head
overflow_add-head c =
    let a = c.args in
    rw c.unsigned_size-head.ensures (omega (arith, size_bounds 128 a.size))

pub overflow_add-all : goal.overflow_add-all
overflow_add-all c =
    let a = c.args in
    rw c.unsigned_size-head.ensures (omega (arith, size_bounds 128 a.size))

pub returns-then-out-at : goal.returns-then-out-at
returns-then-out-at c =
    let a = c.args in
    rw c.unsigned_size-head.ensures (bare_none a.pool.now a.start a.size c.if-pool-end.false a.at a.out.now (omega (arith, c.if-out-at.true)))

pub returns-then-out-at-2 : goal.returns-then-out-at-2
returns-then-out-at-2 c =
    let a = c.args in
    rw c.unsigned_size-head.ensures
    (bare_none a.pool.now a.start a.size c.if-pool-end.false a.at a.out.now
    (omega (arith, c.if-out-at-2.true, c.if-out-at.false, c.unsigned_size-head.ensures)))

pub shape_of-out : goal.shape_of-out
shape_of-out c =
    let a = c.args in
    let part = part-inside a.pool.now a.start a.size c.if-pool-end.false in
    (bare_stored a.pool.now a.start a.size c.if-pool-end.false a.at a.out.now
    (omega (arith, c.if-out-at-2.false, c.if-out-at.false, c.unsigned_size-head.ensures)) c.put_unsigned.ensures
    (rw (add-sub_cancel_left, sym part, c.unsigned_size-head.ensures) at c.copy-2.ensures)).1

pub returns : goal.returns
returns c =
    let a = c.args in
    let part = part-inside a.pool.now a.start a.size c.if-pool-end.false in
    rw c.unsigned_size-head.ensures
    (bare_stored a.pool.now a.start a.size c.if-pool-end.false a.at a.out.now
    (omega (arith, c.if-out-at-2.false, c.if-out-at.false, c.unsigned_size-head.ensures)) c.put_unsigned.ensures
    (rw (add-sub_cancel_left, sym part, c.unsigned_size-head.ensures) at c.copy-2.ensures)).0
