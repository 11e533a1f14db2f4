-- `numbers::leb::put_long` meets its contract: the tests say whether the bytes fit, and `write` stores them.
use Rattle.std.proofs.Common.{sym, arith}
use Rattle.numbers.proofs.BytesLaws.{store-fits, store-room}
use Rattle.numbers.proofs.leb.put_long.Goals as goal

pub returns-then-out-at : goal.returns-then-out-at
returns-then-out-at c = rw c.size-count.ensures (sym (store-room _ _ _ (omega arith)))

pub returns-then-out-at-2 : goal.returns-then-out-at-2
returns-then-out-at-2 c = rw c.size-count.ensures (sym (store-room _ _ _ (omega arith)))

pub returns : goal.returns
returns c =
    rw (c.size-count.ensures, c.write.ensures)
    (sym (store-fits _ _ _ (omega arith)))
