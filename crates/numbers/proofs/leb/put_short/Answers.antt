-- `numbers::leb::put_short` meets its contract: the tests say whether the bytes fit, and `write_short` stores them.
use Rattle.std.proofs.Common.{◌≡◌, ◌+◌, ◌*◌, length, sym, arith}
use Rattle.numbers.specs.Leb.{bytes_of}
use Rattle.numbers.proofs.BytesLaws.{store-fits, store-room}
use Rattle.numbers.proofs.Shortest.{over-small}
use Rattle.numbers.proofs.ThreeBytes.{short}
use Rattle.numbers.proofs.leb.put_short.Goals as goal
use Rattle.numbers.proofs.leb.put_short.Goals.{After-past-2}

pub overflow_add-count : goal.overflow_add-count
overflow_add-count c = omega (arith, c.past.ensures, over-small c.args.end c.args.n)

-- what is counted is the number's size
counted : (c : After-past-2) → 1 + c.past.result + c.past-2.result ≡ length (bytes_of c.args.end 5 c.args.n)
counted c =
    let a = c.args in
    omega (arith, c.past.ensures, c.past-2.ensures, (short a.end a.n (omega arith)).size)

pub overflow_add-count-2 : goal.overflow_add-count-2
overflow_add-count-2 c =
    let a = c.args in
    omega (arith, c.past.ensures, over-small a.end a.n, c.past-2.ensures, over-small (a.end * 128) a.n)

pub returns-then-out-at : goal.returns-then-out-at
returns-then-out-at c = rw (counted (goal.at.returns-then-out-at c).After-past-2) (sym (store-room _ _ _ (omega arith)))

pub returns-then-out-at-2 : goal.returns-then-out-at-2
returns-then-out-at-2 c =
    let s = counted (goal.at.returns-then-out-at-2 c).After-past-2 in
    rw s (sym (store-room _ _ _ (omega arith)))

pub write_short-requires-clause-n_in_bounds : goal.write_short-requires-clause-n_in_bounds
write_short-requires-clause-n_in_bounds c =
    let s = counted (goal.at.write_short-requires-clause-n_in_bounds c).After-past-2 in
    omega arith

pub returns : goal.returns
returns c =
    let s = counted (goal.at.returns c).After-past-2 in
    rw (s, c.write_short.ensures) (sym (store-fits _ _ _ (omega arith)))
