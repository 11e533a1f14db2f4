-- `numbers::leb::write_short` meets its contract: `short` says what the three stores leave.
use Rattle.std.proofs.Common.{arith, length-set}
use Rattle.numbers.proofs.ThreeBytes.{Short, short}
use Rattle.numbers.proofs.leb.write_short.Goals as goal
use Rattle.numbers.proofs.leb.write_short.Goals.{Start}

-- the number is short
known : (c : Start) → Short c.args.end c.args.n
known c = short c.args.end c.args.n (omega arith)

pub overflow_add-second : goal.overflow_add-second
overflow_add-second c = omega (arith, c.past.ensures, (known (goal.at.overflow_add-second c).Start).size)

pub overflow_add-third : goal.overflow_add-third
overflow_add-third c = omega (arith, c.past-2.ensures, c.past.ensures, (known (goal.at.overflow_add-third c).Start).size)

pub bounds-out-at : goal.bounds-out-at
bounds-out-at c = omega (arith, (known (goal.at.bounds-out-at c).Start).size)

pub bounds-out-second : goal.bounds-out-second
bounds-out-second c =
    simp length-set (omega (arith, c.past.ensures, (known (goal.at.bounds-out-second c).Start).size))

pub overflow_cast-out-3 : goal.overflow_cast-out-3
overflow_cast-out-3 c =
    let l = (known (goal.at.overflow_cast-out-3 c).Start).last in
    rw (c.choose-last.ensures, c.choose.ensures) (omega arith)

pub bounds-out-third : goal.bounds-out-third
bounds-out-third c =
    let s = (known (goal.at.bounds-out-third c).Start).size in
    simp length-set (omega (arith, c.past-2.ensures, c.past.ensures))

pub returns : goal.returns
returns c =
    rw (c.past-2.ensures, c.past.ensures, c.choose-last.ensures, c.choose.ensures)
    ((known (goal.at.returns c).Start).stores _ _)
