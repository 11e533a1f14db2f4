-- `try_rows` meets its contract. The loop's invariant: the rows from here come to what all come to. The measure: how many words are due.
use Prim.Native.Nat.{◌≤◌}
use native.Mathlib.Omega.{arith}
use lib.ListN.{length}
use Rattle.sheets.proofs.LaidLaws.{end_of, round}
use Rattle.sheets.proofs.SheetLaws.{try_start, try_end, try_refused, try_cramped, try_next}
use Rattle.sheets.proofs.try_rows.Goals as goal
use Rattle.sheets.proofs.try_rows.Goals.{In-loop-at}

-- the row here is whole
row_fits : (c : In-loop-at)
    → let words = c.args.words.now in end_of words c.loop-at.at ≤ length words
row_fits c = (round _ c.loop-at.invariant.here c.loop-at-test.true).fits

pub loop-at-init : goal.loop-at-init
loop-at-init c = try_start _ _ _ _ c.requires

pub overflow_add-first : goal.overflow_add-first
overflow_add-first c = omega (arith, row_fits (goal.at.overflow_add-first c).In-loop-at)

pub overflow_cast-end : goal.overflow_cast-end
overflow_cast-end c = omega (arith, row_fits (goal.at.overflow_cast-end c).In-loop-at)

pub overflow_add-end : goal.overflow_add-end
overflow_add-end c = omega (arith, row_fits (goal.at.overflow_add-end c).In-loop-at)

pub slice_bounds-measure_by-count : goal.slice_bounds-measure_by-count
slice_bounds-measure_by-count c = omega arith

pub slice_bounds-measure_by-start : goal.slice_bounds-measure_by-start
slice_bounds-measure_by-start c = omega (arith, row_fits (goal.at.slice_bounds-measure_by-start c).In-loop-at)

pub slice_bounds-measure_by-end : goal.slice_bounds-measure_by-end
slice_bounds-measure_by-end c = omega (arith, row_fits (goal.at.slice_bounds-measure_by-end c).In-loop-at)

pub overflow_sub-room : goal.overflow_sub-room
overflow_sub-room c =
    omega arith

pub returns-then-room-used : goal.returns-then-room-used
returns-then-room-used c =
    try_cramped _ _ _ _ c.loop-at.invariant c.loop-at-test.true c.measure_by.ensures
    c.in-Ok.is (omega arith)

pub overflow_add-used : goal.overflow_add-used
overflow_add-used c =
    omega arith

pub returns-in-Err : goal.returns-in-Err
returns-in-Err c =
    try_refused _ _ _ _ c.loop-at.invariant c.loop-at-test.true c.measure_by.ensures c.in-Err.is

pub overflow_add-rows : goal.overflow_add-rows
overflow_add-rows c =
    omega arith

pub loop-at-smaller : goal.loop-at-smaller
loop-at-smaller c = omega (arith, row_fits (goal.at.loop-at-smaller c).In-loop-at)

pub loop-at-preserved : goal.loop-at-preserved
loop-at-preserved c =
    try_next _ _ _ _ c.loop-at.invariant c.loop-at-test.true c.measure_by.ensures
    c.in-Ok.is (omega arith)

pub returns : goal.returns
returns c = try_end _ _ _ _ c.loop-at.invariant c.loop-at-test.false
