-- `write_rows` meets its contract. The loop's invariant: the rows from here, put here, leave what all leave. The measure: the words due.
use Prim.Native.Nat.{◌≤◌}
use native.Mathlib.Omega.{arith}
use lib.ListN.{length}
use Rattle.sheets.proofs.LaidLaws.{end_of, round}
use Rattle.sheets.proofs.SheetLaws.{write_start, write_end, write_fits, write_next}
use Rattle.sheets.proofs.write_rows.Goals as goal
use Rattle.sheets.proofs.write_rows.Goals.{In-loop-at}

-- the row here is whole
row_fits : (c : In-loop-at)
    → let words = c.args.words.now in end_of words c.loop-at.at ≤ length words
row_fits c = (round _ c.loop-at.invariant.here c.loop-at-test.true).fits

pub loop-at-init : goal.loop-at-init
loop-at-init c = write_start _ _ _ _ c.requires.in_rows c.requires.passed

pub overflow_add-first : goal.overflow_add-first
overflow_add-first c = omega (arith, row_fits (goal.at.overflow_add-first c).In-loop-at)

pub overflow_cast-end : goal.overflow_cast-end
overflow_cast-end c = omega (arith, row_fits (goal.at.overflow_cast-end c).In-loop-at)

pub overflow_add-end : goal.overflow_add-end
overflow_add-end c = omega (arith, row_fits (goal.at.overflow_add-end c).In-loop-at)

pub slice_bounds-write_one-count : goal.slice_bounds-write_one-count
slice_bounds-write_one-count c = omega arith

pub slice_bounds-write_one-start : goal.slice_bounds-write_one-start
slice_bounds-write_one-start c = omega (arith, row_fits (goal.at.slice_bounds-write_one-start c).In-loop-at)

pub slice_bounds-write_one-end : goal.slice_bounds-write_one-end
slice_bounds-write_one-end c = omega (arith, row_fits (goal.at.slice_bounds-write_one-end c).In-loop-at)

pub write_one-used-requires : goal.write_one-used-requires
write_one-used-requires c =
    write_fits _ _ _ _ c.loop-at.invariant c.loop-at-test.true

pub loop-at-smaller : goal.loop-at-smaller
loop-at-smaller c = omega (arith, row_fits (goal.at.loop-at-smaller c).In-loop-at)

pub loop-at-preserved : goal.loop-at-preserved
loop-at-preserved c =
    write_next _ _ _ _ c.loop-at.invariant c.loop-at-test.true c.write_one-used.ensures

pub shape_of-body : goal.shape_of-body
shape_of-body c = c.loop-at.invariant.size

pub returns : goal.returns
returns c = write_end _ _ _ _ c.loop-at.invariant c.loop-at-test.false
