-- `make_rows` meets its contract. The loop's invariant: the rows from here come to what all come to, and leave what all leave.
use Prim.Native.Nat.{◌≤◌}
use native.Mathlib.Omega.{arith}
use mathlib.Core.Path.{sym, ◌∙◌}
use Rattle.numbers.proofs.Impossible.{impossible}
use lib.ListN.{length}
use Rattle.sheets.proofs.LaidLaws.{end_of, round}
use Rattle.sheets.proofs.MakeLaws.{make_start, make_end, make_cramped, make_next, make_barred, make_refused, room_of}
use Rattle.sheets.proofs.make_rows.Goals as goal
use Rattle.sheets.proofs.make_rows.Goals.{In-loop-at, in-Room, in_default}

-- the row here is whole
row_fits : (c : In-loop-at)
    → let words = c.args.words.now in end_of words c.loop-at.at ≤ length words
row_fits c = (round _ c.loop-at.invariant.here c.loop-at-test.true).fits

pub loop-at-init : goal.loop-at-init
loop-at-init c = make_start _ _ _ _ _ c.requires

pub overflow_add-first : goal.overflow_add-first
overflow_add-first c = omega (arith, row_fits (goal.at.overflow_add-first c).In-loop-at)

pub overflow_cast-end : goal.overflow_cast-end
overflow_cast-end c = omega (arith, row_fits (goal.at.overflow_cast-end c).In-loop-at)

pub overflow_add-end : goal.overflow_add-end
overflow_add-end c = omega (arith, row_fits (goal.at.overflow_add-end c).In-loop-at)

pub slice_bounds-write_by-count : goal.slice_bounds-write_by-count
slice_bounds-write_by-count c = omega arith

pub slice_bounds-write_by-start : goal.slice_bounds-write_by-start
slice_bounds-write_by-start c = omega (arith, row_fits (goal.at.slice_bounds-write_by-start c).In-loop-at)

pub slice_bounds-write_by-end : goal.slice_bounds-write_by-end
slice_bounds-write_by-end c = omega (arith, row_fits (goal.at.slice_bounds-write_by-end c).In-loop-at)

pub overflow_sub-room : goal.overflow_sub-room
overflow_sub-room c =
    omega arith

pub shape_of-made-then-room-used : goal.shape_of-made-then-room-used
shape_of-made-then-room-used c =
    c.made-1.given ∙ c.loop-at.invariant.size

pub returns-then-room-used : goal.returns-then-room-used
returns-then-room-used c =
    make_cramped _ _ _ _ _ c.loop-at.invariant c.loop-at-test.true c.write_by.ensures c.in-Ok.is (omega arith)

pub overflow_add-used : goal.overflow_add-used
overflow_add-used c =
    omega arith

pub shape_of-made-then-not-matches : goal.shape_of-made-then-not-matches
shape_of-made-then-not-matches c =
    c.made-1.given ∙ c.loop-at.invariant.size

pub returns-then-not-matches : goal.returns-then-not-matches
returns-then-not-matches c =
    make_refused _ _ _ _ _ c.loop-at.invariant c.loop-at-test.true c.write_by.ensures c.in-Err.is
    (elim c.match-matches.branch [ in-Room w ↦ impossible (cc (w.matches-is, c.if-not-matches.true)) | in_default w ↦ λ q. w.in_default.not-Room (room_of _ q) ])

pub overflow_sub-room-in-Err : goal.overflow_sub-room-in-Err
overflow_sub-room-in-Err c =
    omega arith

pub shape_of-made-then-room-used-2 : goal.shape_of-made-then-room-used-2
shape_of-made-then-room-used-2 c =
    c.made-1.given ∙ c.loop-at.invariant.size

pub returns-then-room-used-2 : goal.returns-then-room-used-2
returns-then-room-used-2 c =
    make_barred _ _ _ _ _ c.loop-at.invariant c.loop-at-test.true c.write_by.ensures
    c.in-Err.is (omega arith)

pub shape_of-made-in-Err : goal.shape_of-made-in-Err
shape_of-made-in-Err c =
    c.made-1.given ∙ c.loop-at.invariant.size

pub overflow_add-rows : goal.overflow_add-rows
overflow_add-rows c =
    omega arith

pub loop-at-smaller : goal.loop-at-smaller
loop-at-smaller c = omega (arith, row_fits (goal.at.loop-at-smaller c).In-loop-at)

pub loop-at-preserved : goal.loop-at-preserved
loop-at-preserved c =
    make_next _ _ _ _ _ c.loop-at.invariant c.loop-at-test.true c.write_by.ensures c.in-Ok.is (omega arith)

pub shape_of-made : goal.shape_of-made
shape_of-made c = c.loop-at.invariant.size

pub returns : goal.returns
returns c = make_end _ _ _ _ _ c.loop-at.invariant c.loop-at-test.false
