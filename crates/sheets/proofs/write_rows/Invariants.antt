-- `write_rows` meets its contract. The loop's invariant: the rows from here, put here, leave what all leave. The measure: the words due.
use Prim.Native.Nat.{◌-◌}
use lib.ListN.{length}
use Rattle.sheets.proofs.SheetLaws.{Writing}
use Rattle.sheets.proofs.write_rows.Given as goal

abbrev pub invariant-loop-at : goal.invariant-loop-at
invariant-loop-at l = Writing l.family l.pool l.words l.initial.body l.at l.used l.body

abbrev pub decreases-loop-at : goal.decreases-loop-at
decreases-loop-at l = length l.words - l.at
