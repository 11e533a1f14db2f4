-- `try_rows` meets its contract. The loop's invariant: the rows from here come to what all come to. The measure: how many words are due.
use Prim.Native.Nat.{◌-◌}
use lib.ListN.{length}
use Rattle.sheets.proofs.SheetLaws.{Trying}
use Rattle.sheets.proofs.try_rows.Given as goal

abbrev pub invariant-loop-at : goal.invariant-loop-at
invariant-loop-at l = Trying l.family l.pool l.room l.words l.at l.rows l.used

abbrev pub decreases-loop-at : goal.decreases-loop-at
decreases-loop-at l = length l.words - l.at
