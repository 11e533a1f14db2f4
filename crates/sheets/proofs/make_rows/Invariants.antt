-- `make_rows` meets its contract. The loop's invariant: the rows from here come to what all come to, and leave what all leave.
use Prim.Native.Nat.{◌-◌}
use lib.ListN.{length}
use Rattle.sheets.proofs.MakeLaws.{Making}
use Rattle.sheets.proofs.make_rows.Given as goal

abbrev pub invariant-loop-at : goal.invariant-loop-at
invariant-loop-at l = Making l.family l.pool l.room l.words l.initial.made l.at l.rows l.used l.made

abbrev pub decreases-loop-at : goal.decreases-loop-at
decreases-loop-at l = length l.words - l.at
