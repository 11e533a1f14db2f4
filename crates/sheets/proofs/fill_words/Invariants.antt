-- `fill_words` meets its contract. The loop's invariant: the first i words stand at the front of the row.
use Prim.Native.Nat.{◌≤◌}
use mathlib.Core.Path.{◌≡◌}
use lib.Seq.{sets}
use Rattle.sheets.specs.Frame.{words}
use Rattle.sheets.proofs.fill_words.Given as goal

abbrev pub invariant-loop-i : goal.invariant-loop-i
invariant-loop-i l = (l.i ≤ l.n) × (l.row ≡ sets l.initial.row 0 (words l.input l.at l.i))
