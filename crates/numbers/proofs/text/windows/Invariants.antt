-- `numbers::text::windows` meets its contract. The loop's invariant: the k windows passed of each chunk are right if `high` is 0.
use Rattle.std.proofs.Common.{◌<◌, ◌≤◌}
use Rattle.numbers.specs.inside.Windows.{Windows}
use Rattle.numbers.proofs.text.windows.Given as goal

abbrev pub invariant-loop-k : goal.invariant-loop-k
invariant-loop-k l = (l.k ≤ l.n) × (l.high < 1 → Windows l.s l.h l.k × (Windows l.s l.i l.k × Windows l.s l.j l.k))
