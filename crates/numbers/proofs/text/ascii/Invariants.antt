-- `numbers::text::ascii` meets its contract. The loop's invariant: the bytes before `i` are below 128; the last chunk
-- may overlap the one before.
use Rattle.std.proofs.Common.{◌-◌, ◌≤◌}
use Rattle.numbers.specs.inside.Below.{Below}
use Rattle.numbers.proofs.text.ascii.Given as goal

abbrev pub invariant-loop-i : goal.invariant-loop-i
invariant-loop-i l = (l.i ≤ l.len) × Below 0x80 l.s 0 l.i

abbrev pub decreases-loop-i : goal.decreases-loop-i
decreases-loop-i l = l.len - l.i
