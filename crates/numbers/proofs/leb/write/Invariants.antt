-- `numbers::write` meets its contract. The loop's invariant: what is still to be written, put where the loop stands, leaves what the whole
-- leaves. Assumes nothing.
use Rattle.std.proofs.Common.{◌≡◌, ℕ, suc, ◌+◌, ◌<◌, List, length}
use lib.Seq.{sets}
use Rattle.numbers.specs.Leb.{bytes_of}
use Rattle.numbers.proofs.Shortest.{room}
use Rattle.numbers.proofs.leb.write.Given as goal

pub record Left (old : List ℕ) (at n end : ℕ) (new : List ℕ) (rest i : ℕ) : Type 0 where
  pub k : ℕ
  pub fits : rest < room end k
  pub goal : sets new i (bytes_of end (suc k) rest) ≡ sets old at (bytes_of end 5 n)
  pub sum : i + length (bytes_of end (suc k) rest) ≡ at + length (bytes_of end 5 n)
  pub same : length new ≡ length old

abbrev pub invariant-loop-rest : goal.invariant-loop-rest
invariant-loop-rest l = Left l.initial.out l.at l.n l.end l.out l.rest l.i

abbrev pub decreases-loop-rest : goal.decreases-loop-rest
decreases-loop-rest l = l.rest
