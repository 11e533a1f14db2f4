-- Bytes written again for those that were taken, where a padded number becomes shorter.
use Rattle.std.specs.Prelude.{◌≡◌, ℕ, ◌≤◌, List, length}

-- they are no more, and where they are as many, they are the same
pub record Again (taken written : List ℕ) : Type 0 where
  pub no_more : length written ≤ length taken
  pub same : length written ≡ length taken → written ≡ taken
