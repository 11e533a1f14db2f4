-- Where a name stops, said of `text` alone and not of the way in which it is checked.
use Rattle.std.specs.Prelude.{◌≡◌, ℕ, ◌<◌, ◌≤◌, true, List, ◌++◌, length, take, ◌≢◌}
use Rattle.numbers.specs.Bytes.{Bytes}
use Rattle.numbers.specs.Text.{text}

-- the first n bytes of s are the longest beginning of s with which some text begins
pub record LongestBeginning (s : List ℕ) (n : ℕ) : Type 0 where
  pub within : n ≤ length s
  -- some bytes behind them make a text
  pub goes_on : (t : List ℕ) × (Bytes t × (text (take n s ++ t) ≡ true))
  -- nothing behind one byte more, or behind more of them, does
  pub no_more : (m : ℕ) → n < m → m ≤ length s → (t : List ℕ) → text (take m s ++ t) ≢ true
