-- Five numbers that are plainly a state that can take a row.
use Rattle.std.specs.Prelude.{ℕ, ◌≤◌, ◌<◌, ◌≡◌, true, List, get_or}
use Rattle.sections.specs.Section.{known_family}

-- a closed section of a known family, its used part within a body of n bytes, that can take an entry more
pub record Ready (state : List ℕ) (n : ℕ) : Type 0 where
  pub known : known_family (get_or state 0 0) ≡ true
  pub within : get_or state 1 0 ≤ n
  pub counts : get_or state 2 0 < 4294967295
  pub closed : get_or state 3 0 ≡ 0
  pub start : get_or state 4 0 ≡ 0
