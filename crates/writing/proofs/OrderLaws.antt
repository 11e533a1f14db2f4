-- The order in which a row is refused: for each way out of the code, what the definition says there.
use Rattle.fields.specs.declared.Shape.{Shape}
use Rattle.std.specs.Prelude.{Option}
use Prim.Native.Nat.{ℕ, ◌≤◌, ◌<◌}
use mathlib.Core.Path.{◌≡◌}
use mathlib.Core.List.{List}
use lib.ListN.{length}
use borrow.Author.Tests.{lt-ltb, le-ltb, eq-eqb, ne_eqb}
use Rattle.fields.specs.declared.Refusal.TheVariants as refusal
use Rattle.fields.specs.Answer.{Refused}
use Rattle.writing.specs.Row.{measured_found, measured_row}

module _ (found : Option Shape) (row pool : List ℕ) where
  pub row_too_long : 16384 < length row → measured_row found row pool ≡ Refused refusal.Limit 0
  unfolding measured_row
  row_too_long h = simp (lt-ltb _ _ h)

  module _ (short : length row ≤ 16384) where
    pub pool_too_long : 65536 < length pool → measured_row found row pool ≡ Refused refusal.Limit 0
    unfolding measured_row
    pool_too_long h = simp (le-ltb _ _ short, lt-ltb _ _ h)

    module _ (small : length pool ≤ 65536) where
      pub row_empty : length row ≡ 0 → measured_row found row pool ≡ Refused refusal.Row 0
      unfolding measured_row
      row_empty h = simp (le-ltb _ _ short, le-ltb _ _ small, eq-eqb _ _ h)

      pub row_shaped : (length row ≡ 0 → ⊥) → measured_row found row pool ≡ measured_found found row pool
      unfolding measured_row
      row_shaped h = simp (le-ltb _ _ short, le-ltb _ _ small, ne_eqb _ _ h)
