-- The two words at a place of the row, as the first of the row from there on.
use Prim.Native.Nat.{ℕ, ◌+◌}
use native.Mathlib.Nat.{add-zero}
use mathlib.Core.Path.{◌≡◌, sym, ap, ◌∙◌}
use mathlib.Core.List.{List}
use lib.ListN.{drop}
use lib.Seq.{get_or-drop}
use Rattle.fields.specs.Words.{word}

-- the two words at `at`, and as the first of the row from there on
module _ (row : List ℕ) (at : ℕ) where
  pub first_word : word row at ≡ word (drop at row) 0
  first_word = sym (get_or-drop at row 0 0 ∙ ap (λ k. word row k) (add-zero at))

  pub second_word : word row (at + 1) ≡ word (drop at row) 1
  second_word = sym (get_or-drop at row 1 0)
