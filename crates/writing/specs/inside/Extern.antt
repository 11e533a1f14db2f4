-- What straight code says of an extern name.
use Rattle.std.specs.Prelude.{Err, ℕ, ◌+◌, ◌≤◌, ◌≡◌, Bool, true, false, List, length}
use Rattle.fields.specs.Flaw.{Flaw, Right}
use Rattle.fields.specs.Words.{word}

-- the words of the options together: 0 where none is present and no other word is used
abbrev pub option_words : List ℕ → ℕ
option_words ws = word ws 2 + word ws 3 + word ws 4 + (word ws 5 + word ws 6 + word ws 7) + (word ws 8 + word ws 9 + word ws 10)

-- nothing is wrong
abbrev pub is_right : Flaw → Bool
is_right Right = true
is_right (Err fault) = false

-- an option that is present has a name that ends within the pool
abbrev pub SlotInside : List ℕ → List ℕ → ℕ → Type 0
SlotInside pool ws i = (word ws i ≡ 0 → ⊥) → word ws (i + 1) + word ws (i + 2) ≤ length pool

-- every name ends within the pool
pub record ExternInside (pool ws : List ℕ) : Type 0 where
  pub itself : word ws 0 + word ws 1 ≤ length pool
  pub implements : SlotInside pool ws 2
  pub suffix : SlotInside pool ws 5
  pub id : SlotInside pool ws 8
