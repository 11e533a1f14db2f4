-- What storing bytes leaves.
use Rattle.std.specs.Prelude.{◌≡◌, List, ℕ, ◌+◌, length}
use Rattle.std.proofs.lemmas.List.Edits.{sets}

-- `new` is `old` with the bytes stored from `at` on, and `next` is the place past them
pub record Wrote (old : List ℕ) (at : ℕ) (bs : List ℕ) (next : ℕ) (new : List ℕ) : Type 0 where
  pub place : next ≡ at + length bs
  pub content : new ≡ sets old at bs
