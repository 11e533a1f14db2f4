-- How a line begins, and where a byte stands in it.
use Rattle.std.specs.Prelude.{ℕ, suc, ◌+◌, Bool, true, false, cond, List, [], ◌∷◌, drop, ◌==◌}

-- the line begins with the word
unfoldable pub starts : List ℕ → List ℕ → Bool
starts line [] = true
starts [] (w ∷ word) = false
starts (b ∷ line) (w ∷ word) = cond (b == w) (starts line word) false

-- how many bytes stand before the first that is `byte`, or before the end
unfoldable pub until : ℕ → List ℕ → ℕ
until byte [] = 0
until byte (b ∷ s) = cond (b == byte) 0 (suc (until byte s))

-- the place of that byte, from a place on
abbrev pub next_of : List ℕ → ℕ → ℕ → ℕ
next_of s from byte = from + until byte (drop from s)
