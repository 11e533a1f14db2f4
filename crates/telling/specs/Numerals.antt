-- The numbers of a line, in decimal, one after each space.
use Rattle.std.specs.Prelude.{ℕ, ◌+◌, ◌*◌, ◌%◌, ◌^◌, cond, List, [], ◌∷◌, map, length, ◌==◌}
use Rattle.std.proofs.lemmas.List.Edits.{sets}

-- a number with one digit more, in 64 bits; the last four bits of an ASCII digit are its value
unfoldable pub with_digit : ℕ → ℕ → ℕ
with_digit n digit = (n * 10 + digit % 16) % 2 ^ 64

-- the number whose digits stand at the front, up to a space, behind digits that made n
unfoldable pub number_from : ℕ → List ℕ → ℕ
number_from n [] = n
number_from n (b ∷ s) = cond (b == 32) n (number_from (with_digit n b) s)

-- the numbers of a line, and the same as words of 32 bits
unfoldable pub numbers_in : List ℕ → List ℕ
numbers_in [] = []
numbers_in (b ∷ s) = cond (b == 32) (number_from 0 s ∷ numbers_in s) (numbers_in s)

abbrev pub words_in : List ℕ → List ℕ
words_in line = map (λ n. n % 2 ^ 32) (numbers_in line)

-- what putting words into a row leaves: how many there are, and the row
pub record Put : Type 0 where
  pub count : ℕ
  pub row : List ℕ

abbrev pub put : ℕ → List ℕ → Put
put n row = record { count = n; row = row }

-- all of them from the row's front on, as far as it has room
abbrev pub put_all : List ℕ → List ℕ → Put
put_all words row = put (length words) (sets row 0 words)
