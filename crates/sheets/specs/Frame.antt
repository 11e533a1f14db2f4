-- The framing of a sheet: version 01, pool length, pool, then rows of a word count and words; every number is four bytes, big-endian.
use Rattle.std.specs.Prelude.{ℕ, zero, suc, ◌+◌, ◌*◌, cond, List, [], ◌∷◌, eqb, ltb, length, get_or, take, drop}

-- the number at `at`
unfoldable pub number : List ℕ → ℕ → ℕ
number s at = ((get_or s at 0 * 256 + get_or s (at + 1) 0) * 256 + get_or s (at + 2) 0) * 256 + get_or s (at + 3) 0

-- n words from `at` on
unfoldable pub words : List ℕ → ℕ → ℕ → List ℕ
words s at zero = []
words s at (suc n) = number s at ∷ words s (at + 4) n

-- rows, or a frame that is broken
pub data Rows : Type 0 where
  Are : List (List ℕ) → Rows
  Broken : Rows

abbrev pub behind : List ℕ → Rows → Rows
behind row (Are rows) = Are (row ∷ rows)
behind row Broken = Broken

-- the rows from `at` to the end of the sheet, at most k of them
unfoldable pub rows_from : ℕ → List ℕ → ℕ → Rows
rows_from zero s at = cond (eqb at (length s)) (Are []) Broken
rows_from (suc k) s at =
    cond (eqb at (length s)) (Are [])
    (cond (ltb (length s) (at + 4)) Broken
    (cond (ltb (length s) (at + 4 + 4 * number s at)) Broken
    (behind (words s (at + 4) (number s at)) (rows_from k s (at + 4 + 4 * number s at)))))

-- there is a row
abbrev pub some : Rows → Rows
some Broken = Broken
some (Are []) = Broken
some (Are (row ∷ rows)) = Are (row ∷ rows)

-- the pool's length, and the pool
abbrev pub pool_length : List ℕ → ℕ
pool_length s = number s 1

abbrev pub pool_of : List ℕ → List ℕ
pool_of s = take (pool_length s) (drop 5 s)

-- the whole frame
unfoldable pub framed : List ℕ → Rows
framed s =
    cond (ltb (length s) 5) Broken
    (cond (eqb (get_or s 0 0) 1)
    (cond (ltb (length s) (5 + pool_length s)) Broken (some (rows_from (length s) s (5 + pool_length s)))) Broken)

-- the rows of a frame that is whole
abbrev pub listed : Rows → List (List ℕ)
listed (Are rows) = rows
listed Broken = []
