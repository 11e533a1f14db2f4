-- What the routine's own steps say of each other: the frame checked whole, and the rows that it holds.
use Rattle.std.specs.Prelude.{None, Some, Option, Err, Ok, ℕ, zero, suc, ◌+◌, ◌≤◌, ◌<◌, ◌≡◌, Bool, true, false, List, [], ◌∷◌, ◌++◌, length, take, drop}
use Rattle.std.proofs.lemmas.List.Edits.{sets}
use Rattle.numbers.specs.Leb.{unsigned}
use Rattle.fields.specs.Leaf.{Leaf, Fine, Bad}
use Rattle.fields.specs.Words.{word}
use Rattle.sections.specs.declared.Phase.TheVariants.{Closed}
use Rattle.sections.specs.declared.Section.{Section}
use Rattle.sheets.specs.declared.Made.{Made}
use Rattle.sheets.specs.declared.Made.TheVariants as making
use Rattle.sheets.specs.Frame.{Rows, Are, Broken, number, words, rows_from, framed, pool_length}
use Rattle.sections.specs.Section.{known_family, measured_family}
use Rattle.sheets.specs.Sheet.{Left, family_of, tries, joined, written}
use Rattle.fields.specs.Limits.{row_words}

-- the rows from `at` to the end
abbrev pub rest : List ℕ → ℕ → Rows
rest s at = rows_from (length s) s at

abbrev pub whole : Rows → Bool
whole (Are rows) = true
whole Broken = false

-- rows fill the sheet from `at` to its end
pub record Framed (s : List ℕ) (at : ℕ) : Type 0 where
  pub inside : at ≤ length s
  pub holds : whole (rest s at) ≡ true

-- the rows behind the pool, of which there is one
pub record RowsAt (s : List ℕ) (start : ℕ) : Type 0 where
  pub place : start ≡ 5 + pool_length s
  pub some : start < length s
  pub fills : Framed s start
  pub same : framed s ≡ rest s start

abbrev pub Starts : Option ℕ → List ℕ → Type 0
Starts (Some start) s = RowsAt s start
Starts None s = framed s ≡ Broken

-- rows laid out as words: each one's length and words
unfoldable pub laid : List (List ℕ) → List ℕ
laid [] = []
laid (row ∷ rows) = length row ∷ row ++ laid rows

-- the rows in words, at most k of them
unfoldable pub cut : ℕ → List ℕ → List (List ℕ)
cut zero ws = []
cut (suc k) [] = []
cut (suc k) (n ∷ ws) = take n ws ∷ cut k (drop n ws)

abbrev pub rows_in : List ℕ → List (List ℕ)
rows_in ws = cut (length ws) ws

-- words that are rows to the end
abbrev pub InRows : List ℕ → Type 0
InRows ws = ws ≡ laid (rows_in ws)

-- the words of a sheet's rows and the rows' family
pub record SheetWords (family : ℕ) (ws : List ℕ) : Type 0 where
  pub whole : InRows ws
  pub few : length ws ≤ row_words
  pub known : known_family family ≡ true

-- what the routine leaves of them
abbrev pub words_left : ℕ → List ℕ → List ℕ → List ℕ → List ℕ → Left
words_left family ws pool body out =
    written (tries family pool (length body) (rows_in ws) 0 0) family (joined family pool (rows_in ws)) body out

-- the family of the row at `start`
abbrev pub first_family : List ℕ → ℕ → ℕ
first_family s start = family_of (word (words s (start + 4) (number s start)) 0)

-- the row is taken, with room for it where `used` of `room` bytes are
pub record Fits (family : ℕ) (row pool : List ℕ) (room used : ℕ) : Type 0 where
  pub size : ℕ
  pub measures : measured_family family row pool ≡ Ok size
  pub fits : used + size ≤ room

-- all rows are taken
abbrev pub Passed : Leaf → Type 0
Passed (Ok span) = Unit {0}
Passed (Err fault) = ⊥

-- rows that are all taken, and their bytes, of which there are `used`, at the front of what was `old`
pub record AllMade (family : ℕ) (pool : List ℕ) (room : ℕ) (rows : List (List ℕ)) (r used : ℕ) (old new : List ℕ) : Type 0 where
  pub taken : Fine r used ≡ tries family pool room rows 0 0
  pub fits : used ≤ length old
  pub content : new ≡ sets old 0 (joined family pool rows)

-- what is known of rows that were made in a buffer
abbrev pub Makes : Made → ℕ → List ℕ → ℕ → List (List ℕ) → List ℕ → List ℕ → Type 0
Makes (making.All r used) family pool room rows old new = AllMade family pool room rows r used old new
Makes (making.Bad why row) family pool room rows old new = Bad why row ≡ tries family pool room rows 0 0
Makes making.Small family pool room rows old new = Unit {0}

-- the state of a section whose rows are all written
abbrev pub closed : ℕ → ℕ → ℕ → Section
closed family used r = record { family = family; used = used; count = r; phase = Closed }

-- the size of a section of r rows that have so many bytes
abbrev pub section_size : ℕ → ℕ → ℕ
section_size r used = 1 + length (unsigned (length (unsigned r) + used)) + (length (unsigned r) + used)
