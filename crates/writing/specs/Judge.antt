-- Which words of a field are right, and the first that is not.
use Rattle.std.specs.Prelude.{Err, ℕ, ◌+◌, cond, List, eqb, ltb, leb, length}
use Rattle.numbers.specs.Text.{text, stop}
use Rattle.fields.specs.declared.Field.{Field}
use Rattle.fields.specs.declared.Field.TheVariants as field
use Rattle.fields.specs.declared.Refusal.TheVariants.{Tag, Range, Text}
use Rattle.fields.specs.Flaw.{Flaw, Right, Wrong}
use Rattle.fields.specs.Leaf.{Leaf, Fine, Bad}
use Rattle.fields.specs.Answers.{offset_of}
use Rattle.fields.specs.Words.{word, chars, indexed, wide}
use Rattle.writing.specs.Binary.{bytes}

-- the first of two
abbrev pub then : Flaw → Flaw → Flaw
then Right y = y
then (Err fault) y = Wrong fault.why fault.value

-- the word at i is below n; it is 0, being unused
abbrev pub below : ℕ → List ℕ → ℕ → Flaw
below n ws i = cond (ltb (word ws i) n) Right (Wrong Tag i)

abbrev pub unused : List ℕ → ℕ → Flaw
unused ws i = cond (eqb (word ws i) 0) Right (Wrong Tag i)

-- V at i: (0, p) with p in 0..13, or (1, index)
unfoldable pub value : List ℕ → ℕ → Flaw
value ws i = cond (eqb (word ws i) 0) (below 14 ws (i + 1)) (cond (eqb (word ws i) 1) Right (Wrong Tag i))

-- O at i: a V, or (2, 0)
unfoldable pub optional_value : List ℕ → ℕ → Flaw
optional_value ws i = cond (eqb (word ws i) 2) (unused ws (i + 1)) (value ws i)

-- N at i: it ends within the pool, and is UTF-8
unfoldable pub named : List ℕ → List ℕ → ℕ → Flaw
named pool ws i =
    cond (leb (word ws i + word ws (i + 1)) (length pool))
    (cond (text (chars pool (word ws i) (word ws (i + 1)))) Right (Wrong (Text (offset_of (stop (chars pool (word ws i) (word ws (i + 1)))))) i)) (Wrong Range i)

-- (present, index)
unfoldable pub optional_index : List ℕ → Flaw
optional_index ws = cond (eqb (word ws 0) 0) (unused ws 1) (cond (eqb (word ws 0) 1) Right (Wrong Tag 0))

-- (k, x), k = 0..9, and x is 0 where k has no index
unfoldable pub choice : List ℕ → Flaw
choice ws = cond (ltb (word ws 0) 10) (cond (indexed (word ws 0)) Right (unused ws 1)) (Wrong Tag 0)

-- (present, N) at i
unfoldable pub optional_name : List ℕ → List ℕ → ℕ → Flaw
optional_name pool ws i =
    cond (eqb (word ws i) 0) (then (unused ws (i + 1)) (unused ws (i + 2)))
    (cond (eqb (word ws i) 1) (named pool ws (i + 1)) (Wrong Tag i))

-- (0,i,0) (1,i,0) (2,V) (3,0,i) (3,1,0) (4,i,0) (5,i,0)
unfoldable pub reference : List ℕ → Flaw
reference ws =
    cond (eqb (word ws 0) 2) (value ws 1)
    (cond (eqb (word ws 0) 3) (cond (eqb (word ws 1) 0) Right (cond (eqb (word ws 1) 1) (unused ws 2) (Wrong Tag 1)))
    (cond (ltb (word ws 0) 6) (unused ws 2) (Wrong Tag 0)))

unfoldable pub flaw : List ℕ → Field → List ℕ → Flaw
flaw pool field.Nothing ws = Right
flaw pool (field.Fixed b) ws = Right
flaw pool field.Primitive ws = below 14 ws 0
flaw pool field.Value ws = value ws 0
flaw pool field.Optional ws = optional_value ws 0
flaw pool field.OptionalThenZero ws = optional_value ws 0
flaw pool field.Result ws = optional_value ws 0
flaw pool field.Name ws = named pool ws 0
flaw pool field.Index ws = Right
flaw pool field.Async ws = below 2 ws 0
flaw pool field.Flag ws = below 2 ws 0
flaw pool field.Rep ws = below 2 ws 0
flaw pool field.OptionalIndex ws = optional_index ws
flaw pool field.Choice ws = choice ws
flaw pool field.ExternName ws =
    then (named pool ws 0) (then (optional_name pool ws 2) (then (optional_name pool ws 5) (optional_name pool ws 8)))
flaw pool field.Reference ws = reference ws
flaw pool field.Argument ws = Right
flaw pool field.CoreSortIndex ws = below 5 ws 0
flaw pool field.SortIndex ws = below 6 ws 0

-- what a flaw leaves of an answer
abbrev pub unless : Flaw → Leaf → Leaf
unless Right l = l
unless (Err fault) l = Bad fault.why fault.value

-- a field that is right takes its words and makes its bytes
unfoldable pub judge : List ℕ → Field → List ℕ → Leaf
judge pool f ws = unless (flaw pool f ws) (Fine (wide f) (length (bytes pool f ws)))
