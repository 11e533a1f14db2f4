-- What a step of straight reading says of a field: how many bytes it takes and its words, if it is right.
use Rattle.std.specs.Prelude.{Err, Ok, Option, Some, None, ℕ, Bool, false, cond, List, ltb, leb, length}
use Rattle.numbers.specs.declared.leb.Number.{Number}
use Rattle.numbers.specs.Seen.{number}
use Rattle.fields.specs.declared.Field.{Field}
use Rattle.fields.specs.Leaf.{Leaf}
use Rattle.fields.specs.Words.{word}
use Rattle.reading.specs.Fill.{fill}
use Rattle.reading.specs.Scan.{scan}
use Rattle.reading.specs.declared.Pair.{Pair}
use Rattle.fields.specs.Limits.{row_words, input_bytes}

-- a field of one word
unfoldable pub one_of : Leaf → List ℕ → Option Number
one_of (Ok span) ws = Some (number (word ws 0) span.took)
one_of (Err fault) ws = None

abbrev pub one : ℕ → Field → List ℕ → Option Number
one g f bs = one_of (scan 1 g f bs) (fill g f 0 bs)

-- a field of two words
abbrev pub pair_is : ℕ → ℕ → ℕ → Pair
pair_is t a b = record { took = t; a = a; b = b }

unfoldable pub pair_of : Leaf → List ℕ → Option Pair
pair_of (Ok span) ws = Some (pair_is span.took (word ws 0) (word ws 1))
pair_of (Err fault) ws = None

abbrev pub pair : ℕ → Field → List ℕ → Option Pair
pair g f bs = pair_of (scan 1 g f bs) (fill g f 0 bs)

-- the input and the grade pass no limit, the grade is not below that of the lead, and there is an input
unfoldable pub within : ℕ → ℕ → List ℕ → Bool
within lead g input =
    cond (ltb input_bytes (length input)) false
    (cond (ltb g 1) false (cond (ltb 3 g) false (cond (ltb g lead) false (ltb 0 (length input)))))

-- an item has at most 16,384 words, and they have room
unfoldable pub roomy : ℕ → ℕ → Bool
roomy q n = cond (ltb row_words q) false (leb q n)
