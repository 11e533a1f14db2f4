-- Reading an item: what is answered, and what the row then holds.
use Rattle.std.specs.Prelude.{None, Some, Option, Err, Ok, ℕ, cond, List, ◌∷◌, eqb, ltb, leb, length}
use Rattle.std.proofs.lemmas.List.Edits.{sets}
use Rattle.fields.specs.declared.Refusal.TheVariants as refusal
use Rattle.fields.specs.Leaf.{Leaf, Bad}
use Rattle.fields.specs.Read.{Read, Item, Refused}
use Rattle.fields.specs.declared.Shape.{Shape}
use Rattle.reading.specs.Fill.{fill}
use Rattle.reading.specs.Scan.{scan}
use Rattle.fields.specs.Shape.{plan}
use Rattle.fields.specs.View.{view}
use Rattle.fields.specs.Walk.{Side, walk, outs}
use Rattle.fields.specs.Answers.{LeftRow, left_row}
use Rattle.fields.specs.Limits.{row_words, input_bytes}

-- from bytes to words; what a field says is what its words say beside the input
abbrev pub reader : ℕ → ℕ → List ℕ → Side
reader lead g input = record { look = scan lead g; tell = λ f at bs. view input f (fill g f at bs); make = fill g }

-- the fields of an item, behind the word of its kind: the bytes they take and the words they make, or the leftmost fault; and the words
abbrev pub scanned : ℕ → ℕ → Shape → List ℕ → Leaf
scanned lead g s input = walk (reader lead g input) (plan s) input 0 1

abbrev pub filled : ℕ → ℕ → ℕ → Shape → List ℕ → List ℕ
filled kind lead g s input = kind ∷ outs (reader lead g input) (plan s) 0 input

-- ROOM only for an item otherwise whole, one of more than 16,384 words included
unfoldable pub roomed : Leaf → List ℕ → List ℕ → LeftRow
roomed (Err fault) ws row = left_row (Refused fault.why fault.value) row
roomed (Ok span) ws row =
    cond (ltb row_words span.made) (left_row (Refused refusal.Room span.made) row)
    (cond (leb span.made (length row)) (left_row (Item span.made span.took) (sets row 0 ws)) (left_row (Refused refusal.Room span.made) row))

-- LIMIT for an input too long, and for a grade that is none of the three
abbrev pub limited : ℕ → List ℕ → List ℕ → LeftRow → LeftRow
limited g input row l =
    cond (ltb input_bytes (length input)) (left_row (Refused refusal.Limit 0) row)
    (cond (ltb g 1) (left_row (Refused refusal.Limit 0) row) (cond (ltb 3 g) (left_row (Refused refusal.Limit 0) row) l))

-- an item of a shape; CODE where no kind begins with the first byte
abbrev pub read_found : Option Shape → ℕ → ℕ → ℕ → List ℕ → List ℕ → LeftRow
read_found (Some s) kind lead g input row = roomed (scanned lead g s input) (filled kind lead g s input) row
read_found None kind lead g input row = left_row (Refused refusal.Code 0) row

-- an item of a kind that was found by its first byte: LIMIT, then an empty input, then what its shape says
unfoldable pub read_item : Option Shape → ℕ → ℕ → ℕ → List ℕ → List ℕ → LeftRow
read_item found kind lead g input row =
    limited g input row (cond (eqb (length input) 0) (left_row (Refused refusal.Cut 0) row) (read_found found kind lead g input row))

-- what is wrong with an item: LIMIT, then an empty input, then what its shape says; nothing where it is whole
abbrev pub scanned_found : Option Shape → ℕ → ℕ → List ℕ → Leaf
scanned_found (Some s) lead g input = scanned lead g s input
scanned_found None lead g input = Bad refusal.Code 0

unfoldable pub scanned_item : Option Shape → ℕ → ℕ → List ℕ → Leaf
scanned_item found lead g input =
    cond (ltb input_bytes (length input)) (Bad refusal.Limit 0)
    (cond (ltb g 1) (Bad refusal.Limit 0)
    (cond (ltb 3 g) (Bad refusal.Limit 0) (cond (eqb (length input) 0) (Bad refusal.Cut 0) (scanned_found found lead g input))))

-- the refusal of an item that is not read: what is wrong with it, or ROOM where it is whole
abbrev pub refusal_of : Leaf → Read
refusal_of (Ok span) = Refused refusal.Room span.made
refusal_of (Err fault) = Refused fault.why fault.value
