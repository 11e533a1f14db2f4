-- Writing a row of a shape: what is answered, and what the buffer then holds.
use Rattle.std.specs.Prelude.{Err, Ok, cond, List, ℕ, ◌+◌, eqb, ltb, leb, length, drop}
use Rattle.std.proofs.lemmas.List.Edits.{sets}
use Rattle.fields.specs.declared.Field.{Field}
use Rattle.fields.specs.declared.Refusal.TheVariants as refusal
use Rattle.fields.specs.Leaf.{Leaf}
use Rattle.fields.specs.Answer.{Answer, Refused}
use Rattle.fields.specs.declared.Shape.{Shape}
use Rattle.writing.specs.Binary.{bytes}
use Rattle.writing.specs.Judge.{judge}
use Rattle.fields.specs.View.{view}
use Rattle.fields.specs.Walk.{Side, walk, outs}
use Rattle.fields.specs.Shape.{plan, row_width}
use Rattle.fields.specs.Answers.{Left, left, refuse}
use Rattle.fields.specs.Limits.{row_words, pool_bytes}

-- from words to bytes, which do not depend on the place
abbrev pub bytes_at : List ℕ → Field → ℕ → List ℕ → List ℕ
bytes_at pool f at ws = bytes pool f ws

abbrev pub writer : List ℕ → Side
writer pool = record { look = judge pool; tell = λ f at ws. view pool f ws; make = bytes_at pool }

-- the fields of a row from `start` on: the words they take and the bytes they make, or the first fault; and the bytes
abbrev pub judged : Shape → List ℕ → List ℕ → ℕ → Leaf
judged s pool row start = walk (writer pool) (plan s) (drop start row) start 0

abbrev pub written : Shape → List ℕ → List ℕ → ℕ → List ℕ
written s pool row start = outs (writer pool) (plan s) start (drop start row)

-- the size of what was judged
unfoldable pub sized : Leaf → Answer
sized (Ok span) = Ok span.made
sized (Err fault) = Refused fault.why fault.value

-- LIMIT, then the row's length, then the fields from left to right
unfoldable pub measured : Shape → List ℕ → ℕ → List ℕ → Answer
measured s row start pool =
    cond (ltb row_words (length row)) (Refused refusal.Limit 0)
    (cond (ltb pool_bytes (length pool)) (Refused refusal.Limit 0)
    (cond (eqb (row_width s row start) (length row)) (sized (judged s pool row start)) (Refused refusal.Row 0)))

-- bytes of a size that was found, stored at a place: ROOM comes last
unfoldable pub stored : Answer → List ℕ → List ℕ → ℕ → Left
stored (Ok m) bs out at = cond (leb (at + m) (length out)) (left (Ok m) (sets out at bs)) (refuse refusal.Room m out)
stored (Err fault) bs out at = refuse fault.why fault.value out

unfoldable pub write_shape : Shape → List ℕ → ℕ → List ℕ → List ℕ → ℕ → Left
write_shape s row start pool out at = stored (measured s row start pool) (written s pool row start) out at
