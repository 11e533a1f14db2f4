-- What a call answers and leaves: document 01's number and value of each answer, and the buffer or row.
use Rattle.std.specs.Prelude.{Ok, Err, List, ℕ, ◌+◌, ◌*◌, ◌/◌, ◌%◌}
use Rattle.fields.specs.declared.Offset.{Offset}
use Rattle.fields.specs.declared.Refusal.{Refusal}
use Rattle.fields.specs.declared.Refusal.TheVariants as refusal
use Rattle.fields.specs.Answer.{Answer, Refused}
use Rattle.fields.specs.Read.{Read}

-- document 01's number and value of an answer
unfoldable pub number_of_refusal : Refusal → ℕ
number_of_refusal refusal.Limit = 1
number_of_refusal refusal.Kind = 2
number_of_refusal refusal.Row = 3
number_of_refusal refusal.Tag = 4
number_of_refusal refusal.Range = 5
number_of_refusal (refusal.Text offset) = 6
number_of_refusal refusal.TooBig = 7
number_of_refusal refusal.Room = 8
number_of_refusal refusal.Order = 9
number_of_refusal refusal.Count = 10
number_of_refusal refusal.Cut = 11
number_of_refusal refusal.Code = 12
number_of_refusal refusal.Number = 13
number_of_refusal refusal.Newer = 14
number_of_refusal refusal.Sheet = 15
number_of_refusal refusal.Frame = 16

-- the offset of a byte in a name, by its halves, and the byte at an offset
abbrev pub offset_of : ℕ → Offset
offset_of byte = record { high = byte / 65536; low = byte % 65536 }

abbrev pub byte_at : Offset → ℕ
byte_at offset = offset.high * 65536 + offset.low

-- the second number of a refusal: the byte at which a name stops, and 0 of every other
unfoldable pub byte_of_refusal : Refusal → ℕ
byte_of_refusal refusal.Limit = 0
byte_of_refusal refusal.Kind = 0
byte_of_refusal refusal.Row = 0
byte_of_refusal refusal.Tag = 0
byte_of_refusal refusal.Range = 0
byte_of_refusal (refusal.Text offset) = byte_at offset
byte_of_refusal refusal.TooBig = 0
byte_of_refusal refusal.Room = 0
byte_of_refusal refusal.Order = 0
byte_of_refusal refusal.Count = 0
byte_of_refusal refusal.Cut = 0
byte_of_refusal refusal.Code = 0
byte_of_refusal refusal.Number = 0
byte_of_refusal refusal.Newer = 0
byte_of_refusal refusal.Sheet = 0
byte_of_refusal refusal.Frame = 0

unfoldable pub number_of : Answer → ℕ
number_of (Ok n) = 0
number_of (Err fault) = number_of_refusal fault.why

unfoldable pub value_of : Answer → ℕ
value_of (Ok n) = n
value_of (Err fault) = fault.value

unfoldable pub byte_of : Answer → ℕ
byte_of (Ok n) = 0
byte_of (Err fault) = byte_of_refusal fault.why

-- what a call leaves: its answer, and the buffer
pub record Left : Type 0 where
  pub answer : Answer
  pub buffer : List ℕ

abbrev pub left : Answer → List ℕ → Left
left r out = record { answer = r; buffer = out }

-- a refusal changes nothing
abbrev pub refuse : Refusal → ℕ → List ℕ → Left
refuse w n out = left (Refused w n) out

-- what a reading call leaves: its answer, and the row
pub record LeftRow : Type 0 where
  pub answer : Read
  pub row : List ℕ

abbrev pub left_row : Read → List ℕ → LeftRow
left_row r row = record { answer = r; row = row }
