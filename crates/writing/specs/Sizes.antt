-- How many bytes a field has, and whether they have room.
use Rattle.std.specs.Prelude.{ℕ, ◌+◌, Bool, false, Option, Some, None, Err, cond, List, ltb, leb, length}
use Rattle.fields.specs.declared.Field.{Field}
use Rattle.fields.specs.Flaw.{Flaw, Right}
use Rattle.writing.specs.Binary.{bytes}
use Rattle.writing.specs.Judge.{flaw}

-- there are bytes, and they end within the room
unfoldable pub within : ℕ → ℕ → ℕ → Bool
within size at room = cond (ltb 0 size) (leb (at + size) room) false

-- how many bytes a field has, where it is right
abbrev pub size_if : Flaw → ℕ → Option ℕ
size_if Right n = Some n
size_if (Err fault) n = None

unfoldable pub right_size : List ℕ → Field → List ℕ → Option ℕ
right_size pool f ws = size_if (flaw pool f ws) (length (bytes pool f ws))
