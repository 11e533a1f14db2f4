-- An item has few words.
use Rattle.std.specs.Prelude.{Err, Ok, ◌≤◌}
use Rattle.fields.specs.Read.{Read}
use Rattle.fields.specs.Limits.{row_words}

-- an item has at most 16,384 words
abbrev pub Few : Read → Type 0
Few (Ok item) = item.words ≤ row_words
Few (Err fault) = Unit {0}
