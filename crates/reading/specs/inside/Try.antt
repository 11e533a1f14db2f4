-- What a straight reader comes to: the item that stands in the row, so many words and so many bytes taken; or none that has room.
use Rattle.std.specs.Prelude.{ℕ, Option, Some}
use Rattle.fields.specs.declared.Extent.{Extent}

abbrev pub Tried : Type 0
Tried = Option Extent

abbrev pub Item : ℕ → ℕ → Tried
Item m t = Some (record { words = m; took = t })
