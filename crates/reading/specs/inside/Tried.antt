-- What a straight reader leaves: an item whole in the row; or, where there is none that has room, the row as it was.
use Rattle.std.specs.Prelude.{None, Some, Option, Err, Ok, ℕ, cond, List, length}
use Rattle.fields.specs.declared.Shape.{Shape}
use Rattle.std.proofs.lemmas.List.Edits.{sets}
use Rattle.fields.specs.Leaf.{Leaf}
use Rattle.reading.specs.Read.{scanned, filled}
use Rattle.reading.specs.inside.Try.{Tried, Item}
use Rattle.reading.specs.Seen.{roomy}

pub record LeftTried : Type 0 where
  pub answer : Tried
  pub row : List ℕ

abbrev pub left_tried : Tried → List ℕ → LeftTried
left_tried r row = record { answer = r; row = row }

-- an item whose fields come to a leaf and whose words are ws
unfoldable pub tried : Leaf → List ℕ → List ℕ → LeftTried
tried (Err fault) ws row = left_tried None row
tried (Ok span) ws row = cond (roomy span.made (length row)) (left_tried (Item span.made span.took) (sets row 0 ws)) (left_tried None row)

-- an item of a shape
abbrev pub tried_found : Option Shape → ℕ → ℕ → ℕ → List ℕ → List ℕ → LeftTried
tried_found (Some s) kind lead g input row = tried (scanned lead g s input) (filled kind lead g s input) row
tried_found None kind lead g input row = left_tried None row
