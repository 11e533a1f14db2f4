-- What straight code says of an item that it reads once: where it ends, and its words.
use Rattle.std.specs.Prelude.{Option, Some, None, Err, Ok, IsSomeAnd, cond, ℕ, ◌-◌, ◌<◌, List, [], ◌∷◌, ◌≡◌, leb, length, take}
use Rattle.std.proofs.lemmas.List.Edits.{sets}
use Rattle.fields.specs.Leaf.{Leaf}
use Rattle.reading.specs.inside.Try as tried
use Rattle.reading.specs.inside.Tried.{LeftTried, left_tried}
use Rattle.items.specs.declared.item.Item.{Item}

-- its words behind that of the kind
unfoldable pub item_words : Item → List ℕ
item_words r = take (r.words - 1) (r.a ∷ r.b ∷ r.c ∷ r.d ∷ [])

-- the fields of an item end at a place and make words, and it says so; where one is not right, there is no item
abbrev pub Told : Leaf → List ℕ → Option Item → Type 0
Told (Ok span) ws r = IsSomeAnd r (λ x. (0 < x.took) × (x.took ≡ span.took) × (x.words ≡ span.made) × (item_words x ≡ ws))
Told (Err fault) ws r = r ≡ None

-- an item stored behind its kind, where there is one and it has room
unfoldable pub stored : ℕ → Option Item → List ℕ → LeftTried
stored kind (Some r) row = cond (leb r.words (length row)) (left_tried (tried.Item r.words r.took) (sets row 0 (kind ∷ item_words r))) (left_tried None row)
stored kind None row = left_tried None row
