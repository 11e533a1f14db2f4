-- Reading an extern name by value: where it ends, and its words, whose starts are counted from its own first byte.
use Rattle.std.specs.Prelude.{Err, Ok, Option, Some, None, IsSomeAnd, ℕ, ◌<◌, cond, List, [], ◌∷◌, ◌++◌, ◌≡◌}
use Rattle.fields.specs.Leaf.{Leaf, Bad}
use Rattle.fields.specs.declared.Refusal.TheVariants.{Limit}
use Rattle.reading.specs.Fill.{fill_extern}
use Rattle.reading.specs.Scan.{scan_extern}
use Rattle.reading.specs.Seen.{within}
use Rattle.items.specs.declared.import.Slot.{Slot}
use Rattle.items.specs.declared.import.Extern.{Extern}

-- the words of an option, and of an extern name
abbrev pub slot_words : Slot → List ℕ
slot_words s = s.present ∷ s.start ∷ s.size ∷ []

abbrev pub extern_words : Extern → List ℕ
extern_words e = e.start ∷ e.size ∷ (slot_words e.implements ++ (slot_words e.suffix ++ slot_words e.id))

-- an extern name ends at a place, and says so; where it is not right, there is none
abbrev pub Says : Leaf → List ℕ → Option Extern → Type 0
Says (Ok span) ws r = IsSomeAnd r (λ e. (0 < e.took) × (e.took ≡ span.took) × (extern_words e ≡ ws))
Says (Err fault) ws r = r ≡ None

-- of an input and a grade that pass no limit
unfoldable pub extern_within : ℕ → List ℕ → Leaf
extern_within g input = cond (within 1 g input) (scan_extern g input) (Bad Limit 0)

-- how many bytes it takes and its words, if it is right
abbrev pub value_of_extern : Extern → List ℕ
value_of_extern r = r.took ∷ extern_words r

abbrev pub value_of : Leaf → List ℕ → Option (List ℕ)
value_of (Ok span) ws = Some (span.took ∷ ws)
value_of (Err fault) ws = None

unfoldable pub read_extern : ℕ → List ℕ → Option (List ℕ)
read_extern g input = value_of (extern_within g input) (fill_extern g 0 input)

abbrev pub ExternRead : ℕ → List ℕ → Option Extern → Type 0
ExternRead g input r = Says (extern_within g input) (fill_extern g 0 input) r
