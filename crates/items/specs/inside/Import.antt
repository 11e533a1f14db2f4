-- What straight code says of the fields of an import that it reads once: where each ends, and its words.
use Rattle.std.specs.Prelude.{Err, Ok, Option, Some, None, IsSomeAnd, option_map, ℕ, ◌+◌, ◌<◌, List, ◌∷◌, ◌++◌, ◌≡◌, drop}
use Rattle.numbers.specs.declared.leb.Number.{Number}
use Rattle.numbers.specs.Leb.{take_unsigned}
use Rattle.numbers.specs.Seen.{seen}
use Rattle.fields.specs.declared.Field.TheVariants as field
use Rattle.fields.specs.Leaf.{Leaf, Fine}
use Rattle.fields.specs.Words.{word}
use Rattle.reading.specs.Fill.{fill, fill_extern, fill_slot}
use Rattle.reading.specs.Scan.{scan, scan_extern, slot_scan, end_scan, onward}
use Rattle.reading.specs.declared.Pair.{Pair}
use Rattle.items.specs.declared.import.Three.{Three}
use Rattle.items.specs.declared.import.Slot.{Slot}
use Rattle.items.specs.declared.import.Extern.{Extern}
use Rattle.items.specs.ReadExtern.{slot_words, Says}

-- a reference, as a field of three words
abbrev pub three_is : ℕ → ℕ → ℕ → ℕ → Three
three_is t a b c = record { took = t; a = a; b = b; c = c }

unfoldable pub three_of : Leaf → List ℕ → Option Three
three_of (Ok span) ws = Some (three_is span.took (word ws 0) (word ws 1) (word ws 2))
three_of (Err fault) ws = None

abbrev pub three : ℕ → List ℕ → Option Three
three g bs = three_of (scan 1 g field.Reference bs) (fill g field.Reference 0 bs)

-- a sort and, behind k bytes, an index
abbrev pub indexed_is : ℕ → ℕ → Number → Three
indexed_is sort k n = three_is (k + n.took) sort n.value 0

abbrev pub indexed_three : ℕ → ℕ → List ℕ → Option Three
indexed_three sort k bs = option_map (indexed_is sort k) (seen (take_unsigned (drop k bs)))

abbrev pub no_slot : ℕ → ℕ → Slot
no_slot next due = record { next = next; due = due; present = 0; start = 0; size = 0 }

-- an option ends at a place, with so many still to come, and says so; where it is not right, there is none
abbrev pub SlotTold : Leaf → List ℕ → Option Slot → Type 0
SlotTold (Ok span) ws r =
    IsSomeAnd r (λ s. (0 < s.next) × (s.next ≡ span.took) × (s.due ≡ span.made) × (slot_words s ≡ ws))
SlotTold (Err fault) ws r = r ≡ None

-- the same of an extern name
abbrev pub ExternTold : ℕ → List ℕ → Option Extern → Type 0
ExternTold g input r = Says (scan_extern g input) (fill_extern g 0 input) r

-- the options at `at`, `count` of them, behind a name that begins behind the first byte
abbrev pub OptionsTold : Pair → List ℕ → ℕ → ℕ → Option Extern → Type 0
OptionsTold n input at count r =
    Says (onward (onward (onward (slot_scan 0 input at count) (slot_scan 1 input)) (slot_scan 2 input)) (end_scan input))
    ((1 + n.a) ∷ n.b ∷ (fill_slot 0 0 input (Fine at count) ++ (fill_slot 1 0 input (slot_scan 0 input at count)
    ++ fill_slot 2 0 input (onward (slot_scan 0 input at count) (slot_scan 1 input)))))
    r
