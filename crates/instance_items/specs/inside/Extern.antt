-- The words of an extern name that stands at a place of the input: its starts count from the front of the input.
use Rattle.std.specs.Prelude.{ℕ, ◌+◌, ◌<◌, cond, List, [], ◌∷◌, ◌++◌, eqb}
use Rattle.items.specs.declared.import.Slot.{Slot}
use Rattle.items.specs.declared.import.Extern.{Extern}

unfoldable pub moved_start : ℕ → Slot → ℕ
moved_start at s = cond (eqb s.present 0) 0 (at + s.start)

abbrev pub moved_slot : ℕ → Slot → List ℕ
moved_slot at s = s.present ∷ moved_start at s ∷ s.size ∷ []

abbrev pub moved_extern : ℕ → Extern → List ℕ
moved_extern at e = (at + e.start) ∷ e.size ∷ (moved_slot at e.implements ++ (moved_slot at e.suffix ++ moved_slot at e.id))

-- none of its starts is past a word
abbrev pub Near : ℕ → Extern → Type 0
Near at e =
    (at + e.start < 4294967296) × (at + e.implements.start < 4294967296) × (at + e.suffix.start < 4294967296)
    × (at + e.id.start < 4294967296)
