-- The first byte of a canonical, and the byte 00 that some have behind it: what stands from a place on.
use Rattle.std.specs.Prelude.{Option, Some, None, Bool, false, cond, ℕ, List, ◌∷◌, ◌≡◌, eqb, leb, length, drop}
use Rattle.fields.specs.declared.Field.{Field}
use Rattle.fields.specs.declared.Field.TheVariants as field
use Rattle.fields.specs.inside.Run.{along, makes}
use Rattle.reading.specs.Fill.{fill}
use Rattle.reading.specs.Scan.{byte, scan}

-- behind the lead b and the field z stand the fields from `from` on
pub record Begun (lead g b : ℕ) (z : Field) (input : List ℕ) (from : ℕ) : Type 0 where
  pub scan_is : (fs : List Field) → along (scan lead g) (field.Fixed b ∷ z ∷ fs) input 0 1 ≡ along (scan lead g) fs (drop from input) from 1
  pub fill_is : (fs : List Field)
      → makes (scan lead g) (fill g) (field.Fixed b ∷ z ∷ fs) 0 input ≡ makes (scan lead g) (fill g) fs from (drop from input)

-- a byte 00 behind the first: the place past it, if there is one
unfoldable pub has_zero : List ℕ → Bool
has_zero input = cond (leb (length input) 1) false (eqb (byte input 1) 0)

unfoldable pub behind_zero : List ℕ → Option ℕ
behind_zero input = cond (has_zero input) (Some 2) None
