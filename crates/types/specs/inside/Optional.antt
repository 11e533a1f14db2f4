-- What straight code says of an O.
use Rattle.std.specs.Prelude.{cond, ℕ, ◌+◌, ◌≡◌, [], ◌∷◌, eqb, length}
use Rattle.fields.specs.Flaw.{Right}
use Rattle.writing.specs.Binary.{valtype}
use Rattle.writing.specs.Judge.{optional_value}

-- it is right and has r bytes, `absent` where there is no V
pub record OptionalKnown (absent tag x r : ℕ) : Type 0 where
  pub right : optional_value (tag ∷ x ∷ []) 0 ≡ Right
  pub size : r ≡ cond (eqb tag 2) absent (1 + length (valtype tag x))
