-- The two shapes of instance rows, and what stands before their elements.
use Rattle.std.specs.Prelude.{◌≡◌, ℕ, ◌+◌, ◌*◌, List, ◌∷◌, ◌++◌, length}
use Rattle.numbers.specs.Leb.{unsigned}
use Rattle.fields.specs.declared.Field.{Field}
use Rattle.fields.specs.declared.Field.TheVariants as field
use Rattle.fields.specs.declared.Shape.{Shape}
use Rattle.fields.specs.Words.{word}
use Rattle.fields.specs.Table.{many_of}

-- 00, an index, a count and as many arguments: a name and a field; 01, a count and as many items: two fields
abbrev pub instantiate_shape : Field → Shape
instantiate_shape d = many_of (field.Fixed 0x00) field.Nothing field.Index field.Name d field.Nothing

abbrev pub export_items_shape : Field → Field → Shape
export_items_shape c d = many_of (field.Fixed 0x01) field.Nothing field.Nothing c d field.Nothing

-- the bytes before the elements
abbrev pub instantiate_head : List ℕ → List ℕ
instantiate_head row = 0x00 ∷ (unsigned (word row 1) ++ unsigned (word row 2))

abbrev pub export_items_head : List ℕ → List ℕ
export_items_head row = 0x01 ∷ unsigned (word row 1)

-- a row has n elements of w words from `from` on, and `base` is how many bytes its head has
pub record Headed (head row : List ℕ) (from n w base : ℕ) : Type 0 where
  pub width : length row ≡ from + n * w
  pub size : base ≡ length head
