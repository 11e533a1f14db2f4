-- What the words of a field say beside a pool: words as they are, and names as their length and bytes, wherever they start. A plan
-- goes on by the view, a list; two items are compared by parts, which do not run into each other.
use Rattle.std.specs.Prelude.{List, [], ◌∷◌, ◌++◌, ℕ, ◌+◌}
use Rattle.fields.specs.declared.Field.{Field}
use Rattle.fields.specs.declared.Field.TheVariants as field
use Rattle.fields.specs.Words.{word, chars}

-- N at i; (present, N) at i
abbrev pub name_at : List ℕ → List ℕ → ℕ → List ℕ
name_at pool ws i = word ws (i + 1) ∷ chars pool (word ws i) (word ws (i + 1))

abbrev pub optional_name_at : List ℕ → List ℕ → ℕ → List ℕ
optional_name_at pool ws i = word ws i ∷ name_at pool ws (i + 1)

unfoldable pub view : List ℕ → Field → List ℕ → List ℕ
view pool field.Nothing ws = []
view pool (field.Fixed b) ws = []
view pool field.Primitive ws = word ws 0 ∷ []
view pool field.Value ws = word ws 0 ∷ word ws 1 ∷ []
view pool field.Optional ws = word ws 0 ∷ word ws 1 ∷ []
view pool field.OptionalThenZero ws = word ws 0 ∷ word ws 1 ∷ []
view pool field.Result ws = word ws 0 ∷ word ws 1 ∷ []
view pool field.Name ws = name_at pool ws 0
view pool field.Index ws = word ws 0 ∷ []
view pool field.Async ws = word ws 0 ∷ []
view pool field.Flag ws = word ws 0 ∷ []
view pool field.Rep ws = word ws 0 ∷ []
view pool field.OptionalIndex ws = word ws 0 ∷ word ws 1 ∷ []
view pool field.Choice ws = word ws 0 ∷ word ws 1 ∷ []
view pool field.ExternName ws =
    name_at pool ws 0 ++ (optional_name_at pool ws 2 ++ (optional_name_at pool ws 5 ++ optional_name_at pool ws 8))
view pool field.Reference ws = word ws 0 ∷ word ws 1 ∷ word ws 2 ∷ []
view pool field.Argument ws = word ws 0 ∷ []
view pool field.CoreSortIndex ws = word ws 0 ∷ word ws 1 ∷ []
view pool field.SortIndex ws = word ws 0 ∷ word ws 1 ∷ []

-- a word, or a name's length and bytes
pub data Part : Type 0 where
  Word : ℕ → Part
  Name : ℕ → List ℕ → Part

abbrev pub name_part : List ℕ → List ℕ → ℕ → Part
name_part pool ws i = Name (word ws (i + 1)) (chars pool (word ws i) (word ws (i + 1)))

unfoldable pub said : List ℕ → Field → List ℕ → List Part
said pool field.Nothing ws = []
said pool (field.Fixed b) ws = []
said pool field.Primitive ws = Word (word ws 0) ∷ []
said pool field.Value ws = Word (word ws 0) ∷ Word (word ws 1) ∷ []
said pool field.Optional ws = Word (word ws 0) ∷ Word (word ws 1) ∷ []
said pool field.OptionalThenZero ws = Word (word ws 0) ∷ Word (word ws 1) ∷ []
said pool field.Result ws = Word (word ws 0) ∷ Word (word ws 1) ∷ []
said pool field.Name ws = name_part pool ws 0 ∷ []
said pool field.Index ws = Word (word ws 0) ∷ []
said pool field.Async ws = Word (word ws 0) ∷ []
said pool field.Flag ws = Word (word ws 0) ∷ []
said pool field.Rep ws = Word (word ws 0) ∷ []
said pool field.OptionalIndex ws = Word (word ws 0) ∷ Word (word ws 1) ∷ []
said pool field.Choice ws = Word (word ws 0) ∷ Word (word ws 1) ∷ []
said pool field.ExternName ws =
    name_part pool ws 0 ∷ Word (word ws 2) ∷ name_part pool ws 3 ∷ Word (word ws 5) ∷ name_part pool ws 6 ∷ Word (word ws 8) ∷ name_part pool ws 9 ∷ []
said pool field.Reference ws = Word (word ws 0) ∷ Word (word ws 1) ∷ Word (word ws 2) ∷ []
said pool field.Argument ws = Word (word ws 0) ∷ []
said pool field.CoreSortIndex ws = Word (word ws 0) ∷ Word (word ws 1) ∷ []
said pool field.SortIndex ws = Word (word ws 0) ∷ Word (word ws 1) ∷ []
