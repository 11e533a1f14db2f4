-- The words of a row: the word at a place, the words of a field, and the names they point at.
use Rattle.std.specs.Prelude.{ℕ, ◌^◌, ◌<◌, Bool, true, cond, List, eqb, get_or, take, drop}
use Rattle.fields.specs.declared.Field.{Field}
use Rattle.fields.specs.declared.Field.TheVariants as field

-- the word at i
abbrev pub word : List ℕ → ℕ → ℕ
word ws i = get_or ws i 0

-- each is a word of 32 bits
abbrev pub Words : List ℕ → Type 0
Words ws = (i : ℕ) → word ws i < 2 ^ 32

-- the bytes of the name that starts at `start` of the pool
abbrev pub chars : List ℕ → ℕ → ℕ → List ℕ
chars pool start size = take size (drop start pool)

-- how many words a field has
unfoldable pub wide : Field → ℕ
wide field.Nothing = 0
wide (field.Fixed b) = 0
wide field.Primitive = 1
wide field.Value = 2
wide field.Optional = 2
wide field.OptionalThenZero = 2
wide field.Result = 2
wide field.Name = 2
wide field.Index = 1
wide field.Async = 1
wide field.Flag = 1
wide field.Rep = 1
wide field.OptionalIndex = 2
wide field.Choice = 2
wide field.ExternName = 11
wide field.Reference = 3
wide field.Argument = 1
wide field.CoreSortIndex = 2
wide field.SortIndex = 2

-- the options that name an index: memory, realloc, post-return, callback, core type
unfoldable pub indexed : ℕ → Bool
indexed k = cond (eqb k 3) true (cond (eqb k 4) true (cond (eqb k 5) true (cond (eqb k 7) true (eqb k 8))))
