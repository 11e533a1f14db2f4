-- The words of a field whose bytes were scanned; a name's start is a place of the input, at which the bytes stand.
use Rattle.std.specs.Prelude.{Err, Ok, ℕ, ◌+◌, ◌-◌, cond, List, [], ◌∷◌, ◌++◌, eqb, ltb, drop}
use Rattle.numbers.specs.Taken.{Taken}
use Rattle.numbers.specs.Taken as taken
use Rattle.numbers.specs.Leb.{take_unsigned, take_signed}
use Rattle.fields.specs.declared.Field.{Field}
use Rattle.fields.specs.declared.Field.TheVariants as field
use Rattle.fields.specs.Leaf.{Leaf}
use Rattle.fields.specs.Words.{indexed}
use Rattle.reading.specs.Scan.{byte, head_scan, first_scan, second_scan}

-- the number and the bytes of what was taken
abbrev pub value_in : Taken → ℕ
value_in (Ok got) = got.value
value_in taken.Cut = 0
value_in taken.Bad = 0

abbrev pub size_in : Taken → ℕ
size_in (Ok got) = got.took
size_in taken.Cut = 0
size_in taken.Bad = 0

abbrev pub index : List ℕ → ℕ
index bs = value_in (take_unsigned bs)

unfoldable pub primitive : ℕ → ℕ
primitive b = cond (eqb b 0x64) 13 (0x7f - b)

unfoldable pub fill_value : List ℕ → List ℕ
fill_value bs =
    cond (ltb (byte bs 0) 0x40) (1 ∷ byte bs 0 ∷ [])
    (cond (ltb (byte bs 0) 0x80) (0 ∷ primitive (byte bs 0) ∷ []) (1 ∷ value_in (take_signed bs) ∷ []))

-- an O whose value stands behind the byte `present`
unfoldable pub fill_optional : ℕ → List ℕ → List ℕ
fill_optional present bs = cond (eqb (byte bs 0) present) (fill_value (drop 1 bs)) (2 ∷ 0 ∷ [])

-- the start and the length of a string at `from` of the bytes, which stand at `at` of the input
unfoldable pub fill_name : ℕ → List ℕ → ℕ → List ℕ
fill_name at bs from = (at + (from + size_in (take_unsigned (drop from bs)))) ∷ index (drop from bs) ∷ []

-- an option: present, start, length
unfoldable pub fill_slot : ℕ → ℕ → List ℕ → Leaf → List ℕ
fill_slot k at bs (Ok span) =
    cond (eqb span.made 0) (0 ∷ 0 ∷ 0 ∷ []) (cond (eqb (byte bs span.took) k) (1 ∷ fill_name at bs (span.took + 1)) (0 ∷ 0 ∷ 0 ∷ []))
fill_slot k at bs (Err fault) = 0 ∷ 0 ∷ 0 ∷ []

unfoldable pub fill_slots : ℕ → ℕ → List ℕ → List ℕ
fill_slots g at bs = fill_slot 0x00 at bs (head_scan g bs) ++ (fill_slot 0x01 at bs (first_scan g bs) ++ fill_slot 0x02 at bs (second_scan g bs))

unfoldable pub fill_extern : ℕ → ℕ → List ℕ → List ℕ
fill_extern g at bs = fill_name at bs 1 ++ fill_slots g at bs

unfoldable pub fill_reference : List ℕ → List ℕ
fill_reference bs =
    cond (eqb (byte bs 0) 0) (0 ∷ index (drop 2 bs) ∷ 0 ∷ [])
    (cond (eqb (byte bs 0) 2) (2 ∷ fill_value (drop 1 bs))
    (cond (eqb (byte bs 0) 3) (3 ∷ cond (eqb (byte bs 1) 0) (0 ∷ index (drop 2 bs) ∷ []) (1 ∷ 0 ∷ []))
    (byte bs 0 ∷ index (drop 1 bs) ∷ 0 ∷ [])))

unfoldable pub fill_sort_index : List ℕ → List ℕ
fill_sort_index bs = byte bs 0 ∷ index (drop (cond (eqb (byte bs 0) 0) 2 1) bs) ∷ []

unfoldable pub fill : ℕ → Field → ℕ → List ℕ → List ℕ
fill g field.Nothing at bs = []
fill g (field.Fixed b) at bs = []
fill g field.Primitive at bs = primitive (byte bs 0) ∷ []
fill g field.Value at bs = fill_value bs
fill g field.Optional at bs = fill_optional 0x01 bs
fill g field.OptionalThenZero at bs = fill_optional 0x01 bs
fill g field.Result at bs = fill_optional 0x00 bs
fill g field.Name at bs = fill_name at bs 0
fill g field.Index at bs = index bs ∷ []
fill g field.Async at bs = cond (eqb (byte bs 0) 0x40) 0 1 ∷ []
fill g field.Flag at bs = cond (eqb (byte bs 0) 0x00) 0 1 ∷ []
fill g field.Rep at bs = cond (eqb (byte bs 0) 0x7f) 0 1 ∷ []
fill g field.OptionalIndex at bs = cond (eqb (byte bs 0) 0x00) (0 ∷ 0 ∷ []) (1 ∷ index (drop 1 bs) ∷ [])
fill g field.Choice at bs = byte bs 0 ∷ cond (indexed (byte bs 0)) (index (drop 1 bs)) 0 ∷ []
fill g field.ExternName at bs = fill_extern g at bs
fill g field.Reference at bs = fill_reference bs
fill g field.Argument at bs = index (drop 1 bs) ∷ []
fill g field.CoreSortIndex at bs = byte bs 0 ∷ index (drop 1 bs) ∷ []
fill g field.SortIndex at bs = fill_sort_index bs
