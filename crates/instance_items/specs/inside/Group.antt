-- The groups of each kind of instance, as straight code tells them apart.
use Rattle.std.specs.Prelude.{Option, Some, None, option_map, ℕ, ◌+◌, cond, List, [], ◌∷◌, ◌≡◌, eqb, drop}
use Rattle.numbers.specs.declared.leb.Number.{Number}
use Rattle.numbers.specs.Leb.{take_unsigned}
use Rattle.numbers.specs.Seen.{seen}
use Rattle.fields.specs.declared.Field.{Field}
use Rattle.fields.specs.declared.Field.TheVariants as field
use Rattle.fields.specs.declared.Shape.{Shape}
use Rattle.fields.specs.Table.{many_of}
use Rattle.reading.specs.declared.Pair.{Pair}
use Rattle.reading.specs.Seen.{pair_is}

-- the fields of a group
unfoldable pub group_one : ℕ → Field
group_one kind = cond (eqb kind 21) field.ExternName field.Name

unfoldable pub group_two : ℕ → Field
group_two kind = cond (eqb kind 18) field.Argument (cond (eqb kind 20) field.CoreSortIndex field.SortIndex)

abbrev pub group_of : ℕ → List Field
group_of kind = group_one kind ∷ group_two kind ∷ []

-- the shape of a kind behind its lead and its index
abbrev pub counted_of : ℕ → Shape
counted_of kind = many_of field.Nothing field.Nothing field.Nothing (group_one kind) (group_two kind) field.Nothing

-- 00, an index, a count and as many groups; 01, a count and as many groups
abbrev pub instantiate_of : ℕ → Shape
instantiate_of kind = many_of (field.Fixed 0x00) field.Nothing field.Index (group_one kind) (group_two kind) field.Nothing

abbrev pub exports_of : ℕ → Shape
exports_of kind = many_of (field.Fixed 0x01) field.Nothing field.Nothing (group_one kind) (group_two kind) field.Nothing

-- the whole shape of a kind, core or not
unfoldable pub shape_by : ℕ → Option Shape
shape_by kind =
    cond (eqb kind 18) (Some (instantiate_of 18))
    (cond (eqb kind 19) (Some (instantiate_of 19)) (cond (eqb kind 20) (Some (exports_of 20)) (cond (eqb kind 21) (Some (exports_of 21)) None)))

-- a kind is one of those that begin with a byte
abbrev pub Begins : ℕ → ℕ → Type 0
Begins kind first = (kind ≡ 18 → first ≡ 0x00) × (kind ≡ 19 → first ≡ 0x00) × (kind ≡ 20 → first ≡ 0x01) × (kind ≡ 21 → first ≡ 0x01)

-- a sort and, behind k bytes, an index
abbrev pub sort_is : ℕ → ℕ → Number → Pair
sort_is sort k n = pair_is (k + n.took) sort n.value

abbrev pub sort_pair : ℕ → ℕ → List ℕ → Option Pair
sort_pair sort k bs = option_map (sort_is sort k) (seen (take_unsigned (drop k bs)))

-- 12 and an index
abbrev pub argument_is : Number → Pair
argument_is n = pair_is (1 + n.took) n.value 0
