-- What a reader of grade g says of a field at the front of its input: the bytes it takes and the words it makes, or the leftmost
-- fault. `lead` is the grade of a fixed byte.
use Rattle.std.specs.Prelude.{Err, Ok, ℕ, ◌+◌, ◌-◌, cond, List, eqb, ltb, leb, length, get_or, take, drop}
use Rattle.numbers.specs.Taken.{Taken}
use Rattle.numbers.specs.Taken as taken
use Rattle.numbers.specs.Leb.{take_unsigned, take_signed}
use Rattle.numbers.specs.Text.{text, stop}
use Rattle.fields.specs.declared.Field.{Field}
use Rattle.fields.specs.declared.Field.TheVariants as field
use Rattle.fields.specs.declared.Refusal.TheVariants.{Text, Cut, Code, Number, Newer}
use Rattle.fields.specs.Leaf.{Leaf, Fine, Bad}
use Rattle.fields.specs.Answers.{offset_of}
use Rattle.fields.specs.Grades.{grade_of}
use Rattle.fields.specs.declared.Site.TheVariants.{TypeLead, NameLead, CanonOption}
use Rattle.fields.specs.declared.Site.TheVariants as site
use Rattle.fields.specs.Words.{indexed}

-- the byte at i
abbrev pub byte : List ℕ → ℕ → ℕ
byte bs i = get_or bs i 0

-- the input ends first: the place is its end
abbrev pub cut : List ℕ → Leaf
cut bs = Bad Cut (length bs)

-- there is a byte at i
abbrev pub there : List ℕ → ℕ → Leaf → Leaf
there bs i l = cond (leb (length bs) i) (cut bs) l

-- a form of grade n, marked by the byte at j
abbrev pub asked : ℕ → ℕ → ℕ → Leaf → Leaf
asked g n j l = cond (ltb g n) (Bad Newer j) l

-- what stands behind k bytes
abbrev pub past : ℕ → Leaf → Leaf
past k (Ok span) = Fine (k + span.took) span.made
past k (Err fault) = Bad fault.why (k + fault.value)

-- a number at the front, which makes m words
abbrev pub numbered : List ℕ → Taken → ℕ → Leaf
numbered bs (Ok got) m = Fine got.took m
numbered bs taken.Cut m = cut bs
numbered bs taken.Bad m = Bad Number 0

unfoldable pub scan_index : ℕ → List ℕ → Leaf
scan_index m bs = numbered bs (take_unsigned bs) m

-- a name: its length, and its bytes, which are text
abbrev pub named : List ℕ → Taken → Leaf
named bs (Ok got) = cond (leb (got.took + got.value) (length bs)) (cond (text (take got.value (drop got.took bs))) (Fine (got.took + got.value) 2) (Bad (Text (offset_of (stop (take got.value (drop got.took bs))))) got.took)) (cut bs)
named bs taken.Cut = cut bs
named bs taken.Bad = Bad Number 0

unfoldable pub scan_name : List ℕ → Leaf
scan_name bs = named bs (take_unsigned bs)

-- a primitive: 7f down to 73, and 64, which is of a grade
unfoldable pub scan_primitive : ℕ → ℕ → Leaf → Leaf
scan_primitive g b l = cond (eqb b 0x64) (asked g (grade_of site.Primitive 0x64) 0 l) (cond (ltb b 0x73) (Bad Code 0) (cond (ltb b 0x80) l (Bad Code 0)))

-- V: an index below 40 in one byte, a primitive, or a number of many bytes
unfoldable pub scan_value : ℕ → List ℕ → Leaf
scan_value g bs =
    there bs 0
    (cond (ltb (byte bs 0) 0x40) (Fine 1 2)
    (cond (ltb (byte bs 0) 0x80) (scan_primitive g (byte bs 0) (Fine 1 2)) (numbered bs (take_signed bs) 2)))

-- the byte at i is 00
abbrev pub zero_at : List ℕ → ℕ → Leaf → Leaf
zero_at bs i l = there bs i (cond (eqb (byte bs i) 0) l (Bad Code i))

-- one of two bytes at the front
abbrev pub either : List ℕ → ℕ → Leaf → ℕ → Leaf → Leaf
either bs a l b r = there bs 0 (cond (eqb (byte bs 0) a) l (cond (eqb (byte bs 0) b) r (Bad Code 0)))

unfoldable pub scan_optional : ℕ → List ℕ → Leaf
scan_optional g bs = either bs 0x00 (Fine 1 2) 0x01 (past 1 (scan_value g (drop 1 bs)))

-- a byte 00 behind
abbrev pub then_zero : List ℕ → Leaf → Leaf
then_zero bs (Ok span) = zero_at bs span.took (Fine (span.took + 1) span.made)
then_zero bs (Err fault) = Bad fault.why fault.value

unfoldable pub scan_result : ℕ → List ℕ → Leaf
scan_result g bs = either bs 0x00 (past 1 (scan_value g (drop 1 bs))) 0x01 (zero_at bs 1 (Fine 2 2))

-- an option: its byte, and its index where it has one
abbrev pub chosen : List ℕ → Leaf
chosen bs = cond (indexed (byte bs 0)) (past 1 (scan_index 2 (drop 1 bs))) (Fine 1 2)

unfoldable pub scan_choice : ℕ → List ℕ → Leaf
scan_choice g bs = there bs 0 (cond (ltb (byte bs 0) 10) (asked g (grade_of CanonOption (byte bs 0)) 0 (chosen bs)) (Bad Code 0))

-- ---- extern names: steps that hand on a place and how many options are still to come

abbrev pub onward : Leaf → (ℕ → ℕ → Leaf) → Leaf
onward (Ok span) k = k span.took span.made
onward (Err fault) k = Bad fault.why fault.value

-- a string at `at`, with `due` handed on
abbrev pub string_at : List ℕ → ℕ → ℕ → Leaf
string_at bs at due = onward (past at (scan_name (drop at bs))) (λ next m. Fine next due)

-- the option count: 1, 2 or 3
abbrev pub counted : ℕ → Taken → ℕ → Leaf
counted len (Ok got) at = cond (eqb got.value 0) (Bad Code at) (cond (ltb got.value 4) (Fine (at + got.took) got.value) (Bad Code at))
counted len taken.Cut at = Bad Cut len
counted len taken.Bad at = Bad Number at

unfoldable pub count_at : List ℕ → ℕ → Leaf
count_at bs at = counted (length bs) (take_unsigned (drop at bs)) at

-- option k: the next byte, or absent
unfoldable pub slot_scan : ℕ → List ℕ → ℕ → ℕ → Leaf
slot_scan k bs at due =
    cond (eqb due 0) (Fine at 0) (there bs at (cond (eqb (byte bs at) k) (string_at bs (at + 1) (due - 1)) (Fine at due)))

-- a byte that is no option above the one before
unfoldable pub end_scan : List ℕ → ℕ → ℕ → Leaf
end_scan bs at due = cond (eqb due 0) (Fine at 11) (there bs at (Bad Code at))

-- lead, name and count: where the options begin, and how many there are
unfoldable pub head_scan : ℕ → List ℕ → Leaf
head_scan g bs =
    either bs 0x00 (string_at bs 1 0) 0x02 (asked g (grade_of NameLead 0x02) 0 (onward (string_at bs 1 0) (λ at due. count_at bs at)))

unfoldable pub first_scan : ℕ → List ℕ → Leaf
first_scan g bs = onward (head_scan g bs) (slot_scan 0x00 bs)

unfoldable pub second_scan : ℕ → List ℕ → Leaf
second_scan g bs = onward (first_scan g bs) (slot_scan 0x01 bs)

unfoldable pub scan_extern : ℕ → List ℕ → Leaf
scan_extern g bs = onward (onward (second_scan g bs) (slot_scan 0x02 bs)) (end_scan bs)

-- ---- references

unfoldable pub scan_bound : List ℕ → Leaf
scan_bound bs = there bs 1 (cond (eqb (byte bs 1) 0) (past 2 (scan_index 3 (drop 2 bs))) (cond (eqb (byte bs 1) 1) (Fine 2 3) (Bad Code 1)))

-- 00 11 and an index, which make m words
unfoldable pub scan_module : ℕ → List ℕ → Leaf
scan_module m bs = there bs 1 (cond (eqb (byte bs 1) 0x11) (past 2 (scan_index m (drop 2 bs))) (Bad Code 1))

-- three words of what follows the sort
abbrev pub three : Leaf → Leaf
three (Ok span) = Fine span.took 3
three (Err fault) = Bad fault.why fault.value

unfoldable pub scan_reference : ℕ → List ℕ → Leaf
scan_reference g bs =
    there bs 0
    (cond (eqb (byte bs 0) 0) (scan_module 3 bs)
    (cond (eqb (byte bs 0) 2) (three (past 1 (scan_value g (drop 1 bs))))
    (cond (eqb (byte bs 0) 3) (scan_bound bs)
    (cond (ltb (byte bs 0) 6) (past 1 (scan_index 3 (drop 1 bs))) (Bad Code 0)))))

-- ---- each field

-- one of two bytes, the second of grade n
unfoldable pub scan_either : ℕ → ℕ → ℕ → ℕ → List ℕ → Leaf
scan_either g n a b bs = either bs a (Fine 1 1) b (asked g n 0 (Fine 1 1))

unfoldable pub scan_optional_index : List ℕ → Leaf
scan_optional_index bs = either bs 0x00 (Fine 1 2) 0x01 (past 1 (scan_index 2 (drop 1 bs)))

unfoldable pub scan_argument : List ℕ → Leaf
scan_argument bs = there bs 0 (cond (eqb (byte bs 0) 0x12) (past 1 (scan_index 1 (drop 1 bs))) (Bad Code 0))

unfoldable pub scan_core_sort_index : List ℕ → Leaf
scan_core_sort_index bs = there bs 0 (cond (ltb (byte bs 0) 5) (past 1 (scan_index 2 (drop 1 bs))) (Bad Code 0))

unfoldable pub scan_sort_index : List ℕ → Leaf
scan_sort_index bs =
    there bs 0
    (cond (eqb (byte bs 0) 0) (scan_module 2 bs) (cond (ltb (byte bs 0) 6) (past 1 (scan_index 2 (drop 1 bs))) (Bad Code 0)))

unfoldable pub scan : ℕ → ℕ → Field → List ℕ → Leaf
scan lead g field.Nothing bs = Fine 0 0
scan lead g (field.Fixed b) bs = there bs 0 (cond (eqb (byte bs 0) b) (asked g lead 0 (Fine 1 0)) (Bad Code 0))
scan lead g field.Primitive bs = there bs 0 (scan_primitive g (byte bs 0) (Fine 1 1))
scan lead g field.Value bs = scan_value g bs
scan lead g field.Optional bs = scan_optional g bs
scan lead g field.OptionalThenZero bs = then_zero bs (scan_optional g bs)
scan lead g field.Result bs = scan_result g bs
scan lead g field.Name bs = scan_name bs
scan lead g field.Index bs = scan_index 1 bs
scan lead g field.Async bs = scan_either g (grade_of TypeLead 0x43) 0x40 0x43 bs
scan lead g field.Flag bs = scan_either g 1 0x00 0x01 bs
scan lead g field.Rep bs = scan_either g 1 0x7f 0x7e bs
scan lead g field.OptionalIndex bs = scan_optional_index bs
scan lead g field.Choice bs = scan_choice g bs
scan lead g field.ExternName bs = scan_extern g bs
scan lead g field.Reference bs = scan_reference g bs
scan lead g field.Argument bs = scan_argument bs
scan lead g field.CoreSortIndex bs = scan_core_sort_index bs
scan lead g field.SortIndex bs = scan_sort_index bs
