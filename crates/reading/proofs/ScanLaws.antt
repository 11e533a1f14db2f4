-- What is scanned lies inside the input, and makes as many words as the field has.
use Rattle.std.specs.Prelude.{Err, Ok}
use Prim.Native.Nat.{ℕ, ◌+◌, ◌-◌, ◌≤◌, ◌<◌}
use native.Mathlib.Omega.{arith}
use mathlib.Core.Path.{◌≡◌, refl}
use mathlib.Core.Bool.{Bool, true, false, cond}
use mathlib.Core.List.{List}
use lib.Dec.{eqb, ltb, leb}
use lib.ListN.{length, take, drop, length-drop}
use borrow.Author.Tests.{leb-true, leb-false}
use Rattle.numbers.specs.Taken.{Taken}
use Rattle.numbers.specs.Taken as taken
use Rattle.numbers.specs.Integers.{Form, u32, s33}
use Rattle.numbers.specs.Leb.{take_in, take_unsigned}
use Rattle.numbers.specs.Text.{text, stop}
use Rattle.numbers.proofs.LebLaws.{taken-inside}
use Rattle.fields.specs.declared.Field.{Field}
use Rattle.fields.specs.declared.Field.TheVariants as field
use Rattle.fields.specs.declared.Refusal.{Refusal}
use Rattle.fields.specs.declared.Refusal.TheVariants.{Text}
use Rattle.fields.specs.Leaf.{Leaf, Fine, Bad}
use Rattle.fields.specs.Answers.{offset_of}
use Rattle.fields.specs.Words.{indexed, wide}
use Rattle.reading.specs.inside.Stages.{Inside}
use Rattle.fields.specs.Grades.{grade_of}
use Rattle.fields.specs.declared.Site.TheVariants.{CanonOption}
use Rattle.reading.specs.Scan.{byte, cut, there, asked, past, numbered, scan_index, named, scan_name, scan_primitive, scan_value, zero_at, either, scan_optional, then_zero, scan_result, scan_choice, onward, string_at, counted, count_at, slot_scan, end_scan, head_scan, first_scan, second_scan, scan_extern, scan_bound, scan_module, three, scan_reference, scan_either, scan_optional_index, scan, scan_argument, scan_core_sort_index, scan_sort_index}

-- a field takes at most n bytes and makes w words; a fault stands within n bytes
abbrev pub Within : Leaf → ℕ → ℕ → Type 0
Within (Ok span) n w = (span.took ≤ n) × (span.made ≡ w)
Within (Err fault) n w = fault.value ≤ n

-- the same as data, which follows the tests, with what is made as M says
pub data Near (n : ℕ) (M : ℕ → Type 0) : Leaf → Type 0 where
  fine : (t m : ℕ) → t ≤ n → M m → Near n M (Fine t m)
  bad : (y : Refusal) (j : ℕ) → j ≤ n → Near n M (Bad y j)

-- w words; anything
abbrev pub Words : ℕ → ℕ → Type 0
Words w m = m ≡ w

abbrev pub Any : ℕ → Type 0
Any m = Unit {0}

within : {n w : ℕ} {l : Leaf} → Near n (Words w) l → Within l n w
within (fine t m h e) = (h, e)
within (bad y j h) = h

-- what is near ends within any bound that is not below; so does what is near behind k bytes
pub inside : {n : ℕ} {M : ℕ → Type 0} {l : Leaf} (most : ℕ) → Near n M l → n ≤ most → Inside l most
inside most (fine t m h e) g = omega arith
inside most (bad y j h) g = omega arith

pub behind : {M : ℕ → Type 0} {l : Leaf} (most : ℕ) (bs : List ℕ) (k : ℕ) → length bs ≤ most → Near (length (drop k bs)) M l → Inside l most
behind most bs k h near = inside most near (simp length-drop (omega arith))

-- ---- the parts that the definitions are made of

module _ {n : ℕ} {M : ℕ → Type 0} where
  cond_near : (b : Bool) {x y : Leaf} → Near n M x → Near n M y → Near n M (cond b x y)
  cond_near true p q = p
  cond_near false p q = q

  asked_near : (g k : ℕ) {l : Leaf} → Near n M l → Near n M (asked g k 0 l)
  asked_near g k p = cond_near (ltb g k) (bad _ 0 (omega arith)) p

  primitive_near : (g b : ℕ) {l : Leaf} → Near n M l → Near n M (scan_primitive g b l)
  unfolding scan_primitive
  primitive_near g b p =
      cond_near (eqb b 0x64) (asked_near g 2 p)
      (cond_near (ltb b 0x73) (bad _ 0 (omega arith)) (cond_near (ltb b 0x80) p (bad _ 0 (omega arith))))

  onward_near : {N : ℕ → Type 0} {l : Leaf} {k : ℕ → ℕ → Leaf} → Near n M l → ((at due : ℕ) → at ≤ n → Near n N (k at due))
      → Near n N (onward l k)
  onward_near (fine t m h e) f = f t m h
  onward_near (bad y j h) f = bad y j h

  three_near : {l : Leaf} → Near n M l → Near n (Words 3) (three l)
  three_near (fine t m h e) = fine t 3 h refl
  three_near (bad y j h) = bad y j h

module _ {M : ℕ → Type 0} (bs : List ℕ) where
  cut_near : Near (length bs) M (cut bs)
  cut_near = bad _ (length bs) (omega arith)

  there_near : (i : ℕ) {l : Leaf} → (i < length bs → Near (length bs) M l) → Near (length bs) M (there bs i l)
  there_near i {l} f = go (leb (length bs) i) refl
    where
      go : (b : Bool) → leb (length bs) i ≡ b → Near (length bs) M (cond b (cut bs) l)
      go true e = cut_near
      go false e = f (leb-false (length bs) i e)

  past_near : (k : ℕ) {l : Leaf} → k ≤ length bs → Near (length (drop k bs)) M l → Near (length bs) M (past k l)
  past_near k h (fine t m g e) = fine (k + t) m (omega (arith, length-drop k bs)) e
  past_near k h (bad y j g) = bad y (k + j) (omega (arith, length-drop k bs))

  zero_near : (i : ℕ) {l : Leaf} → (i < length bs → Near (length bs) M l) → Near (length bs) M (zero_at bs i l)
  zero_near i f = there_near i (λ h. cond_near (eqb (byte bs i) 0) (f h) (bad _ i (omega arith)))

  either_near : (a b : ℕ) {l r : Leaf} → (0 < length bs → Near (length bs) M l) → (0 < length bs → Near (length bs) M r)
      → Near (length bs) M (either bs a l b r)
  either_near a b f g =
      there_near 0 (λ h. cond_near (eqb (byte bs 0) a) (f h) (cond_near (eqb (byte bs 0) b) (g h) (bad _ 0 (omega arith))))

-- ---- numbers, names and values

number-near : {end sign : ℕ} → Form end sign → (w : ℕ) (bs : List ℕ) → Near (length bs) (Words w) (numbered bs (take_in end bs) w)
number-near {end} form w bs = go (take_in end bs) refl
  where
    go : (r : Taken) → take_in end bs ≡ r → Near (length bs) (Words w) (numbered bs r w)
    go (Ok got) e = fine got.took w (taken-inside form bs got.value got.took e).2 refl
    go taken.Cut e = cut_near bs
    go taken.Bad e = bad _ 0 (omega arith)

pub index-near : (w : ℕ) (bs : List ℕ) → Near (length bs) (Words w) (scan_index w bs)
unfolding scan_index
index-near w bs = number-near u32 w bs

pub name-near : (bs : List ℕ) → Near (length bs) (Words 2) (scan_name bs)
unfolding scan_name
name-near bs = go (take_unsigned bs) refl
  where
    fits : (n t : ℕ) → t ≤ length bs → (b : Bool) → leb (t + n) (length bs) ≡ b
        → Near (length bs) (Words 2) (cond b (cond (text (take n (drop t bs))) (Fine (t + n) 2) (Bad (Text (offset_of (stop (take n (drop t bs))))) t)) (cut bs))
    fits n t h true e = cond_near (text (take n (drop t bs))) (fine (t + n) 2 (leb-true (t + n) (length bs) e) refl) (bad _ t h)
    fits n t h false e = cut_near bs

    go : (r : Taken) → take_unsigned bs ≡ r → Near (length bs) (Words 2) (named bs r)
    go (Ok got) e = fits got.value got.took (taken-inside u32 bs got.value got.took e).2 (leb (got.took + got.value) (length bs)) refl
    go taken.Cut e = cut_near bs
    go taken.Bad e = bad _ 0 (omega arith)

pub value-near : (g : ℕ) (bs : List ℕ) → Near (length bs) (Words 2) (scan_value g bs)
unfolding scan_value
value-near g bs =
    there_near bs 0
    (λ h. cond_near (ltb (byte bs 0) 0x40) (fine 1 2 h refl)
    (cond_near (ltb (byte bs 0) 0x80) (primitive_near g (byte bs 0) (fine 1 2 h refl)) (number-near s33 2 bs)))

-- an index and a value behind k bytes
index-behind : (w k : ℕ) (bs : List ℕ) → k ≤ length bs → Near (length bs) (Words w) (past k (scan_index w (drop k bs)))
index-behind w k bs h = past_near bs k h (index-near w (drop k bs))

value-behind : (g k : ℕ) (bs : List ℕ) → k ≤ length bs → Near (length bs) (Words 2) (past k (scan_value g (drop k bs)))
value-behind g k bs h = past_near bs k h (value-near g (drop k bs))

pub optional-near : (g : ℕ) (bs : List ℕ) → Near (length bs) (Words 2) (scan_optional g bs)
unfolding scan_optional
optional-near g bs = either_near bs 0x00 0x01 (λ h. fine 1 2 h refl) (λ h. value-behind g 1 bs h)

then-zero-near : (bs : List ℕ) {l : Leaf} → Near (length bs) (Words 2) l → Near (length bs) (Words 2) (then_zero bs l)
then-zero-near bs (fine t m h e) = zero_near bs t (λ g. fine (t + 1) m (omega arith) e)
then-zero-near bs (bad y j h) = bad y j h

result_near : (g : ℕ) (bs : List ℕ) → Near (length bs) (Words 2) (scan_result g bs)
unfolding scan_result
result_near g bs = either_near bs 0x00 0x01 (λ h. value-behind g 1 bs h) (λ h. zero_near bs 1 (λ l. fine 2 2 l refl))

either-byte-near : (g n a b : ℕ) (bs : List ℕ) → Near (length bs) (Words 1) (scan_either g n a b bs)
unfolding scan_either
either-byte-near g n a b bs = either_near bs a b (λ h. fine 1 1 h refl) (λ h. asked_near g n (fine 1 1 h refl))

optional-index-near : (bs : List ℕ) → Near (length bs) (Words 2) (scan_optional_index bs)
unfolding scan_optional_index
optional-index-near bs = either_near bs 0x00 0x01 (λ h. fine 1 2 h refl) (λ h. index-behind 2 1 bs h)

choice-near : (g : ℕ) (bs : List ℕ) → Near (length bs) (Words 2) (scan_choice g bs)
unfolding scan_choice
choice-near g bs =
    there_near bs 0
    (λ h.
    cond_near (ltb (byte bs 0) 10)
    (asked_near g (grade_of CanonOption (byte bs 0)) (cond_near (indexed (byte bs 0)) (index-behind 2 1 bs h) (fine 1 2 h refl)))
    (bad _ 0 (omega arith)))

-- ---- extern names: each step ends inside the input

pub string-near : (bs : List ℕ) (at due : ℕ) → at ≤ length bs → Near (length bs) Any (string_at bs at due)
string-near bs at due h = onward_near (past_near bs at h (name-near (drop at bs))) (λ next m g. fine next due g tt)

count_near : (bs : List ℕ) (at : ℕ) → at ≤ length bs → Near (length bs) Any (count_at bs at)
unfolding count_at
count_near bs at h = go (take_unsigned (drop at bs)) refl
  where
    go : (r : Taken) → take_unsigned (drop at bs) ≡ r → Near (length bs) Any (counted (length bs) r at)
    go (Ok got) e =
        cond_near (eqb got.value 0) (bad _ at h)
        (cond_near (ltb got.value 4) (fine (at + got.took) got.value (omega (arith, length-drop at bs, taken-inside u32 (drop at bs) got.value got.took e)) tt) (bad _ at h))
    go taken.Cut e = cut_near bs
    go taken.Bad e = bad _ at h

slot-near : (k : ℕ) (bs : List ℕ) (at due : ℕ) → at ≤ length bs → Near (length bs) Any (slot_scan k bs at due)
unfolding slot_scan
slot-near k bs at due h =
    cond_near (eqb due 0) (fine at 0 h tt)
    (there_near bs at (λ g. cond_near (eqb (byte bs at) k) (string-near bs (at + 1) (due - 1) (omega arith)) (fine at due h tt)))

end_near : (bs : List ℕ) (at due : ℕ) → at ≤ length bs → Near (length bs) (Words 11) (end_scan bs at due)
unfolding end_scan
end_near bs at due h = cond_near (eqb due 0) (fine at 11 h refl) (there_near bs at (λ g. bad _ at h))

pub head_near : (g : ℕ) (bs : List ℕ) → Near (length bs) Any (head_scan g bs)
unfolding head_scan
head_near g bs =
    either_near bs 0x00 0x02 (λ h. string-near bs 1 0 h)
    (λ h. asked_near g 3 (onward_near (string-near bs 1 0 h) (λ at due l. count_near bs at l)))

pub first-near : (g : ℕ) (bs : List ℕ) → Near (length bs) Any (first_scan g bs)
unfolding first_scan
first-near g bs = onward_near (head_near g bs) (slot-near 0x00 bs)

pub second-near : (g : ℕ) (bs : List ℕ) → Near (length bs) Any (second_scan g bs)
unfolding second_scan
second-near g bs = onward_near (first-near g bs) (slot-near 0x01 bs)

extern_near : (g : ℕ) (bs : List ℕ) → Near (length bs) (Words 11) (scan_extern g bs)
unfolding scan_extern
extern_near g bs = onward_near (onward_near (second-near g bs) (slot-near 0x02 bs)) (end_near bs)

-- ---- references

bound_near : (bs : List ℕ) → Near (length bs) (Words 3) (scan_bound bs)
unfolding scan_bound
bound_near bs =
    there_near bs 1
    (λ h. cond_near (eqb (byte bs 1) 0) (index-behind 3 2 bs h) (cond_near (eqb (byte bs 1) 1) (fine 2 3 h refl) (bad _ 1 (omega arith))))

module_near : (m : ℕ) (bs : List ℕ) → Near (length bs) (Words m) (scan_module m bs)
unfolding scan_module
module_near m bs = there_near bs 1 (λ h. cond_near (eqb (byte bs 1) 0x11) (index-behind m 2 bs h) (bad _ 1 (omega arith)))

reference-near : (g : ℕ) (bs : List ℕ) → Near (length bs) (Words 3) (scan_reference g bs)
unfolding scan_reference
reference-near g bs =
    there_near bs 0
    (λ h. cond_near (eqb (byte bs 0) 0) (module_near 3 bs)
    (cond_near (eqb (byte bs 0) 2) (three_near (value-behind g 1 bs h))
    (cond_near (eqb (byte bs 0) 3) (bound_near bs)
    (cond_near (ltb (byte bs 0) 6) (index-behind 3 1 bs h) (bad _ 0 (omega arith))))))

-- ---- arguments and items of instances

argument-near : (bs : List ℕ) → Near (length bs) (Words 1) (scan_argument bs)
unfolding scan_argument
argument-near bs = there_near bs 0 (λ h. cond_near (eqb (byte bs 0) 0x12) (index-behind 1 1 bs h) (bad _ 0 (omega arith)))

core_sort_near : (bs : List ℕ) → Near (length bs) (Words 2) (scan_core_sort_index bs)
unfolding scan_core_sort_index
core_sort_near bs = there_near bs 0 (λ h. cond_near (ltb (byte bs 0) 5) (index-behind 2 1 bs h) (bad _ 0 (omega arith)))

sort_near : (bs : List ℕ) → Near (length bs) (Words 2) (scan_sort_index bs)
unfolding scan_sort_index
sort_near bs =
    there_near bs 0
    (λ h. cond_near (eqb (byte bs 0) 0) (module_near 2 bs) (cond_near (ltb (byte bs 0) 6) (index-behind 2 1 bs h) (bad _ 0 (omega arith))))

-- ---- each field

scan-near : (lead g : ℕ) (f : Field) (bs : List ℕ) → Near (length bs) (Words (wide f)) (scan lead g f bs)
unfolding scan wide
scan-near lead g field.Nothing bs = fine 0 0 (omega arith) refl
scan-near lead g (field.Fixed b) bs =
    there_near bs 0 (λ h. cond_near (eqb (byte bs 0) b) (asked_near g lead (fine 1 0 h refl)) (bad _ 0 (omega arith)))
scan-near lead g field.Primitive bs = there_near bs 0 (λ h. primitive_near g (byte bs 0) (fine 1 1 h refl))
scan-near lead g field.Value bs = value-near g bs
scan-near lead g field.Optional bs = optional-near g bs
scan-near lead g field.OptionalThenZero bs = then-zero-near bs (optional-near g bs)
scan-near lead g field.Result bs = result_near g bs
scan-near lead g field.Name bs = name-near bs
scan-near lead g field.Index bs = index-near 1 bs
scan-near lead g field.Async bs = either-byte-near g 2 0x40 0x43 bs
scan-near lead g field.Flag bs = either-byte-near g 1 0x00 0x01 bs
scan-near lead g field.Rep bs = either-byte-near g 1 0x7f 0x7e bs
scan-near lead g field.OptionalIndex bs = optional-index-near bs
scan-near lead g field.Choice bs = choice-near g bs
scan-near lead g field.ExternName bs = extern_near g bs
scan-near lead g field.Reference bs = reference-near g bs
scan-near lead g field.Argument bs = argument-near bs
scan-near lead g field.CoreSortIndex bs = core_sort_near bs
scan-near lead g field.SortIndex bs = sort_near bs

pub scan-within : (lead g : ℕ) (f : Field) (bs : List ℕ) → Within (scan lead g f bs) (length bs) (wide f)
scan-within lead g f bs = within (scan-near lead g f bs)
