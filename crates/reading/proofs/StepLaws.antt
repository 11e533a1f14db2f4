-- Fields read one after the other in straight code: what a step says of its field, and where a run of fields ends.
use Rattle.std.specs.Prelude.{Err, Ok, Some, None}
use Prim.Native.Nat.{ℕ, zero, suc, ◌+◌, ◌-◌, ◌≤◌, ◌<◌}
use native.Mathlib.Nat.{add-zero}
use native.Mathlib.Omega.{arith}
use mathlib.Core.Path.{◌≡◌, refl, sym, ap, ◌∙◌, subst}
use mathlib.Core.Bool.{Bool, true, false, cond}
use mathlib.Core.List.{List, [], ◌∷◌, ◌++◌}
use lib.Dec.{eqb, ltb, leb}
use lib.ListN.{length, take, drop, length-drop}
use lib.Seq.{drop-drop}
use Rattle.numbers.specs.Taken.{Taken}
use Rattle.numbers.specs.Taken as taken
use Rattle.numbers.specs.Integers.{Form, u32, s33}
use Rattle.numbers.specs.Leb.{take_in, take_unsigned}
use Rattle.numbers.specs.Seen.{number, seen}
use Rattle.numbers.specs.Text.{text}
use Rattle.numbers.proofs.LebLaws.{taken-inside}
use Rattle.fields.specs.declared.Field.{Field}
use Rattle.fields.specs.declared.Field.TheVariants as field
use Rattle.fields.specs.Leaf.{Leaf, Fine, Bad}
use Rattle.fields.specs.declared.Refusal.{Refusal}
use Rattle.fields.specs.Words.{word, indexed, wide}
use Rattle.reading.specs.Fill.{value_in, size_in, index, fill_name, fill}
use Rattle.fields.specs.inside.Run.{along, makes, Under}
use Rattle.fields.specs.Grades.{grade_of}
use Rattle.fields.specs.declared.Site.TheVariants.{CanonOption}
use Rattle.reading.specs.Scan.{byte, there, asked, past, numbered, scan_index, named, scan_name, scan_primitive, scan_value, zero_at, either, scan_optional, then_zero, scan_result, scan_choice, onward, string_at, counted, count_at, slot_scan, end_scan, head_scan, first_scan, second_scan, scan_extern, scan_bound, scan_module, three, scan_reference, scan_either, scan_optional_index, scan, scan_argument, scan_core_sort_index, scan_sort_index}
use Rattle.fields.specs.Shape.{repeated, widths}
use Rattle.fields.specs.Walk.{next, took}
use Rattle.reading.proofs.FilledLaws.{fill-length}
use Rattle.reading.proofs.ScannedLaws.{one_takes, scans_under}
use Rattle.reading.specs.Seen.{one, pair, one_of, pair_of, pair_is}
use Rattle.reading.specs.declared.Pair.{Pair}
use Rattle.numbers.specs.declared.leb.Number.{Number}
use Rattle.numbers.proofs.Impossible.{impossible}
use Rattle.reading.specs.inside.Steps.{scans, fills, end_of}

-- what was scanned is not right
abbrev pub Wrong : Leaf → Type 0
Wrong (Ok span) = ⊥
Wrong (Err fault) = Unit {0}

-- a field that takes bytes where it is right
abbrev pub Taking : Field → Type 0
Taking field.Nothing = ⊥
Taking (field.Fixed b) = Unit {0}
Taking field.Primitive = Unit {0}
Taking field.Value = Unit {0}
Taking field.Optional = Unit {0}
Taking field.OptionalThenZero = Unit {0}
Taking field.Result = Unit {0}
Taking field.Name = Unit {0}
Taking field.Index = Unit {0}
Taking field.Async = Unit {0}
Taking field.Flag = Unit {0}
Taking field.Rep = Unit {0}
Taking field.OptionalIndex = Unit {0}
Taking field.Choice = Unit {0}
Taking field.ExternName = Unit {0}
Taking field.Reference = Unit {0}
Taking field.Argument = Unit {0}
Taking field.CoreSortIndex = Unit {0}
Taking field.SortIndex = Unit {0}

-- a field that is no fixed byte, and fields of which none is
abbrev pub Loose : Field → Type 0
Loose field.Nothing = Unit {0}
Loose (field.Fixed b) = ⊥
Loose field.Primitive = Unit {0}
Loose field.Value = Unit {0}
Loose field.Optional = Unit {0}
Loose field.OptionalThenZero = Unit {0}
Loose field.Result = Unit {0}
Loose field.Name = Unit {0}
Loose field.Index = Unit {0}
Loose field.Async = Unit {0}
Loose field.Flag = Unit {0}
Loose field.Rep = Unit {0}
Loose field.OptionalIndex = Unit {0}
Loose field.Choice = Unit {0}
Loose field.ExternName = Unit {0}
Loose field.Reference = Unit {0}
Loose field.Argument = Unit {0}
Loose field.CoreSortIndex = Unit {0}
Loose field.SortIndex = Unit {0}

abbrev pub Open : List Field → Type 0
Open [] = Unit {0}
Open (f ∷ fs) = Loose f × Open fs

-- a field whose words are no places of the input
abbrev pub Still : Field → Type 0
Still field.Nothing = Unit {0}
Still (field.Fixed b) = Unit {0}
Still field.Primitive = Unit {0}
Still field.Value = Unit {0}
Still field.Optional = Unit {0}
Still field.OptionalThenZero = Unit {0}
Still field.Result = Unit {0}
Still field.Name = ⊥
Still field.Index = Unit {0}
Still field.Async = Unit {0}
Still field.Flag = Unit {0}
Still field.Rep = Unit {0}
Still field.OptionalIndex = Unit {0}
Still field.Choice = Unit {0}
Still field.ExternName = ⊥
Still field.Reference = Unit {0}
Still field.Argument = Unit {0}
Still field.CoreSortIndex = Unit {0}
Still field.SortIndex = Unit {0}

-- ---- a field that is right takes at least one byte

data Nonempty : Leaf → Type 0 where
  fine : (t m : ℕ) → 0 < t → Nonempty (Fine t m)
  bad : (w : Refusal) (j : ℕ) → Nonempty (Bad w j)

-- any answer, behind a byte or more
cond-some : (b : Bool) {x y : Leaf} → Nonempty x → Nonempty y → Nonempty (cond b x y)
cond-some true p q = p
cond-some false p q = q

there-some : (bs : List ℕ) (i : ℕ) {l : Leaf} → Nonempty l → Nonempty (there bs i l)
there-some bs i p = cond-some (leb (length bs) i) (bad _ _) p

asked-some : (g n j : ℕ) {l : Leaf} → Nonempty l → Nonempty (asked g n j l)
asked-some g n j p = cond-some (ltb g n) (bad _ _) p

past-some : (k : ℕ) → 0 < k → (l : Leaf) → Nonempty (past k l)
past-some k h (Ok span) = fine (k + span.took) span.made (omega arith)
past-some k h (Err fault) = bad fault.why (k + fault.value)

zero-some : (bs : List ℕ) (i : ℕ) {l : Leaf} → Nonempty l → Nonempty (zero_at bs i l)
zero-some bs i p = there-some bs i (cond-some (eqb (byte bs i) 0) p (bad _ _))

either-some : (bs : List ℕ) (a b : ℕ) {l r : Leaf} → Nonempty l → Nonempty r → Nonempty (either bs a l b r)
either-some bs a b p q = there-some bs 0 (cond-some (eqb (byte bs 0) a) p (cond-some (eqb (byte bs 0) b) q (bad _ _)))

primitive-some : (g b : ℕ) {l : Leaf} → Nonempty l → Nonempty (scan_primitive g b l)
unfolding scan_primitive
primitive-some g b p =
    cond-some (eqb b 0x64) (asked-some g 2 0 p) (cond-some (ltb b 0x73) (bad _ _) (cond-some (ltb b 0x80) p (bad _ _)))

number-some : {end sign : ℕ} → Form end sign → (w : ℕ) (bs : List ℕ) → Nonempty (numbered bs (take_in end bs) w)
number-some {end} form w bs = go (take_in end bs) refl
  where
    go : (r : Taken) → take_in end bs ≡ r → Nonempty (numbered bs r w)
    go (Ok got) e = fine got.took w (taken-inside form bs got.value got.took e).0
    go taken.Cut e = bad _ _
    go taken.Bad e = bad _ _

index_some : (w : ℕ) (bs : List ℕ) → Nonempty (scan_index w bs)
unfolding scan_index
index_some w bs = number-some u32 w bs

name-some : (bs : List ℕ) → Nonempty (scan_name bs)
unfolding scan_name
name-some bs = go (take_unsigned bs) refl
  where
    go : (r : Taken) → take_unsigned bs ≡ r → Nonempty (named bs r)
    go (Ok got) e =
        let h : 0 < got.took = (taken-inside u32 bs got.value got.took e).0 in
        cond-some (leb (got.took + got.value) (length bs)) (cond-some (text (take got.value (drop got.took bs))) (fine (got.took + got.value) 2 (omega arith)) (bad _ _)) (bad _ _)
    go taken.Cut e = bad _ _
    go taken.Bad e = bad _ _

value-some : (g : ℕ) (bs : List ℕ) → Nonempty (scan_value g bs)
unfolding scan_value
value-some g bs =
    there-some bs 0
    (cond-some (ltb (byte bs 0) 0x40) (fine 1 2 (omega arith))
    (cond-some (ltb (byte bs 0) 0x80) (primitive-some g (byte bs 0) (fine 1 2 (omega arith))) (number-some s33 2 bs)))

optional_some : (g : ℕ) (bs : List ℕ) → Nonempty (scan_optional g bs)
unfolding scan_optional
optional_some g bs = either-some bs 0x00 0x01 (fine 1 2 (omega arith)) (past-some 1 (omega arith) (scan_value g (drop 1 bs)))

then-zero-some : (bs : List ℕ) (l : Leaf) → Nonempty (then_zero bs l)
then-zero-some bs (Ok span) = zero-some bs span.took (fine (span.took + 1) span.made (omega arith))
then-zero-some bs (Err fault) = bad fault.why fault.value

result_some : (g : ℕ) (bs : List ℕ) → Nonempty (scan_result g bs)
unfolding scan_result
result_some g bs =
    either-some bs 0x00 0x01 (past-some 1 (omega arith) (scan_value g (drop 1 bs))) (zero-some bs 1 (fine 2 2 (omega arith)))

either-byte-some : (g n a b : ℕ) (bs : List ℕ) → Nonempty (scan_either g n a b bs)
unfolding scan_either
either-byte-some g n a b bs = either-some bs a b (fine 1 1 (omega arith)) (asked-some g n 0 (fine 1 1 (omega arith)))

optional-index-some : (bs : List ℕ) → Nonempty (scan_optional_index bs)
unfolding scan_optional_index
optional-index-some bs = either-some bs 0x00 0x01 (fine 1 2 (omega arith)) (past-some 1 (omega arith) (scan_index 2 (drop 1 bs)))

choice_some : (g : ℕ) (bs : List ℕ) → Nonempty (scan_choice g bs)
unfolding scan_choice
choice_some g bs =
    there-some bs 0
    (cond-some (ltb (byte bs 0) 10)
    (asked-some g (grade_of CanonOption (byte bs 0)) 0
    (cond-some (indexed (byte bs 0)) (past-some 1 (omega arith) (scan_index 2 (drop 1 bs))) (fine 1 2 (omega arith))))
    (bad _ _))

-- extern names: each step hands on a place past the first byte
onward-some : {l : Leaf} {k : ℕ → ℕ → Leaf} → Nonempty l → ((at due : ℕ) → 0 < at → Nonempty (k at due)) → Nonempty (onward l k)
onward-some (fine t m h) f = f t m h
onward-some (bad w j) f = bad w j

string-some : (bs : List ℕ) (at due : ℕ) → 0 < at → Nonempty (string_at bs at due)
string-some bs at due h = onward-some (past-some at h (scan_name (drop at bs))) (λ next m k. fine next due k)

count_some : (bs : List ℕ) (at : ℕ) → 0 < at → Nonempty (count_at bs at)
unfolding count_at
count_some bs at h = go (take_unsigned (drop at bs))
  where
    go : (r : Taken) → Nonempty (counted (length bs) r at)
    go (Ok got) = cond-some (eqb got.value 0) (bad _ _) (cond-some (ltb got.value 4) (fine (at + got.took) got.value (omega arith)) (bad _ _))
    go taken.Cut = bad _ _
    go taken.Bad = bad _ _

slot_some : (k : ℕ) (bs : List ℕ) (at due : ℕ) → 0 < at → Nonempty (slot_scan k bs at due)
unfolding slot_scan
slot_some k bs at due h =
    cond-some (eqb due 0) (fine at 0 h)
    (there-some bs at (cond-some (eqb (byte bs at) k) (string-some bs (at + 1) (due - 1) (omega arith)) (fine at due h)))

last_some : (bs : List ℕ) (at due : ℕ) → 0 < at → Nonempty (end_scan bs at due)
unfolding end_scan
last_some bs at due h = cond-some (eqb due 0) (fine at 11 h) (there-some bs at (bad _ _))

extern_some : (g : ℕ) (bs : List ℕ) → Nonempty (scan_extern g bs)
unfolding scan_extern second_scan first_scan head_scan
extern_some g bs =
    let begin : Nonempty (head_scan g bs) =
    either-some bs 0x00 0x02 (string-some bs 1 0 (omega arith))
    (asked-some g 3 0 (onward-some (string-some bs 1 0 (omega arith)) (λ at due h. count_some bs at h)))
    in
    onward-some (onward-some (onward-some (onward-some begin (slot_some 0x00 bs)) (slot_some 0x01 bs)) (slot_some 0x02 bs)) (last_some bs)

three-some : {l : Leaf} → Nonempty l → Nonempty (three l)
three-some (fine t m h) = fine t 3 h
three-some (bad w j) = bad w j

reference_some : (g : ℕ) (bs : List ℕ) → Nonempty (scan_reference g bs)
unfolding scan_reference scan_module scan_bound
reference_some g bs =
    there-some bs 0
    (cond-some (eqb (byte bs 0) 0)
    (there-some bs 1 (cond-some (eqb (byte bs 1) 0x11) (past-some 2 (omega arith) (scan_index 3 (drop 2 bs))) (bad _ _)))
    (cond-some (eqb (byte bs 0) 2) (three-some (past-some 1 (omega arith) (scan_value g (drop 1 bs))))
    (cond-some (eqb (byte bs 0) 3)
    (there-some bs 1
    (cond-some (eqb (byte bs 1) 0) (past-some 2 (omega arith) (scan_index 3 (drop 2 bs)))
    (cond-some (eqb (byte bs 1) 1) (fine 2 3 (omega arith)) (bad _ _))))
    (cond-some (ltb (byte bs 0) 6) (past-some 1 (omega arith) (scan_index 3 (drop 1 bs))) (bad _ _)))))

scan-some : (g : ℕ) (f : Field) (bs : List ℕ) → Taking f → Nonempty (scan 1 g f bs)
unfolding scan scan_argument scan_core_sort_index scan_sort_index scan_module
scan-some g field.Nothing bs h = absurd h
scan-some g (field.Fixed b) bs h = there-some bs 0 (cond-some (eqb (byte bs 0) b) (asked-some g 1 0 (fine 1 0 (omega arith))) (bad _ _))
scan-some g field.Primitive bs h = there-some bs 0 (primitive-some g (byte bs 0) (fine 1 1 (omega arith)))
scan-some g field.Value bs h = value-some g bs
scan-some g field.Optional bs h = optional_some g bs
scan-some g field.OptionalThenZero bs h = then-zero-some bs (scan_optional g bs)
scan-some g field.Result bs h = result_some g bs
scan-some g field.Name bs h = name-some bs
scan-some g field.Index bs h = index_some 1 bs
scan-some g field.Async bs h = either-byte-some g 2 0x40 0x43 bs
scan-some g field.Flag bs h = either-byte-some g 1 0x00 0x01 bs
scan-some g field.Rep bs h = either-byte-some g 1 0x7f 0x7e bs
scan-some g field.OptionalIndex bs h = optional-index-some bs
scan-some g field.Choice bs h = choice_some g bs
scan-some g field.ExternName bs h = extern_some g bs
scan-some g field.Reference bs h = reference_some g bs
scan-some g field.Argument bs h = there-some bs 0 (cond-some (eqb (byte bs 0) 0x12) (past-some 1 (omega arith) (scan_index 1 (drop 1 bs))) (bad _ _))
scan-some g field.CoreSortIndex bs h = there-some bs 0 (cond-some (ltb (byte bs 0) 5) (past-some 1 (omega arith) (scan_index 2 (drop 1 bs))) (bad _ _))
scan-some g field.SortIndex bs h =
    there-some bs 0
    (cond-some (eqb (byte bs 0) 0)
    (there-some bs 1 (cond-some (eqb (byte bs 1) 0x11) (past-some 2 (omega arith) (scan_index 2 (drop 2 bs))) (bad _ _)))
    (cond-some (ltb (byte bs 0) 6) (past-some 1 (omega arith) (scan_index 2 (drop 1 bs))) (bad _ _)))

-- an answer that is right takes bytes
abbrev Moves : Leaf → Type 0
Moves (Ok span) = 0 < span.took
Moves (Err fault) = Unit {0}

moves : {l : Leaf} → Nonempty l → Moves l
moves (fine t m h) = h
moves (bad w j) = tt

-- a field that is right takes some of the input, and makes its words
pub scan-takes : (g : ℕ) (f : Field) (bs : List ℕ) (t m : ℕ) → Taking f → scan 1 g f bs ≡ Fine t m
    → (0 < t) × (t ≤ length bs) × (m ≡ wide f)
scan-takes g f bs t m h e =
    let k = one_takes 1 g f bs (scan 1 g f bs) refl t m e in
    (subst Moves e (moves (scan-some g f bs h)), k.0, k.1)

-- ---- what a step says of its field

-- a list of one word, and of two
one_word : (ws : List ℕ) → length ws ≡ 1 → ws ≡ word ws 0 ∷ []
one_word [] e = absurd (omega arith)
one_word (x ∷ []) e = refl
one_word (x ∷ y ∷ ws) e = absurd (omega arith)

two_words : (ws : List ℕ) → length ws ≡ 2 → ws ≡ word ws 0 ∷ word ws 1 ∷ []
two_words [] e = absurd (omega arith)
two_words (x ∷ []) e = absurd (omega arith)
two_words (x ∷ y ∷ []) e = refl
two_words (x ∷ y ∷ z ∷ ws) e = absurd (omega arith)

-- a step of two words that is right: its field is, and these are its words
pub pair-some : (g : ℕ) (f : Field) (bs : List ℕ) → wide f ≡ 2 → (v : Pair) → pair g f bs ≡ Some v
    → (scan 1 g f bs ≡ Fine v.took 2) × (fill g f 0 bs ≡ v.a ∷ v.b ∷ []) × (v.took ≤ length bs)
unfolding pair_of
pair-some g f bs w v h = go (scan 1 g f bs) (one_takes 1 g f bs (scan 1 g f bs) refl) h
  where
    ws : List ℕ
    ws = fill g f 0 bs

    go : (l : Leaf) → ((t m : ℕ) → l ≡ Fine t m → (t ≤ length bs) × (m ≡ wide f)) → pair_of l ws ≡ Some v
        → (l ≡ Fine v.took 2) × (ws ≡ v.a ∷ v.b ∷ []) × (v.took ≤ length bs)
    go (Ok span) k h =
        let q = k span.took span.made refl in
        let same : pair_is span.took (word ws 0) (word ws 1) ≡ v = cc in
        subst (λ (x : Pair). (Ok span ≡ Fine x.took 2) × (ws ≡ x.a ∷ x.b ∷ []) × (x.took ≤ length bs)) same
        (ap (λ n. Fine span.took n) (q.1 ∙ w), two_words ws (fill-length g f 0 bs ∙ w), q.0)
    go (Err fault) k h = impossible cc

-- one that is not: its field is not
pub pair_none : (g : ℕ) (f : Field) (bs : List ℕ) → pair g f bs ≡ None → Wrong (scan 1 g f bs)
unfolding pair_of
pair_none g f bs z = go (scan 1 g f bs) z
  where
    go : (l : Leaf) → pair_of l (fill g f 0 bs) ≡ None → Wrong l
    go (Ok span) z = impossible cc
    go (Err fault) z = tt

-- the same of a step of one word
pub one-some : (g : ℕ) (f : Field) (bs : List ℕ) → wide f ≡ 1 → (v : Number) → one g f bs ≡ Some v
    → (scan 1 g f bs ≡ Fine v.took 1) × (fill g f 0 bs ≡ v.value ∷ []) × (v.took ≤ length bs)
unfolding one_of
one-some g f bs w v h = go (scan 1 g f bs) (one_takes 1 g f bs (scan 1 g f bs) refl) h
  where
    ws : List ℕ
    ws = fill g f 0 bs

    go : (l : Leaf) → ((t m : ℕ) → l ≡ Fine t m → (t ≤ length bs) × (m ≡ wide f)) → one_of l ws ≡ Some v
        → (l ≡ Fine v.took 1) × (ws ≡ v.value ∷ []) × (v.took ≤ length bs)
    go (Ok span) k h =
        let q = k span.took span.made refl in
        let same : number (word ws 0) span.took ≡ v = cc in
        subst (λ (x : Number). (Ok span ≡ Fine x.took 1) × (ws ≡ x.value ∷ []) × (x.took ≤ length bs)) same
        (ap (λ n. Fine span.took n) (q.1 ∙ w), one_word ws (fill-length g f 0 bs ∙ w), q.0)
    go (Err fault) k h = impossible cc

pub one_none : (g : ℕ) (f : Field) (bs : List ℕ) → one g f bs ≡ None → Wrong (scan 1 g f bs)
unfolding one_of
one_none g f bs z = go (scan 1 g f bs) z
  where
    go : (l : Leaf) → one_of l (fill g f 0 bs) ≡ None → Wrong l
    go (Ok span) z = impossible cc
    go (Err fault) z = tt

-- an index is the number that is seen
pub index-one : (g : ℕ) (bs : List ℕ) → seen (take_unsigned bs) ≡ one g field.Index bs
unfolding one_of scan scan_index fill
index-one g bs = go (take_unsigned bs)
  where
    valued : Taken → List ℕ
    valued r = value_in r ∷ []

    go : (r : Taken) → seen r ≡ one_of (numbered bs r 1) (valued r)
    go (Ok got) = refl
    go taken.Cut = refl
    go taken.Bad = refl

-- a name is the same of every grade
pub name-any : (g : ℕ) (bs : List ℕ) → pair g field.Name bs ≡ pair 1 field.Name bs
unfolding scan fill
name-any g bs = refl

-- words that are no places are the same at every place; a name's start is counted from its place
pub fill_at : (g : ℕ) (f : Field) (at : ℕ) (bs : List ℕ) → Still f → fill g f at bs ≡ fill g f 0 bs
unfolding fill
fill_at g field.Nothing at bs h = refl
fill_at g (field.Fixed b) at bs h = refl
fill_at g field.Primitive at bs h = refl
fill_at g field.Value at bs h = refl
fill_at g field.Optional at bs h = refl
fill_at g field.OptionalThenZero at bs h = refl
fill_at g field.Result at bs h = refl
fill_at g field.Name at bs h = absurd h
fill_at g field.Index at bs h = refl
fill_at g field.Async at bs h = refl
fill_at g field.Flag at bs h = refl
fill_at g field.Rep at bs h = refl
fill_at g field.OptionalIndex at bs h = refl
fill_at g field.Choice at bs h = refl
fill_at g field.ExternName at bs h = absurd h
fill_at g field.Reference at bs h = refl
fill_at g field.Argument at bs h = refl
fill_at g field.CoreSortIndex at bs h = refl
fill_at g field.SortIndex at bs h = refl

pub name_at_lem : (g at : ℕ) (bs : List ℕ) (a b : ℕ) → fill g field.Name 0 bs ≡ a ∷ b ∷ [] → fill g field.Name at bs ≡ (at + a) ∷ b ∷ []
unfolding fill fill_name
name_at_lem g at bs a b e =
    let s : ℕ = size_in (take_unsigned bs) in
    let z : at + (0 + s) ≡ at + (0 + (0 + s)) = omega arith in
    ap (λ n. n ∷ index bs ∷ []) z ∙ ap (λ ws. (at + word ws 0) ∷ word ws 1 ∷ []) e

-- ---- readers that agree on their fields

data Agree (L M : Field → List ℕ → Leaf) (B C : Field → ℕ → List ℕ → List ℕ) : List Field → Type 0 where
  none : Agree L M B C []
  more : (f : Field) (fs : List Field) → ((xs : List ℕ) → L f xs ≡ M f xs) → ((at : ℕ) (xs : List ℕ) → B f at xs ≡ C f at xs)
      → Agree L M B C fs → Agree L M B C (f ∷ fs)

module _ {L M : Field → List ℕ → Leaf} {B C : Field → ℕ → List ℕ → List ℕ} where
  along_agree : (fs : List Field) → Agree L M B C fs → (xs : List ℕ) (at made : ℕ) → along L fs xs at made ≡ along M fs xs at made
  unfolding along
  along_agree _ none xs at made = refl
  along_agree _ (more f fs l b h) xs at made =
      ap (λ a. next a (λ t m. along L fs (drop t xs) (at + t) (made + m)) at) (l xs)
      ∙ go (M f xs) (λ t m. along_agree fs h (drop t xs) (at + t) (made + m))
    where
      go : (a : Leaf) → ((t m : ℕ) → along L fs (drop t xs) (at + t) (made + m) ≡ along M fs (drop t xs) (at + t) (made + m))
          → next a (λ t m. along L fs (drop t xs) (at + t) (made + m)) at ≡ next a (λ t m. along M fs (drop t xs) (at + t) (made + m)) at
      go (Ok span) ih = ih span.took span.made
      go (Err fault) ih = refl

  makes_agree : (fs : List Field) → Agree L M B C fs → (at : ℕ) (xs : List ℕ) → makes L B fs at xs ≡ makes M C fs at xs
  unfolding makes
  makes_agree _ none at xs = refl
  makes_agree _ (more f fs l b h) at xs =
      ap (λ ws. ws ++ makes L B fs (at + took (L f xs)) (drop (took (L f xs)) xs)) (b at xs)
      ∙ ap (λ a. C f at xs ++ makes L B fs (at + took a) (drop (took a) xs)) (l xs)
      ∙ ap (λ ws. C f at xs ++ ws) (makes_agree fs h (at + took (M f xs)) (drop (took (M f xs)) xs))

-- the lead's grade tells in a fixed byte alone
scan-any : (lead g : ℕ) (f : Field) (bs : List ℕ) → Loose f → scan lead g f bs ≡ scan 1 g f bs
unfolding scan
scan-any lead g field.Nothing bs h = refl
scan-any lead g (field.Fixed b) bs h = absurd h
scan-any lead g field.Primitive bs h = refl
scan-any lead g field.Value bs h = refl
scan-any lead g field.Optional bs h = refl
scan-any lead g field.OptionalThenZero bs h = refl
scan-any lead g field.Result bs h = refl
scan-any lead g field.Name bs h = refl
scan-any lead g field.Index bs h = refl
scan-any lead g field.Async bs h = refl
scan-any lead g field.Flag bs h = refl
scan-any lead g field.Rep bs h = refl
scan-any lead g field.OptionalIndex bs h = refl
scan-any lead g field.Choice bs h = refl
scan-any lead g field.ExternName bs h = refl
scan-any lead g field.Reference bs h = refl
scan-any lead g field.Argument bs h = refl
scan-any lead g field.CoreSortIndex bs h = refl
scan-any lead g field.SortIndex bs h = refl

open-agree : (lead g : ℕ) (fs : List Field) → Open fs → Agree (scan lead g) (scan 1 g) (fill g) (fill g) fs
open-agree lead g [] h = none
open-agree lead g (f ∷ fs) h = more f fs (λ xs. scan-any lead g f xs h.0) (λ at xs. refl) (open-agree lead g fs h.1)

pub scans-any : (lead g : ℕ) (fs : List Field) (xs : List ℕ) (at made : ℕ) → Open fs
    → along (scan lead g) fs xs at made ≡ along (scan 1 g) fs xs at made
scans-any lead g fs xs at made h = along_agree fs (open-agree lead g fs h) xs at made

pub fills-any : (lead g : ℕ) (fs : List Field) (at : ℕ) (xs : List ℕ) → Open fs
    → makes (scan lead g) (fill g) fs at xs ≡ makes (scan 1 g) (fill g) fs at xs
fills-any lead g fs at xs h = makes_agree fs (open-agree lead g fs h) at xs

-- fields after fields, and groups, of which none is a fixed byte
pub open-append : (fs gs : List Field) → Open fs → Open gs → Open (fs ++ gs)
open-append [] gs h k = k
open-append (f ∷ fs) gs h k = (h.0, open-append fs gs h.1 k)

pub open-repeated : (n : ℕ) (gs : List Field) → Open gs → Open (repeated n gs)
unfolding repeated
open-repeated zero gs h = tt
open-repeated (suc n) gs h = open-append gs (repeated n gs) h (open-repeated n gs h)

-- labels are the same of every grade
abbrev pub labels : ℕ → List Field
labels n = repeated n (field.Name ∷ field.Nothing ∷ [])

labels-agree : (g n : ℕ) → Agree (scan 1 g) (scan 1 1) (fill g) (fill 1) (labels n)
unfolding repeated scan fill
labels-agree g zero = none
labels-agree g (suc n) = more _ _ (λ xs. refl) (λ at xs. refl) (more _ _ (λ xs. refl) (λ at xs. refl) (labels-agree g n))

pub labels-any : (g : ℕ) (input : List ℕ) (n at made : ℕ)
    → (scans g input (labels n) at made ≡ scans 1 input (labels n) at made) × (fills g input (labels n) at ≡ fills 1 input (labels n) at)
labels-any g input n at made =
    (along_agree _ (labels-agree g n) (drop at input) at made, makes_agree _ (labels-agree g n) at (drop at input))

-- ---- where a run of fields ends

-- two runs from `least`, with p and q words made before them: both end at one place with w words more, or neither ends
data Alike (least p q w : ℕ) : Leaf → Leaf → Type 0 where
  fine : (a m n : ℕ) → least ≤ a → m ≡ p + w → n ≡ q + w → Alike least p q w (Fine a m) (Fine a n)
  bad : (y : Refusal) (i j : ℕ) → Alike least p q w (Bad y i) (Bad y j)

further : {least p q w : ℕ} {l k : Leaf} (t m v : ℕ) → m ≡ v → Alike (least + t) (p + m) (q + m) w l k → Alike least p q (v + w) l k
further t m v e (fine a x y h i j) = fine a x y (omega arith) (omega arith) (omega arith)
further t m v e (bad y i j) = bad y i j

alike : (g : ℕ) (fs : List Field) (xs : List ℕ) (at p q : ℕ)
    → Alike at p q (widths fs) (along (scan 1 g) fs xs at p) (along (scan 1 g) fs xs at q)
unfolding along widths
alike g [] xs at p q = fine at p q (omega arith) (omega arith) (omega arith)
alike g (f ∷ fs) xs at p q =
    go (scan 1 g f xs) (one_takes 1 g f xs (scan 1 g f xs) refl) (λ t m. alike g fs (drop t xs) (at + t) (p + m) (q + m))
  where
    go : (l : Leaf) → ((t m : ℕ) → l ≡ Fine t m → (t ≤ length xs) × (m ≡ wide f))
        → ((t m : ℕ) → Alike (at + t) (p + m) (q + m) (widths fs) (along (scan 1 g) fs (drop t xs) (at + t) (p + m))
        (along (scan 1 g) fs (drop t xs) (at + t) (q + m)))
        → Alike at p q (wide f + widths fs) (next l (λ t m. along (scan 1 g) fs (drop t xs) (at + t) (p + m)) at)
        (next l (λ t m. along (scan 1 g) fs (drop t xs) (at + t) (q + m)) at)
    go (Ok span) k ih = further span.took span.made (wide f) (k span.took span.made refl).1 (ih span.took span.made)
    go (Err fault) k ih = bad fault.why _ _

module _ (g : ℕ) (input : List ℕ) where
  -- the words made before do not tell
  pub end_made : (fs : List Field) (at made made' : ℕ) → end_of (scans g input fs at made) ≡ end_of (scans g input fs at made')
  unfolding end_of
  end_made fs at made made' = go (alike g fs (drop at input) at made made')
    where
      go : {l k : Leaf} → Alike at made made' (widths fs) l k → end_of l ≡ end_of k
      go (fine a m n h i j) = refl
      go (bad y i j) = refl

  -- past a field that is right; at one that is not; past none
  pub end_step : (f : Field) (fs : List Field) (at made t m : ℕ) → scan 1 g f (drop at input) ≡ Fine t m
      → end_of (scans g input (f ∷ fs) at made) ≡ end_of (scans g input fs (at + t) made)
  unfolding along
  end_step f fs at made t m e =
      ap (λ l. end_of (next l (λ t m. along (scan 1 g) fs (drop t (drop at input)) (at + t) (made + m)) at)) e
      ∙ ap (λ xs. end_of (along (scan 1 g) fs xs (at + t) (made + m))) (drop-drop t at input)
      ∙ end_made fs (at + t) (made + m) made

  pub end_bad : (f : Field) (fs : List Field) (at made : ℕ) → Wrong (scan 1 g f (drop at input))
      → end_of (scans g input (f ∷ fs) at made) ≡ None
  unfolding along end_of
  end_bad f fs at made h = go (scan 1 g f (drop at input)) h
    where
      go : (l : Leaf) → Wrong l → end_of (next l (λ t m. along (scan 1 g) fs (drop t (drop at input)) (at + t) (made + m)) at) ≡ None
      go (Ok span) h = absurd h
      go (Err fault) h = refl

  pub end_nothing : (fs : List Field) (at made : ℕ) → end_of (scans g input (field.Nothing ∷ fs) at made) ≡ end_of (scans g input fs at made)
  unfolding scan
  end_nothing fs at made =
      end_step field.Nothing fs at made 0 0 refl ∙ ap (λ n. end_of (scans g input fs n made)) (add-zero at)

  -- no field
  pub end_done : (at made : ℕ) → end_of (scans g input [] at made) ≡ Some at
  unfolding along end_of
  end_done at made = refl

  -- the end lies inside the input
  pub end_inside : (fs : List Field) (at made end : ℕ) → at ≤ length input → end_of (scans g input fs at made) ≡ Some end → end ≤ length input
  unfolding end_of
  end_inside fs at made end h e = go (scans g input fs at made) (scans_under 1 g input fs at made (length input) h (omega arith)) e
    where
      go : (l : Leaf) → Under l (length input) (made + widths fs) → end_of l ≡ Some end → end ≤ length input
      go (Ok span) u e = let same : span.took ≡ end = cc in omega (arith, u.0, same)
      go (Err fault) u e = impossible cc

  -- fields that end are right, and make their words
  pub end_fine : (fs : List Field) (at made end : ℕ) → end_of (scans g input fs at 0) ≡ Some end
      → scans g input fs at made ≡ Fine end (made + widths fs)
  unfolding end_of
  end_fine fs at made end e = go (alike g fs (drop at input) at 0 made) e
    where
      go : {l k : Leaf} → Alike at 0 made (widths fs) l k → end_of l ≡ Some end → k ≡ Fine end (made + widths fs)
      go (fine a m n h i j) e = let same : a ≡ end = cc in (λ p. Fine (same p) (j p))
      go (bad y i j) e = impossible cc

  -- fields that do not are not
  pub end_wrong : (fs : List Field) (at made : ℕ) → end_of (scans g input fs at 0) ≡ None → Wrong (scans g input fs at made)
  unfolding end_of
  end_wrong fs at made e = go (alike g fs (drop at input) at 0 made) e
    where
      go : {l k : Leaf} → Alike at 0 made (widths fs) l k → end_of l ≡ None → Wrong k
      go (fine a m n k i j) e = impossible cc
      go (bad y i j) e = tt

-- ---- a loop over groups that counts down

-- groups are one, and the rest
pub repeated-more : (due : ℕ) (gs : List Field) → 0 < due → repeated due gs ≡ gs ++ repeated (due - 1) gs
unfolding repeated
repeated-more zero gs h = absurd (omega arith)
repeated-more (suc n) gs h =
    let z : n ≡ suc n - 1 = omega arith in
    ap (λ k. gs ++ repeated k gs) z

-- from `at` on, `due` groups end where the n groups from `from` on do
pub record Going (g : ℕ) (input : List ℕ) (gs : List Field) (n from due at : ℕ) : Type 0 where
  pub same : end_of (scans g input (repeated due gs) at 0) ≡ end_of (scans g input (repeated n gs) from 0)
  pub inside : at ≤ length input

pub going_start : {g : ℕ} {input : List ℕ} {gs : List Field} {n from : ℕ} → from ≤ length input → Going g input gs n from n from
going_start h = record { same = refl; inside = h }

-- the same count under another name
pub going_as : {g : ℕ} {input : List ℕ} {gs : List Field} {n from due due' at : ℕ} → Going g input gs n from due at → due ≡ due'
    → Going g input gs n from due' at
going_as {g} {input} {gs} {n} {from} {at = at} k e = subst (λ d. Going g input gs n from d at) e k

-- no group is due
pub going_end : {g : ℕ} {input : List ℕ} {gs : List Field} {n from due at : ℕ} → Going g input gs n from due at → due ≤ 0
    → Some at ≡ end_of (scans g input (repeated n gs) from 0)
unfolding repeated
going_end {g} {input} {gs} {n} {from} {due} {at} go h =
    let z : due ≡ 0 = omega arith in
    sym (end_done g input at 0) ∙ ap (λ k. end_of (scans g input (repeated k gs) at 0)) (sym z) ∙ go.same

module _ {g : ℕ} {input : List ℕ} {f h : Field} {n from due at : ℕ} (o : Going g input (f ∷ h ∷ []) n from due at) (some : 0 < due) where
  -- the next group, and what follows it
  opened : end_of (scans g input (f ∷ h ∷ repeated (due - 1) (f ∷ h ∷ [])) at 0) ≡ end_of (scans g input (repeated n (f ∷ h ∷ [])) from 0)
  opened = ap (λ fs. end_of (scans g input fs at 0)) (sym (repeated-more due (f ∷ h ∷ []) some)) ∙ o.same

  -- its first field is not right
  pub going_first : Wrong (scan 1 g f (drop at input)) → None ≡ end_of (scans g input (repeated n (f ∷ h ∷ [])) from 0)
  going_first w = sym (end_bad g input f (h ∷ repeated (due - 1) (f ∷ h ∷ [])) at 0 w) ∙ opened

  module _ {t m : ℕ} (e : scan 1 g f (drop at input) ≡ Fine t m) where
    second : end_of (scans g input (h ∷ repeated (due - 1) (f ∷ h ∷ [])) (at + t) 0)
        ≡ end_of (scans g input (repeated n (f ∷ h ∷ [])) from 0)
    second = sym (end_step g input f (h ∷ repeated (due - 1) (f ∷ h ∷ [])) at 0 t m e) ∙ opened

    -- its second is not
    pub going_second : Wrong (scan 1 g h (drop (at + t) input)) → None ≡ end_of (scans g input (repeated n (f ∷ h ∷ [])) from 0)
    going_second w = sym (end_bad g input h (repeated (due - 1) (f ∷ h ∷ [])) (at + t) 0 w) ∙ second

    -- both are
    pub going_next : {u k : ℕ} → scan 1 g h (drop (at + t) input) ≡ Fine u k → Going g input (f ∷ h ∷ []) n from (due - 1) (at + t + u)
    going_next {u} {k} d =
        let p : t ≤ length (drop at input) = (one_takes 1 g f (drop at input) (scan 1 g f (drop at input)) refl t m e).0 in
        let q : u ≤ length (drop (at + t) input) =
        (one_takes 1 g h (drop (at + t) input) (scan 1 g h (drop (at + t) input)) refl u k d).0
        in
        record {
          same = sym (end_step g input h (repeated (due - 1) (f ∷ h ∷ [])) (at + t) 0 u k d) ∙ second;
          inside = omega (arith, o.inside, length-drop at input, length-drop (at + t) input);
        }

-- a group of one field
pub going_alone : {g : ℕ} {input : List ℕ} {f : Field} {n from due at : ℕ} → Going g input (f ∷ field.Nothing ∷ []) n from due at
    → 0 < due → {t m : ℕ} → scan 1 g f (drop at input) ≡ Fine t m → Going g input (f ∷ field.Nothing ∷ []) n from (due - 1) (at + t)
unfolding scan
going_alone {g} {input} {f} {n} {from} {due} {at} go some {t} {m} e =
    let d : scan 1 g field.Nothing (drop (at + t) input) ≡ Fine 0 0 = refl in
    subst (λ a. Going g input (f ∷ field.Nothing ∷ []) n from (due - 1) a) (add-zero (at + t)) (going_next go some e d)
