-- A V, an O and a function's result as straight code reads them: an index where a number is seen, else a primitive; and what stands
-- behind a byte.
use Rattle.std.specs.Prelude.{Ok, Option, Some, None, option_map}
use Prim.Native.Nat.{ℕ, ◌≤◌, ◌<◌}
use native.Mathlib.Omega.{arith}
use mathlib.Core.Path.{◌≡◌, refl, sym, subst, ◌∙◌}
use mathlib.Core.Bool.{Bool, true, false, cond}
use mathlib.Core.List.{List, [], ◌∷◌}
use lib.Dec.{eqb, ltb, leb}
use lib.ListN.{length, drop}
use borrow.Author.Tests.{lt-ltb, le-ltb, lt-leb, le-leb, ne_eqb, ltb-true, ltb-false, leb-true, leb-false}
use Rattle.numbers.specs.declared.leb.Number.{Number}
use Rattle.numbers.specs.Taken.{Taken}
use Rattle.numbers.specs.Taken as taken
use Rattle.numbers.specs.Integers.{s33}
use Rattle.numbers.specs.Leb.{take_signed}
use Rattle.numbers.specs.Seen.{seen}
use Rattle.numbers.proofs.LebLaws.{taken-inside}
use Rattle.numbers.proofs.SeenLaws.{seen-taken, seen_none, take-low, take_past}
use Rattle.numbers.proofs.OutcomeLaws.{value-same}
use Rattle.fields.specs.declared.Field.TheVariants as field
use Rattle.fields.specs.Leaf.{Leaf, Fine, Bad}
use Rattle.fields.specs.declared.Refusal.{Refusal}
use Rattle.fields.specs.declared.Refusal.TheVariants.{Cut, Code, Newer}
use Rattle.fields.specs.Words.{word}
use Rattle.reading.specs.Fill.{fill, fill_value, fill_optional}
use Rattle.reading.specs.Scan.{scan, scan_value, scan_primitive, scan_optional, scan_result, byte, numbered, past}
use Rattle.reading.specs.declared.Pair.{Pair}
use Rattle.reading.specs.Seen.{one, one_of, pair, pair_of, pair_is}
use Rattle.reading.specs.inside.Steps.{behind_one}
use Rattle.numbers.proofs.Impossible.{impossible}

-- ---- a V

-- an index of one byte, and a number of many
value_low : (g : ℕ) (bs : List ℕ) → 0 < length bs → byte bs 0 < 0x40 → Some (pair_is 1 1 (byte bs 0)) ≡ pair g field.Value bs
unfolding scan fill scan_value fill_value pair_of
value_low g bs h k = simp (lt-leb _ _ h, lt-ltb _ _ k)

value-long : (g : ℕ) (bs : List ℕ) (n t : ℕ) → 0 < length bs → 0x80 ≤ byte bs 0 → take_signed bs ≡ taken.Value n t
    → Some (pair_is t 1 n) ≡ pair g field.Value bs
unfolding scan fill scan_value fill_value pair_of
value-long g bs n t h k e =
    let over : 0x40 ≤ byte bs 0 = omega (arith, k) in
    simp (lt-leb _ _ h, le-ltb (byte bs 0) 0x40 over, le-ltb (byte bs 0) 0x80 k, e)

-- where a number is taken, the V is the index
pub value-index : (g : ℕ) (bs : List ℕ) (n t : ℕ) → take_signed bs ≡ taken.Value n t → Some (pair_is t 1 n) ≡ pair g field.Value bs
value-index g bs n t e = go (ltb (byte bs 0) 0x40) refl (ltb (byte bs 0) 0x80) refl
  where
    some : 0 < length bs
    some = omega (arith, taken-inside s33 bs n t e)

    go : (p : Bool) → ltb (byte bs 0) 0x40 ≡ p → (q : Bool) → ltb (byte bs 0) 0x80 ≡ q → Some (pair_is t 1 n) ≡ pair g field.Value bs
    go true p q r =
        let low : byte bs 0 < 0x40 = ltb-true (byte bs 0) 0x40 p in
        let same = value-same (sym e ∙ take-low s33 bs some low) in
        (λ i. Some (pair_is (same.1 i) 1 (same.0 i))) ∙ value_low g bs some low
    go false p true r =
        let no : taken.Value n t ≡ taken.Bad = sym e ∙ take_past s33 bs (ltb-false (byte bs 0) 0x40 p) (ltb-true (byte bs 0) 0x80 r) in
        impossible cc
    go false p false r = value-long g bs n t some (ltb-false (byte bs 0) 0x80 r) e

-- a primitive's word behind the word 0
abbrev pub no_index : Option Number → Option Pair
no_index (Some x) = Some (pair_is x.took 0 x.value)
no_index None = None

-- no byte
value_empty : (g : ℕ) (bs : List ℕ) → length bs ≤ 0 → no_index (one g field.Primitive bs) ≡ pair g field.Value bs
unfolding scan fill scan_value pair_of one_of
value_empty g bs h = simp (le-leb _ _ h)

-- a primitive of one word, and of two
primitive-two : (g b x : ℕ)
    → no_index (one_of (scan_primitive g b (Fine 1 1)) (x ∷ [])) ≡ pair_of (scan_primitive g b (Fine 1 2)) (0 ∷ x ∷ [])
unfolding scan_primitive one_of pair_of
primitive-two g b x = go (eqb b 0x64) (ltb g 2) (ltb b 0x73) (ltb b 0x80)
  where
    at : Bool → Bool → Bool → Bool → ℕ → Leaf
    at p q r s m = cond p (cond q (Bad Newer 0) (Fine 1 m)) (cond r (Bad Code 0) (cond s (Fine 1 m) (Bad Code 0)))

    go : (p q r s : Bool) → no_index (one_of (at p q r s 1) (x ∷ [])) ≡ pair_of (at p q r s 2) (0 ∷ x ∷ [])
    go true true r s = refl
    go true false r s = refl
    go false q true s = refl
    go false q false true = refl
    go false q false false = refl

-- a byte that another does not follow, and is no index
value_middle : (g : ℕ) (bs : List ℕ) → 0 < length bs → 0x40 ≤ byte bs 0 → byte bs 0 < 0x80
    → no_index (one g field.Primitive bs) ≡ pair g field.Value bs
unfolding scan fill scan_value fill_value
value_middle g bs h k l = simp (lt-leb _ _ h, le-ltb (byte bs 0) 0x40 k, lt-ltb (byte bs 0) 0x80 l) (primitive-two g (byte bs 0) _)

-- a byte that another follows, where no number is taken
value_none : (bs : List ℕ) (t : Taken) → ((n k : ℕ) → t ≡ taken.Value n k → ⊥) → (ws : List ℕ) → None ≡ pair_of (numbered bs t 2) ws
unfolding pair_of
value_none bs (Ok got) none ws = absurd (none got.value got.took refl)
value_none bs taken.Cut none ws = refl
value_none bs taken.Bad none ws = refl

value_high : (g : ℕ) (bs : List ℕ) → 0 < length bs → 0x80 ≤ byte bs 0 → ((n t : ℕ) → take_signed bs ≡ taken.Value n t → ⊥)
    → no_index (one g field.Primitive bs) ≡ pair g field.Value bs
unfolding scan fill scan_value scan_primitive one_of
value_high g bs h k none =
    let b = byte bs 0 in
    let over : 0x40 ≤ b = omega (arith, k) in
    let past : 0x73 ≤ b = omega (arith, k) in
    let other : b ≡ 0x64 → ⊥ = λ e. omega (arith, k, e) in
    simp (lt-leb _ _ h, le-ltb b 0x40 over, le-ltb b 0x80 k, le-ltb b 0x73 past, ne_eqb b 0x64 other)
    (value_none bs (take_signed bs) none (fill_value bs))

-- where no number is taken, the V is a primitive
pub value-other : (g : ℕ) (bs : List ℕ) → ((n t : ℕ) → take_signed bs ≡ taken.Value n t → ⊥)
    → no_index (one g field.Primitive bs) ≡ pair g field.Value bs
value-other g bs none = go (leb (length bs) 0) refl (ltb (byte bs 0) 0x40) refl (ltb (byte bs 0) 0x80) refl
  where
    go : (o : Bool) → leb (length bs) 0 ≡ o → (p : Bool) → ltb (byte bs 0) 0x40 ≡ p → (q : Bool) → ltb (byte bs 0) 0x80 ≡ q
        → no_index (one g field.Primitive bs) ≡ pair g field.Value bs
    go true o p ep q eq = value_empty g bs (leb-true (length bs) 0 o)
    go false o true ep q eq = absurd (none _ _ (take-low s33 bs (leb-false (length bs) 0 o) (ltb-true (byte bs 0) 0x40 ep)))
    go false o false ep true eq =
        value_middle g bs (leb-false (length bs) 0 o) (ltb-false (byte bs 0) 0x40 ep) (ltb-true (byte bs 0) 0x80 eq)
    go false o false ep false eq = value_high g bs (leb-false (length bs) 0 o) (ltb-false (byte bs 0) 0x80 eq) none

-- the same by what is seen: a number is the index, and where none is seen, a primitive is the V
pub seen-index : (g : ℕ) (bs : List ℕ) (x : Number) → Some x ≡ seen (take_signed bs) → Some (pair_is x.took 1 x.value) ≡ pair g field.Value bs
seen-index g bs x e = value-index g bs x.value x.took (seen-taken (take_signed bs) x (sym e))

pub seen_other : (g : ℕ) (bs : List ℕ) → None ≡ seen (take_signed bs) → no_index (one g field.Primitive bs) ≡ pair g field.Value bs
seen_other g bs e = value-other g bs (seen_none (take_signed bs) (sym e))

-- ---- behind a byte

-- what is right has one to five bytes
data Few : Leaf → Type 0 where
  fine : (t m : ℕ) → 0 < t → t ≤ 5 → Few (Fine t m)
  bad : (w : Refusal) (j : ℕ) → Few (Bad w j)

cond-few : (b : Bool) {l r : Leaf} → Few l → Few r → Few (cond b l r)
cond-few true l r = l
cond-few false l r = r

number-few : (bs : List ℕ) → Few (numbered bs (take_signed bs) 2)
number-few bs = go (take_signed bs) refl
  where
    go : (t : Taken) → take_signed bs ≡ t → Few (numbered bs t 2)
    go (Ok got) e = let k = taken-inside s33 bs got.value got.took e in fine got.took 2 k.0 k.1
    go taken.Cut e = bad _ _
    go taken.Bad e = bad _ _

value-few : (g : ℕ) (bs : List ℕ) → Few (scan_value g bs)
unfolding scan_value scan_primitive
value-few g bs =
    let b = byte bs 0 in
    let byte-few : Few (Fine 1 2) = fine 1 2 (omega arith) (omega arith) in
    let other : Few (cond (ltb b 0x73) (Bad Code 0) (cond (ltb b 0x80) (Fine 1 2) (Bad Code 0))) =
    cond-few (ltb b 0x73) (bad _ _) (cond-few (ltb b 0x80) byte-few (bad _ _)) in
    cond-few (leb (length bs) 0) (bad _ _)
    (cond-few (ltb b 0x40) byte-few
    (cond-few (ltb b 0x80) (cond-few (eqb b 0x64) (cond-few (ltb g 2) (bad _ _) byte-few) other) (number-few bs)))

few-took : {l : Leaf} → Few l → (ws : List ℕ) (v : Pair) → pair_of l ws ≡ Some v → v.took ≤ 5
unfolding pair_of
few-took (fine t m h k) ws v e = let same : pair_is t (word ws 0) (word ws 1) ≡ v = cc in subst (λ (x : Pair). x.took ≤ 5) same k
few-took (bad w j) ws v e = impossible cc

few-behind : {l : Leaf} → Few l → (ws : List ℕ) → option_map behind_one (pair_of l ws) ≡ pair_of (past 1 l) ws
unfolding pair_of
few-behind (fine t m h k) ws = refl
few-behind (bad w j) ws = refl

-- a V has at most five bytes: it can stand behind a byte
pub value-short : (g : ℕ) (bs : List ℕ) (v : Pair) → pair g field.Value bs ≡ Some v → v.took ≤ 8
unfolding scan
value-short g bs v e = omega (arith, few-took (value-few g bs) (fill g field.Value 0 bs) v e)

-- a V behind a byte
value-behind : (g : ℕ) (bs : List ℕ) → option_map behind_one (pair g field.Value bs) ≡ pair_of (past 1 (scan_value g bs)) (fill_value bs)
unfolding scan fill
value-behind g bs = few-behind (value-few g bs) (fill_value bs)

-- ---- an O

pub optional_empty : (g : ℕ) (bs : List ℕ) → length bs ≤ 0 → None ≡ pair g field.Optional bs
unfolding scan scan_optional pair_of
optional_empty g bs h = simp (le-leb _ _ h)

pub optional_some : (g : ℕ) (bs : List ℕ) → 0 < length bs → byte bs 0 ≡ 1
    → option_map behind_one (pair g field.Value (drop 1 bs)) ≡ pair g field.Optional bs
unfolding scan fill scan_optional fill_optional
optional_some g bs h e = value-behind g (drop 1 bs) ∙ simp (lt-leb _ _ h, e)

pub optional_none : (g : ℕ) (bs : List ℕ) → 0 < length bs → byte bs 0 ≡ 0 → Some (pair_is 1 2 0) ≡ pair g field.Optional bs
unfolding scan fill scan_optional fill_optional pair_of
optional_none g bs h e = simp (lt-leb _ _ h, e)

pub optional-other : (g : ℕ) (bs : List ℕ) → 0 < length bs → (byte bs 0 ≡ 1 → ⊥) → (byte bs 0 ≡ 0 → ⊥) → None ≡ pair g field.Optional bs
unfolding scan scan_optional pair_of
optional-other g bs h k l = simp (lt-leb _ _ h, ne_eqb _ _ k, ne_eqb _ _ l)

-- ---- a function's result

-- fewer than two bytes: none, or a byte that nothing follows
pub result_short : (g : ℕ) (bs : List ℕ) → length bs ≤ 1 → None ≡ pair g field.Result bs
unfolding scan fill scan_result scan_value pair_of
result_short g [] h = refl
result_short g (b ∷ []) h = go (eqb b 0) (eqb b 1)
  where
    go : (p q : Bool) → None ≡ pair_of (cond p (past 1 (scan_value g [])) (cond q (Bad Cut 1) (Bad Code 0))) (fill_optional 0 (b ∷ []))
    go true q = refl
    go false true = refl
    go false false = refl
result_short g (b ∷ c ∷ bs) h = absurd (omega arith)

pub result_some : (g : ℕ) (bs : List ℕ) → 1 < length bs → byte bs 0 ≡ 0
    → option_map behind_one (pair g field.Value (drop 1 bs)) ≡ pair g field.Result bs
unfolding scan fill scan_result fill_optional
result_some g bs h e =
    let there : 0 < length bs = omega (arith, h) in
    value-behind g (drop 1 bs) ∙ simp (lt-leb _ _ there, e)

pub result_none : (g : ℕ) (bs : List ℕ) → 1 < length bs → byte bs 0 ≡ 1 → byte bs 1 ≡ 0 → Some (pair_is 2 2 0) ≡ pair g field.Result bs
unfolding scan fill scan_result fill_optional pair_of
result_none g bs h e z =
    let there : 0 < length bs = omega (arith, h) in
    simp (lt-leb _ _ there, lt-leb _ _ h, e, z)

-- 01, and not 00 behind it
pub result_full : (g : ℕ) (bs : List ℕ) → 1 < length bs → byte bs 0 ≡ 1 → (byte bs 1 ≡ 0 → ⊥) → None ≡ pair g field.Result bs
unfolding scan scan_result pair_of
result_full g bs h e k =
    let there : 0 < length bs = omega (arith, h) in
    simp (lt-leb _ _ there, lt-leb _ _ h, e, ne_eqb _ _ k)

pub result_other : (g : ℕ) (bs : List ℕ) → 1 < length bs → (byte bs 0 ≡ 0 → ⊥) → (byte bs 0 ≡ 1 → ⊥) → None ≡ pair g field.Result bs
unfolding scan scan_result pair_of
result_other g bs h k l =
    let there : 0 < length bs = omega (arith, h) in
    simp (lt-leb _ _ there, ne_eqb _ _ k, ne_eqb _ _ l)
