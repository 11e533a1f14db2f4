-- An item that straight code read, word by word into its row; and the fields of a resource, a representation and a destructor: from the
-- bytes at the front. Assumes nothing.
use Rattle.std.specs.Prelude.{Ok, Option, Some, None}
use Prim.Native.Nat.{ℕ, zero, suc, ◌+◌, ◌-◌, ◌≤◌, ◌<◌}
use native.Mathlib.Omega.{arith}
use mathlib.Core.Path.{◌≡◌, refl, sym, ap, ◌∙◌}
use mathlib.Core.Bool.{Bool, true, false, cond}
use mathlib.Core.List.{List, [], ◌∷◌}
use lib.Dec.{eqb, ltb, leb}
use lib.ListN.{length, take, drop, set, length-drop}
use lib.Seq.{sets}
use borrow.Author.Tests.{lt-ltb, le-ltb, lt-leb, le-leb, leb-false, ne_eqb}
use Rattle.numbers.specs.declared.leb.Number.{Number}
use Rattle.numbers.specs.Taken.{Taken}
use Rattle.numbers.specs.Taken as taken
use Rattle.numbers.specs.Integers.{u32}
use Rattle.numbers.specs.Leb.{take_unsigned}
use Rattle.numbers.specs.Seen.{number, seen}
use Rattle.numbers.proofs.SeenLaws.{seen-some}
use Rattle.fields.specs.declared.Field.TheVariants as field
use Rattle.fields.specs.Leaf.{Fine, Bad}
use Rattle.fields.specs.declared.Refusal.TheVariants.{Code, Newer}
use Rattle.reading.specs.Fill.{value_in, fill}
use Rattle.fields.specs.Words.{wide}
use Rattle.reading.specs.Scan.{byte, cut, past, numbered, scan_index, scan_either, scan_optional_index, scan}
use Rattle.reading.specs.declared.Pair.{Pair}
use Rattle.reading.specs.inside.Try as tried
use Rattle.reading.specs.inside.Try.{Tried}
use Rattle.reading.specs.Seen.{one, one_of, pair, pair_of, pair_is}
use Rattle.reading.specs.inside.Steps.{scans, fills}
use Rattle.reading.specs.inside.Tried.{left_tried}
use Rattle.reading.proofs.StepLaws.{one-some, one_none, pair_none, fill_at}
use Rattle.items.specs.declared.item.Item.{Item}
use Rattle.items.specs.inside.Item.{item_words, Told, stored}
use Rattle.items.proofs.ItemLaws.{Here, destructor, pair_at, both, no_first, no_second}
use Rattle.numbers.proofs.Impossible.{impossible}

-- ---- an item stored

-- a word stored where it is one of w
abbrev pub put : ℕ → ℕ → ℕ → List ℕ → List ℕ
put w k v row = cond (ltb k w) (set row k v) row

pub put_yes : (w k v : ℕ) (row : List ℕ) {new : List ℕ} → k < w → new ≡ set row k v → new ≡ put w k v row
put_yes w k v row h e = e ∙ simp (lt-ltb k w h)

pub put_no : (w k v : ℕ) (row : List ℕ) {new : List ℕ} → w ≤ k → new ≡ row → new ≡ put w k v row
put_no w k v row h e = e ∙ simp (le-ltb k w h)

-- the kind and the first word are always stored, the next three where the item has them
all-stored : (w kind a b c d : ℕ) (row : List ℕ) → 2 ≤ w → w ≤ 5
    → put w 4 d (put w 3 c (put w 2 b (set (set row 0 kind) 1 a))) ≡ sets row 0 (kind ∷ take (w - 1) (a ∷ b ∷ c ∷ d ∷ []))
all-stored zero kind a b c d row h k = absurd (omega arith)
all-stored (suc zero) kind a b c d row h k = absurd (omega arith)
all-stored (suc (suc zero)) kind a b c d row h k = refl
all-stored (suc (suc (suc zero))) kind a b c d row h k = refl
all-stored (suc (suc (suc (suc zero)))) kind a b c d row h k = refl
all-stored (suc (suc (suc (suc (suc zero))))) kind a b c d row h k = refl
all-stored (suc (suc (suc (suc (suc (suc w)))))) kind a b c d row h k = absurd (omega arith)

-- the row when its words were stored one by one
pub item-row : (kind : ℕ) (r : Item) (row : List ℕ) {third fourth last : List ℕ} → (2 ≤ r.words) × (r.words ≤ 5)
    → third ≡ put r.words 2 r.b (set (set row 0 kind) 1 r.a) → fourth ≡ put r.words 3 r.c third
    → last ≡ put r.words 4 r.d fourth → last ≡ sets row 0 (kind ∷ item_words r)
unfolding item_words
item-row kind r row h x y z =
    z ∙ ap (λ (l : List ℕ). put r.words 4 r.d l) (y ∙ ap (λ (l : List ℕ). put r.words 3 r.c l) x)
    ∙ all-stored r.words kind r.a r.b r.c r.d row h.0 h.1

-- no item; one that has no room; and one that is stored
pub stored_none : (kind : ℕ) {o : Option Item} (row : List ℕ) {t : Tried} → t ≡ None → o ≡ None → left_tried t row ≡ stored kind o row
unfolding stored
stored_none kind row e z = rw (e, z) refl

pub stored_short : (kind : ℕ) {o : Option Item} {r : Item} (row : List ℕ) → o ≡ Some r → length row < r.words
    → left_tried None row ≡ stored kind o row
unfolding stored
stored_short kind {o} {r} row e k = rw e (simp (lt-leb r.words (length row) k))

pub stored_done : (kind : ℕ) {o : Option Item} {r : Item} (row : List ℕ) {last : List ℕ} → o ≡ Some r → r.words ≤ length row
    → last ≡ sets row 0 (kind ∷ item_words r) → left_tried (tried.Item r.words r.took) last ≡ stored kind o row
unfolding stored
stored_done kind {o} {r} row is k e =
    rw is
    (ap (λ (l : List ℕ). left_tried (tried.Item r.words r.took) l) e ∙ simp (le-leb r.words (length row) k))

-- ---- a representation

pub rep_first : (g : ℕ) (bs : List ℕ) → 0 < length bs → byte bs 0 ≡ 0x7f → Some (number 0 1) ≡ one g field.Rep bs
unfolding scan scan_either fill one_of
rep_first g bs h e = simp (lt-leb _ _ h, e)

pub rep_second : (g : ℕ) (bs : List ℕ) → 1 ≤ g → 0 < length bs → byte bs 0 ≡ 0x7e → Some (number 1 1) ≡ one g field.Rep bs
unfolding scan scan_either fill one_of
rep_second g bs k h e = simp (lt-leb _ _ h, e, le-ltb g 1 k)

pub rep_other : (g : ℕ) (bs : List ℕ) → 0 < length bs → (byte bs 0 ≡ 0x7f → ⊥) → (byte bs 0 ≡ 0x7e → ⊥) → None ≡ one g field.Rep bs
unfolding scan scan_either one_of
rep_other g bs h k l = simp (lt-leb _ _ h, ne_eqb _ _ k, ne_eqb _ _ l)

pub rep_empty : (g : ℕ) (bs : List ℕ) → length bs ≤ 0 → None ≡ one g field.Rep bs
unfolding scan scan_either one_of
rep_empty g bs h = simp (le-leb _ _ h)

-- one that is right has one byte, which is there
pub rep_byte_lem : (g : ℕ) (bs : List ℕ) {x : Number} → Some x ≡ one g field.Rep bs → (x.took ≡ 1) × (0 < length bs)
unfolding scan scan_either one_of
rep_byte_lem g bs {x} h = go (leb (length bs) 0) refl (eqb (byte bs 0) 0x7f) (eqb (byte bs 0) 0x7e) (ltb g 1) h
  where
    there : Bool → Bool → Bool → Bool → Option Number
    there o p q r =
        one_of (cond o (cut bs) (cond p (Fine 1 1) (cond q (cond r (Bad Newer 0) (Fine 1 1)) (Bad Code 0)))) (fill g field.Rep 0 bs)

    took_one : {n : ℕ} → Some x ≡ Some (number n 1) → x.took ≡ 1
    took_one {n} e = let same : x ≡ number n 1 = cc in ap (λ (y : Number). y.took) same

    go : (o : Bool) → leb (length bs) 0 ≡ o → (p q r : Bool) → Some x ≡ there o p q r → (x.took ≡ 1) × (0 < length bs)
    go true e p q r h = impossible cc
    go false e true q r h = (took_one h, leb-false (length bs) 0 e)
    go false e false true true h = impossible cc
    go false e false true false h = (took_one h, leb-false (length bs) 0 e)
    go false e false false r h = impossible cc

-- ---- a destructor

pub dtor_none : (g : ℕ) (bs : List ℕ) → 0 < length bs → byte bs 0 ≡ 0 → Some (pair_is 1 0 0) ≡ pair g field.OptionalIndex bs
unfolding scan scan_optional_index fill pair_of
dtor_none g bs h e = simp (lt-leb _ _ h, e)

-- 01, and what is seen behind it: an index, or none
index-behind : (s : List ℕ) (r : Taken) {x : Number} → Some x ≡ seen r
    → Some (pair_is (1 + x.took) 1 x.value) ≡ pair_of (past 1 (numbered s r 2)) (1 ∷ value_in r ∷ [])
unfolding pair_of
index-behind s (Ok n) {x} h = let same : x ≡ n = cc in ap (λ (y : Number). Some (pair_is (1 + y.took) 1 y.value)) same
index-behind s taken.Cut h = impossible cc
index-behind s taken.Bad h = impossible cc

none_behind : (s : List ℕ) (r : Taken) → None ≡ seen r → None ≡ pair_of (past 1 (numbered s r 2)) (1 ∷ value_in r ∷ [])
unfolding pair_of
none_behind s (Ok n) h = impossible cc
none_behind s taken.Cut h = refl
none_behind s taken.Bad h = refl

pub dtor_some : (g : ℕ) (bs : List ℕ) {x : Number} → 0 < length bs → byte bs 0 ≡ 1 → Some x ≡ seen (take_unsigned (drop 1 bs))
    → Some (pair_is (1 + x.took) 1 x.value) ≡ pair g field.OptionalIndex bs
unfolding scan scan_optional_index scan_index fill
dtor_some g bs h e s = index-behind (drop 1 bs) (take_unsigned (drop 1 bs)) s ∙ simp (lt-leb _ _ h, e)

pub dtor_wrong : (g : ℕ) (bs : List ℕ) → 0 < length bs → byte bs 0 ≡ 1 → None ≡ seen (take_unsigned (drop 1 bs))
    → None ≡ pair g field.OptionalIndex bs
unfolding scan scan_optional_index scan_index fill
dtor_wrong g bs h e s = none_behind (drop 1 bs) (take_unsigned (drop 1 bs)) s ∙ simp (lt-leb _ _ h, e)

pub dtor_other : (g : ℕ) (bs : List ℕ) → 0 < length bs → (byte bs 0 ≡ 0 → ⊥) → (byte bs 0 ≡ 1 → ⊥)
    → None ≡ pair g field.OptionalIndex bs
unfolding scan scan_optional_index pair_of
dtor_other g bs h k l = simp (lt-leb _ _ h, ne_eqb _ _ k, ne_eqb _ _ l)

pub dtor_empty : (g : ℕ) (bs : List ℕ) → length bs ≤ 0 → None ≡ pair g field.OptionalIndex bs
unfolding scan scan_optional_index pair_of
dtor_empty g bs h = simp (le-leb _ _ h)

-- a number that is seen has at most five bytes, wherever it is
pub seen_few : (s : List ℕ) {x : Number} → Some x ≡ seen (take_unsigned s) → x.took ≤ 5
seen_few s {x} e = (seen-some u32 s x (sym e)).2

-- ---- a resource

-- a representation that is right: one byte, and a word
rep_here : (g : ℕ) (input : List ℕ) {x : Number} → Some x ≡ one g field.Rep (drop 1 input) → Here g input 1 field.Rep 1 1 (x.value ∷ [])
unfolding wide
rep_here g input {x} e =
    let k = rep_byte_lem g (drop 1 input) e in
    let q = one-some g field.Rep (drop 1 input) refl x (sym e) in
    record {
      right = q.0 ∙ ap (λ (t : ℕ). Fine t 1) k.0;
      words = fill_at g field.Rep 1 (drop 1 input) tt ∙ q.1;
      some = omega arith;
      inside = omega (arith, k.1, length-drop 1 input);
    }

-- behind it, a destructor's place is there
pub rep_there : (input : List ℕ) {x : Number} → Some x ≡ one 1 field.Rep (drop 1 input) → 2 ≤ length input
rep_there input e = (rep_here 1 input e).inside

-- a destructor that is right stands in the input
pub dtor_inside : (g : ℕ) (input : List ℕ) {y : Pair} → Some y ≡ pair g field.OptionalIndex (drop 2 input) → 2 + y.took ≤ length input
dtor_inside g input d = (pair_at g input destructor 2 d).inside

module _ (g : ℕ) (input : List ℕ) where
  -- the representation is not right
  pub resource_first : None ≡ one g field.Rep (drop 1 input) → {r : Option Item} → r ≡ None
      → Told (scans g input (field.Rep ∷ field.OptionalIndex ∷ []) 1 1) (fills g input (field.Rep ∷ field.OptionalIndex ∷ []) 1) r
  resource_first e z = no_first g input field.Rep field.OptionalIndex (one_none g field.Rep (drop 1 input) (sym e)) z

  -- the destructor is not
  pub resource_second : {x : Number} → Some x ≡ one g field.Rep (drop 1 input) → None ≡ pair g field.OptionalIndex (drop 2 input)
      → {r : Option Item} → r ≡ None
      → Told (scans g input (field.Rep ∷ field.OptionalIndex ∷ []) 1 1) (fills g input (field.Rep ∷ field.OptionalIndex ∷ []) 1) r
  resource_second e d z =
      no_second g input field.OptionalIndex (rep_here g input e) (pair_none g field.OptionalIndex (drop 2 input) (sym d)) z

  -- both are
  pub resource_both : {x : Number} → Some x ≡ one g field.Rep (drop 1 input) → {y : Pair} → Some y ≡ pair g field.OptionalIndex (drop 2 input)
      → Told (scans g input (field.Rep ∷ field.OptionalIndex ∷ []) 1 1) (fills g input (field.Rep ∷ field.OptionalIndex ∷ []) 1)
      (Some (record { took = 2 + y.took; words = 4; a = x.value; b = y.a; c = y.b; d = 0 }))
  unfolding item_words
  resource_both {x} e {y} d =
      both g input (rep_here g input e) (pair_at g input destructor 2 d)
      (record { took = 2 + y.took; words = 4; a = x.value; b = y.a; c = y.b; d = 0 }) refl refl refl
