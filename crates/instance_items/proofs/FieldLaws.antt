-- The fields of a group by the kind; and the second field as straight code reads it: what the tests on its bytes, and an index that is
-- seen behind them, say of its scan and its words.
use Rattle.std.specs.Prelude.{Err, Ok, Option, Some, None, IsSome, option_map}
use Prim.Native.Nat.{ℕ, zero, suc, ◌+◌, ◌≤◌, ◌<◌}
use native.Mathlib.Omega.{arith}
use mathlib.Core.Path.{◌≡◌, refl, sym, ap, ◌∙◌, subst}
use mathlib.Core.Bool.{Bool, true, false, cond}
use mathlib.Core.List.{List, [], ◌∷◌}
use borrow.Author.Tests.{lt-ltb, le-ltb, lt-leb, le-leb, ne_eqb}
use lib.Dec.{eqb}
use lib.ListN.{length, drop}
use Rattle.numbers.specs.declared.leb.Number.{Number}
use Rattle.numbers.specs.Taken.{Taken}
use Rattle.numbers.specs.Taken as taken
use Rattle.numbers.specs.Leb.{take_unsigned}
use Rattle.numbers.specs.Seen.{seen}
use Rattle.numbers.proofs.Impossible.{impossible}
use Rattle.fields.specs.declared.Field.{Field}
use Rattle.fields.specs.declared.Field.TheVariants as field
use Rattle.fields.specs.Leaf.{Leaf}
use Rattle.fields.specs.Words.{wide}
use Rattle.reading.specs.Fill.{value_in, index, fill, fill_sort_index}
use Rattle.reading.specs.Scan.{byte, past, numbered, scan, scan_index, scan_module, scan_argument, scan_core_sort_index, scan_sort_index}
use Rattle.reading.specs.declared.Pair.{Pair}
use Rattle.reading.specs.Seen.{pair, pair_of, pair_is}
use Rattle.reading.specs.inside.Steps.{end_of}
use Rattle.reading.proofs.FillLaws.{name_seen, name_words}
use Rattle.reading.proofs.ScannedLaws.{one_takes}
use Rattle.reading.proofs.StepLaws.{Taking, pair-some}
use Rattle.instance_items.specs.inside.Group.{group_one, group_two, sort_is, sort_pair, argument_is}

-- ---- the fields by the kind

pub one_name : (kind : ℕ) → (kind ≡ 21 → ⊥) → group_one kind ≡ field.Name
unfolding group_one
one_name kind n = simp (ne_eqb kind 21 n)

pub one_extern : (kind : ℕ) → kind ≡ 21 → group_one kind ≡ field.ExternName
unfolding group_one
one_extern kind e = rw e

pub two-argument : (kind : ℕ) → kind ≡ 18 → group_two kind ≡ field.Argument
unfolding group_two
two-argument kind e = rw e

pub two_core : (kind : ℕ) → kind ≡ 20 → group_two kind ≡ field.CoreSortIndex
unfolding group_two
two_core kind e = rw e

pub two_sort : (kind : ℕ) → (kind ≡ 18 → ⊥) → (kind ≡ 20 → ⊥) → group_two kind ≡ field.SortIndex
unfolding group_two
two_sort kind n m = simp (ne_eqb kind 18 n, ne_eqb kind 20 m)

pub one-taking : (kind : ℕ) → Taking (group_one kind)
unfolding group_one
one-taking kind = go (eqb kind 21)
  where
    go : (b : Bool) → Taking (cond b field.ExternName field.Name)
    go true = tt
    go false = tt

-- the second is one of three, which no grade and no place changes
module _ (kind : ℕ) where
  pub two_taking : Taking (group_two kind)
  unfolding group_two
  two_taking = go (eqb kind 18) (eqb kind 20)
    where
      go : (a b : Bool) → Taking (cond a field.Argument (cond b field.CoreSortIndex field.SortIndex))
      go true b = tt
      go false true = tt
      go false false = tt

  pub two_scan : (g : ℕ) (bs : List ℕ) → scan 1 g (group_two kind) bs ≡ scan 1 1 (group_two kind) bs
  unfolding group_two scan
  two_scan g bs = go (eqb kind 18) (eqb kind 20)
    where
      go : (a b : Bool)
          → scan 1 g (cond a field.Argument (cond b field.CoreSortIndex field.SortIndex)) bs
          ≡ scan 1 1 (cond a field.Argument (cond b field.CoreSortIndex field.SortIndex)) bs
      go true b = refl
      go false true = refl
      go false false = refl

  pub two_fill : (g at : ℕ) (bs : List ℕ) → fill 1 (group_two kind) 0 bs ≡ fill g (group_two kind) at bs
  unfolding group_two fill
  two_fill g at bs = go (eqb kind 18) (eqb kind 20)
    where
      go : (a b : Bool)
          → fill 1 (cond a field.Argument (cond b field.CoreSortIndex field.SortIndex)) 0 bs
          ≡ fill g (cond a field.Argument (cond b field.CoreSortIndex field.SortIndex)) at bs
      go true b = refl
      go false true = refl
      go false false = refl

-- how many words they have
pub one-wide-name : (kind : ℕ) → (kind ≡ 21 → ⊥) → wide (group_one kind) ≡ 2
unfolding wide
one-wide-name kind n = ap wide (one_name kind n)

pub one-wide_extern : (kind : ℕ) → kind ≡ 21 → wide (group_one kind) ≡ 11
unfolding wide
one-wide_extern kind e = ap wide (one_extern kind e)

pub two-wide-argument : (kind : ℕ) → kind ≡ 18 → wide (group_two kind) ≡ 1
unfolding wide
two-wide-argument kind e = ap wide (two-argument kind e)

pub two-wide-pair : (kind : ℕ) → (kind ≡ 18 → ⊥) → wide (group_two kind) ≡ 2
unfolding group_two wide
two-wide-pair kind n = simp (ne_eqb kind 18 n) (go (eqb kind 20))
  where
    go : (b : Bool) → wide (cond b field.CoreSortIndex field.SortIndex) ≡ 2
    go true = refl
    go false = refl

pub two-wide-some : (kind : ℕ) → 1 ≤ wide (group_two kind)
unfolding group_two wide
two-wide-some kind = go (eqb kind 18) (eqb kind 20)
  where
    go : (a b : Bool) → 1 ≤ wide (cond a field.Argument (cond b field.CoreSortIndex field.SortIndex))
    go true b = omega arith
    go false true = omega arith
    go false false = omega arith

-- what is not empty has a byte
pub some_of : (n : ℕ) → (n ≡ 0 → ⊥) → 0 < n
some_of zero h = absurd (h refl)
some_of (suc n) h = omega arith

-- ---- what a step says of where its field ends

abbrev pub took_of : Option Pair → Option ℕ
took_of r = option_map (λ (x : Pair). x.took) r

pub pair-took : (g : ℕ) (f : Field) (bs : List ℕ) → took_of (pair g f bs) ≡ end_of (scan 1 g f bs)
unfolding pair_of end_of
pair-took g f bs = go (scan 1 g f bs)
  where
    go : (l : Leaf) → took_of (pair_of l (fill g f 0 bs)) ≡ end_of l
    go (Ok span) = refl
    go (Err fault) = refl

-- a step whose field is right answers
pub pair-right : (g : ℕ) (f : Field) (bs : List ℕ) → IsSome (end_of (scan 1 g f bs)) → IsSome (pair g f bs)
unfolding pair_of end_of
pair-right g f bs h = go (scan 1 g f bs) h
  where
    go : (l : Leaf) → IsSome (end_of l) → IsSome (pair_of l (fill g f 0 bs))
    go (Ok span) h = refl
    go (Err fault) h = impossible cc

-- a name
pub name-took : (kind g : ℕ) (bs : List ℕ) → (kind ≡ 21 → ⊥) → took_of (pair 1 field.Name bs) ≡ end_of (scan 1 g (group_one kind) bs)
unfolding scan
name-took kind g bs n = pair-took 1 field.Name bs ∙ ap (λ (f : Field). end_of (scan 1 g f bs)) (sym (one_name kind n))

-- a name that is right: its length is seen
pub name-seen : (kind g : ℕ) (bs : List ℕ) → (kind ≡ 21 → ⊥) → IsSome (end_of (scan 1 g (group_one kind) bs)) → IsSome (seen (take_unsigned bs))
unfolding end_of
name-seen kind g bs n h =
    go (scan 1 g field.Name bs) refl (subst (λ (f : Field). IsSome (end_of (scan 1 g f bs))) (one_name kind n) h)
  where
    go : (l : Leaf) → scan 1 g field.Name bs ≡ l → IsSome (end_of l) → IsSome (seen (take_unsigned bs))
    go (Ok span) p h = name_seen g bs span.took span.made p
    go (Err fault) p h = impossible cc

-- where it is seen as x
pub name-stored : (kind g at : ℕ) (bs : List ℕ) (x : Number) → (kind ≡ 21 → ⊥) → seen (take_unsigned bs) ≡ Some x
    → IsSome (end_of (scan 1 g (group_one kind) bs))
    → (Some (x.took + x.value) ≡ end_of (scan 1 g (group_one kind) bs))
    × (fill g (group_one kind) at bs ≡ (at + x.took) ∷ x.value ∷ []) × (x.took + x.value ≤ length bs)
unfolding end_of
name-stored kind g at bs x n e h =
    subst
    (λ (f : Field). (Some (x.took + x.value) ≡ end_of (scan 1 g f bs)) × (fill g f at bs ≡ (at + x.took) ∷ x.value ∷ [])
    × (x.took + x.value ≤ length bs))
    (sym (one_name kind n))
    (go (scan 1 g field.Name bs) refl (subst (λ (f : Field). IsSome (end_of (scan 1 g f bs))) (one_name kind n) h))
  where
    go : (l : Leaf) → scan 1 g field.Name bs ≡ l → IsSome (end_of l)
        → (Some (x.took + x.value) ≡ end_of l) × (fill g field.Name at bs ≡ (at + x.took) ∷ x.value ∷ []) × (x.took + x.value ≤ length bs)
    go (Ok span) p h =
        let w = name_words g at bs span.took span.made p x e in
        let b = one_takes 1 g field.Name bs (scan 1 g field.Name bs) refl span.took span.made p in
        (ap Some (sym w.3), w.4, omega (arith, w.3, b.0))
    go (Err fault) p h = impossible cc

-- the words of the second field, where it is right
pub argument_words : (kind : ℕ) (bs : List ℕ) (x : Pair) → kind ≡ 18 → Some x ≡ pair 1 (group_two kind) bs
    → x.a ∷ [] ≡ fill 1 (group_two kind) 0 bs
unfolding pair_of fill
argument_words kind bs x k e =
    let f : group_two kind ≡ field.Argument = two-argument kind k in
    go (scan 1 1 field.Argument bs) (e ∙ ap (λ (f : Field). pair 1 f bs) f) ∙ ap (λ (f : Field). fill 1 f 0 bs) (sym f)
  where
    go : (l : Leaf) → Some x ≡ pair_of l (index (drop 1 bs) ∷ []) → x.a ∷ [] ≡ index (drop 1 bs) ∷ []
    go (Ok span) h =
        let same : x ≡ pair_is span.took (index (drop 1 bs)) 0 = cc in
        ap (λ (y : Pair). y.a ∷ []) same
    go (Err fault) h = impossible cc

pub pair-words : (kind : ℕ) (bs : List ℕ) (x : Pair) → (kind ≡ 18 → ⊥) → Some x ≡ pair 1 (group_two kind) bs
    → x.a ∷ x.b ∷ [] ≡ fill 1 (group_two kind) 0 bs
pair-words kind bs x k e = sym (pair-some 1 (group_two kind) bs (two-wide-pair kind k) x (sym e)).1

-- ---- a sort and, behind k bytes, an index

sorted_is : (sort k : ℕ) (bs : List ℕ)
    → sort_pair sort k bs ≡ pair_of (past k (scan_index 2 (drop k bs))) (sort ∷ index (drop k bs) ∷ [])
unfolding scan_index pair_of
sorted_is sort k bs = go (take_unsigned (drop k bs))
  where
    go : (t : Taken) → option_map (sort_is sort k) (seen t) ≡ pair_of (past k (numbered (drop k bs) t 2)) (sort ∷ value_in t ∷ [])
    go (Ok got) = refl
    go taken.Cut = refl
    go taken.Bad = refl

-- no byte
pub second_empty : (kind g : ℕ) (bs : List ℕ) → length bs ≡ 0 → None ≡ pair g (group_two kind) bs
unfolding group_two scan scan_argument scan_core_sort_index scan_sort_index pair_of
second_empty kind g bs z = go (eqb kind 18) (eqb kind 20)
  where
    short : length bs ≤ 0
    short = omega arith

    go : (a b : Bool) → None ≡ pair g (cond a field.Argument (cond b field.CoreSortIndex field.SortIndex)) bs
    go true b = simp (le-leb (length bs) 0 short)
    go false true = simp (le-leb (length bs) 0 short)
    go false false = simp (le-leb (length bs) 0 short)

module _ (g : ℕ) (bs : List ℕ) (some : 0 < length bs) where
  -- ---- an argument

  pub argument_seen : byte bs 0 ≡ 0x12 → option_map argument_is (seen (take_unsigned (drop 1 bs))) ≡ pair g field.Argument bs
  unfolding scan fill scan_argument scan_index pair_of
  argument_seen first = simp (lt-leb (length bs) 0 some, first) (go (take_unsigned (drop 1 bs)))
    where
      go : (t : Taken) → option_map argument_is (seen t) ≡ pair_of (past 1 (numbered (drop 1 bs) t 1)) (value_in t ∷ [])
      go (Ok got) = refl
      go taken.Cut = refl
      go taken.Bad = refl

  pub argument_other : (byte bs 0 ≡ 0x12 → ⊥) → None ≡ pair g field.Argument bs
  unfolding scan scan_argument pair_of
  argument_other n = simp (lt-leb (length bs) 0 some, ne_eqb (byte bs 0) 0x12 n)

  -- ---- a core sort

  pub core_is : byte bs 0 < 5 → sort_pair (byte bs 0) 1 bs ≡ pair g field.CoreSortIndex bs
  unfolding scan fill scan_core_sort_index
  core_is s = sorted_is (byte bs 0) 1 bs ∙ simp (lt-leb (length bs) 0 some, lt-ltb (byte bs 0) 5 s)

  pub core_other : 5 ≤ byte bs 0 → None ≡ pair g field.CoreSortIndex bs
  unfolding scan scan_core_sort_index pair_of
  core_other s = simp (lt-leb (length bs) 0 some, le-ltb (byte bs 0) 5 s)

  -- ---- a sort

  module _ (first : byte bs 0 ≡ 0) where
    pub sort_short : length bs ≡ 1 → None ≡ pair g field.SortIndex bs
    unfolding scan scan_sort_index scan_module pair_of
    sort_short z =
        let short : length bs ≤ 1 = omega arith in
        simp (lt-leb (length bs) 0 some, first, le-leb (length bs) 1 short)

    module _ (more : length bs ≡ 1 → ⊥) where
      long : 1 < length bs
      long = go (length bs) some more
        where
          go : (n : ℕ) → 0 < n → (n ≡ 1 → ⊥) → 1 < n
          go zero h k = absurd (omega arith)
          go (suc zero) h k = absurd (k refl)
          go (suc (suc n)) h k = omega arith

      pub sort_module : byte bs 1 ≡ 0x11 → sort_pair 0 2 bs ≡ pair g field.SortIndex bs
      unfolding scan fill scan_sort_index scan_module fill_sort_index
      sort_module s = sorted_is 0 2 bs ∙ simp (lt-leb (length bs) 0 some, first, lt-leb (length bs) 1 long, s)

      pub sort_not : (byte bs 1 ≡ 0x11 → ⊥) → None ≡ pair g field.SortIndex bs
      unfolding scan scan_sort_index scan_module pair_of
      sort_not s = simp (lt-leb (length bs) 0 some, first, lt-leb (length bs) 1 long, ne_eqb (byte bs 1) 0x11 s)

  module _ (other : byte bs 0 ≡ 0 → ⊥) where
    pub sort_is_lem : byte bs 0 < 6 → sort_pair (byte bs 0) 1 bs ≡ pair g field.SortIndex bs
    unfolding scan fill scan_sort_index fill_sort_index
    sort_is_lem s = sorted_is (byte bs 0) 1 bs ∙ simp (lt-leb (length bs) 0 some, ne_eqb (byte bs 0) 0 other, lt-ltb (byte bs 0) 6 s)

    pub sort_other : 6 ≤ byte bs 0 → None ≡ pair g field.SortIndex bs
    unfolding scan scan_sort_index pair_of
    sort_other s = simp (lt-leb (length bs) 0 some, ne_eqb (byte bs 0) 0 other, le-ltb (byte bs 0) 6 s)
