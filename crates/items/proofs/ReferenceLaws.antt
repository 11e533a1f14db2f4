-- A reference as straight code reads it: what the tests on its bytes, and an index or a V that is seen behind them, say of its scan and
-- its words.
use Rattle.std.specs.Prelude.{Err, Ok, Some, None, option_map}
use Prim.Native.Nat.{ℕ, ◌+◌, ◌≤◌, ◌<◌}
use native.Mathlib.Omega.{arith}
use mathlib.Core.Path.{◌≡◌, refl, sym, ap, ◌∙◌}
use mathlib.Core.List.{List, [], ◌∷◌}
use borrow.Author.Tests.{lt-ltb, le-ltb, lt-leb, le-leb, ne_eqb}
use lib.ListN.{length, drop}
use Rattle.numbers.specs.declared.leb.Number.{Number}
use Rattle.numbers.specs.Taken.{Taken}
use Rattle.numbers.specs.Taken as taken
use Rattle.numbers.specs.Integers.{u32}
use Rattle.numbers.specs.Leb.{take_unsigned}
use Rattle.numbers.specs.Seen.{seen}
use Rattle.numbers.proofs.Impossible.{impossible}
use Rattle.numbers.proofs.SeenLaws.{seen-some}
use Rattle.fields.specs.declared.Field.TheVariants as field
use Rattle.fields.specs.Leaf.{Leaf, Fine}
use Rattle.reading.specs.Fill.{value_in, index, fill, fill_value, fill_reference}
use Rattle.fields.specs.Words.{wide}
use Rattle.reading.specs.Scan.{byte, past, numbered, scan, scan_index, scan_value, scan_module, scan_bound, scan_reference}
use Rattle.reading.specs.Scan as fields
use Rattle.reading.specs.declared.Pair.{Pair}
use Rattle.reading.specs.Seen.{pair}
use Rattle.reading.proofs.StepLaws.{Wrong, pair-some, pair_none}
use Rattle.items.specs.inside.Import.{three, three_of, three_is, indexed_is, indexed_three}

-- ---- an index, as it is seen

module _ (bs : List ℕ) where
  -- where there is one, it is the one taken, of at most 5 bytes
  pub index_taken : (n : Number) → Some n ≡ seen (take_unsigned bs) → (take_unsigned bs ≡ taken.Value n.value n.took) × (n.took ≤ 5)
  index_taken n e = let s = seen-some u32 bs n (sym e) in (s.0, s.2)

  -- it is scanned, and is the word
  pub index_fine : (n : Number) → Some n ≡ seen (take_unsigned bs) → (scan_index 3 bs ≡ Fine n.took 3) × (index bs ≡ n.value)
  unfolding scan_index
  index_fine n e = let t = (index_taken n e).0 in (simp t, simp t)

  -- where there is none, what it stands in is not right
  pub index_none : None ≡ seen (take_unsigned bs) → (k : ℕ) (ws : List ℕ) → None ≡ three_of (past k (scan_index 3 bs)) ws
  unfolding scan_index three_of
  index_none e k ws = go (take_unsigned bs) e
    where
      go : (t : Taken) → None ≡ seen t → None ≡ three_of (past k (numbered bs t 3)) ws
      go (Ok got) e = impossible cc
      go taken.Cut e = refl
      go taken.Bad e = refl

-- ---- a sort and, behind k bytes, an index

module _ (sort k : ℕ) (bs : List ℕ) where
  -- an index is seen
  pub indexed_some : (n : Number) → Some n ≡ seen (take_unsigned (drop k bs)) → Some (three_is (k + n.took) sort n.value 0) ≡ indexed_three sort k bs
  indexed_some n e = ap (option_map (indexed_is sort k)) e

  -- none is seen
  pub indexed_none : None ≡ seen (take_unsigned (drop k bs)) → None ≡ indexed_three sort k bs
  indexed_none e = ap (option_map (indexed_is sort k)) e

  -- it is scanned behind k bytes, and these are its words
  pub indexed_is_lem : indexed_three sort k bs ≡ three_of (past k (scan_index 3 (drop k bs))) (sort ∷ index (drop k bs) ∷ 0 ∷ [])
  unfolding scan_index three_of
  indexed_is_lem = go (take_unsigned (drop k bs))
    where
      go : (t : Taken) → option_map (indexed_is sort k) (seen t) ≡ three_of (past k (numbered (drop k bs) t 3)) (sort ∷ value_in t ∷ 0 ∷ [])
      go (Ok got) = refl
      go taken.Cut = refl
      go taken.Bad = refl

module _ (g : ℕ) (bs : List ℕ) where
  -- ---- a reference by its first byte

  -- no byte
  pub reference_empty : length bs ≤ 0 → None ≡ three g bs
  unfolding scan scan_reference three_of
  reference_empty h = simp (le-leb (length bs) 0 h)

  -- a sort that an index follows
  pub reference_indexed : 0 < length bs → (byte bs 0 ≡ 3 → ⊥) → (byte bs 0 ≡ 2 → ⊥) → (byte bs 0 ≡ 0 → ⊥) → byte bs 0 < 6
      → indexed_three (byte bs 0) 1 bs ≡ three g bs
  unfolding scan fill scan_reference fill_reference
  reference_indexed h k l m s =
      indexed_is_lem (byte bs 0) 1 bs
      ∙ simp (lt-leb (length bs) 0 h, ne_eqb (byte bs 0) 3 k, ne_eqb (byte bs 0) 2 l, ne_eqb (byte bs 0) 0 m, lt-ltb (byte bs 0) 6 s)

  -- a byte that is no sort
  pub reference_other : 0 < length bs → 6 ≤ byte bs 0 → None ≡ three g bs
  unfolding scan scan_reference three_of
  reference_other h s =
      let k : byte bs 0 ≡ 3 → ⊥ = λ e. omega (arith, s, e) in
      let l : byte bs 0 ≡ 2 → ⊥ = λ e. omega (arith, s, e) in
      let m : byte bs 0 ≡ 0 → ⊥ = λ e. omega (arith, s, e) in
      simp (lt-leb (length bs) 0 h, ne_eqb (byte bs 0) 3 k, ne_eqb (byte bs 0) 2 l, ne_eqb (byte bs 0) 0 m, le-ltb (byte bs 0) 6 s)

  -- ---- core module: 00

  module _ (some : 0 < length bs) (first : byte bs 0 ≡ 0) where
    -- nothing follows
    pub module_short : length bs ≤ 1 → None ≡ three g bs
    unfolding scan scan_reference scan_module three_of
    module_short h = simp (lt-leb (length bs) 0 some, first, le-leb (length bs) 1 h)

    -- 11 and an index
    pub module_is : 1 < length bs → byte bs 1 ≡ 0x11 → indexed_three 0 2 bs ≡ three g bs
    unfolding scan fill scan_reference scan_module fill_reference
    module_is h s = indexed_is_lem 0 2 bs ∙ simp (lt-leb (length bs) 0 some, first, lt-leb (length bs) 1 h, s)

    -- another byte
    pub module_other : 1 < length bs → (byte bs 1 ≡ 0x11 → ⊥) → None ≡ three g bs
    unfolding scan scan_reference scan_module three_of
    module_other h s = simp (lt-leb (length bs) 0 some, first, lt-leb (length bs) 1 h, ne_eqb (byte bs 1) 0x11 s)

  -- ---- value: 02, and what is read of a V behind it

  module _ (some : 0 < length bs) (first : byte bs 0 ≡ 2) where
    -- the V is right
    pub valued_some : (v : Pair) → Some v ≡ pair g field.Value (drop 1 bs) → Some (three_is (1 + v.took) 2 v.a v.b) ≡ three g bs
    unfolding scan fill scan_reference fill_reference three_of wide
    valued_some v e =
        let p = pair-some g field.Value (drop 1 bs) refl v (sym e) in
        let fine : scan_value g (drop 1 bs) ≡ Fine v.took 2 = p.0 in
        let words : fill_value (drop 1 bs) ≡ v.a ∷ v.b ∷ [] = p.1 in
        simp (lt-leb (length bs) 0 some, first, fine, words)

    -- it is not
    pub valued_none : None ≡ pair g field.Value (drop 1 bs) → None ≡ three g bs
    unfolding scan scan_reference three_of
    valued_none e =
        simp (lt-leb (length bs) 0 some, first)
        (go (scan_value g (drop 1 bs)) (fill g field.Reference 0 bs) (pair_none g field.Value (drop 1 bs) (sym e)))
      where
        go : (l : Leaf) (ws : List ℕ) → Wrong l → None ≡ three_of (fields.three (past 1 l)) ws
        go (Ok span) ws w = absurd w
        go (Err fault) ws w = refl

  -- ---- type: 03

  module _ (some : 0 < length bs) (first : byte bs 0 ≡ 3) where
    -- nothing follows
    pub bound_short : length bs ≤ 1 → None ≡ three g bs
    unfolding scan scan_reference scan_bound three_of
    bound_short h = simp (lt-leb (length bs) 0 some, first, le-leb (length bs) 1 h)

    module _ (two : 1 < length bs) where
      -- 00, and an index that is seen
      pub bound_some : byte bs 1 ≡ 0 → (n : Number) → Some n ≡ seen (take_unsigned (drop 2 bs))
          → Some (three_is (2 + n.took) 3 0 n.value) ≡ three g bs
      unfolding scan fill scan_reference scan_bound fill_reference three_of
      bound_some s n e =
          let q = index_fine (drop 2 bs) n e in
          simp (lt-leb (length bs) 0 some, first, lt-leb (length bs) 1 two, s, q.0, q.1)

      -- 00, and no index
      pub bound_none : byte bs 1 ≡ 0 → None ≡ seen (take_unsigned (drop 2 bs)) → None ≡ three g bs
      unfolding scan scan_reference scan_bound
      bound_none s e =
          index_none (drop 2 bs) e 2 (fill g field.Reference 0 bs)
          ∙ simp (lt-leb (length bs) 0 some, first, lt-leb (length bs) 1 two, s)

      -- 01
      pub bound_free : byte bs 1 ≡ 1 → Some (three_is 2 3 1 0) ≡ three g bs
      unfolding scan fill scan_reference scan_bound fill_reference three_of
      bound_free s = simp (lt-leb (length bs) 0 some, first, lt-leb (length bs) 1 two, s)

      -- another byte
      pub bound_other : (byte bs 1 ≡ 0 → ⊥) → (byte bs 1 ≡ 1 → ⊥) → None ≡ three g bs
      unfolding scan scan_reference scan_bound three_of
      bound_other s t =
          simp (lt-leb (length bs) 0 some, first, lt-leb (length bs) 1 two, ne_eqb (byte bs 1) 0 s, ne_eqb (byte bs 1) 1 t)
