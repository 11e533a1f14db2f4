-- Primitives and names as straight code sees them: what the test on a byte says of the scan of a primitive, and what a length that is
-- seen says of a name.
use Rattle.std.specs.Prelude.{Ok, Some, None}
use Prim.Native.Nat.{ℕ, ◌+◌, ◌^◌, ◌≤◌, ◌<◌}
use native.Mathlib.Nat.{zero-add}
use mathlib.Core.Path.{◌≡◌, refl, sym, ◌∙◌}
use mathlib.Core.Bool.{Bool, true, false, cond}
use mathlib.Core.List.{List}
use lib.Dec.{eqb, ltb, leb}
use lib.ListN.{length, take, drop}
use borrow.Author.Tests.{lt-leb, le-leb, ltb-true, ltb-false}
use Rattle.numbers.specs.declared.leb.Number.{Number}
use Rattle.numbers.specs.Taken.{Taken}
use Rattle.numbers.specs.Taken as taken
use Rattle.numbers.specs.Integers.{u32}
use Rattle.numbers.specs.Leb.{take_unsigned}
use Rattle.numbers.specs.Seen.{number, seen}
use Rattle.numbers.specs.Text.{text}
use Rattle.numbers.proofs.SeenLaws.{seen-some, seen_none}
use Rattle.fields.specs.declared.Field.TheVariants as field
use Rattle.fields.specs.Leaf.{Leaf, Fine, Bad}
use Rattle.fields.specs.declared.Refusal.{Refusal}
use Rattle.fields.specs.declared.Refusal.TheVariants.{Code, Newer}
use Rattle.reading.specs.Fill.{primitive, fill_name, fill}
use Rattle.reading.specs.Scan.{byte, scan_name, scan_primitive, scan}
use Rattle.reading.specs.Seen.{one, pair, one_of, pair_of, pair_is}
use Rattle.reading.specs.inside.Steps.{is_primitive}
use Rattle.numbers.proofs.Impossible.{impossible}

-- ---- primitives

-- a test that fails does not hold
no_flag : {P : Type 0} → false ≡ true → P
no_flag e = impossible cc

-- a byte of a primitive is scanned as what it stands for
pub scan_is : (g b : ℕ) (l : Leaf) → is_primitive g b ≡ true → scan_primitive g b l ≡ l
unfolding is_primitive scan_primitive
scan_is g b l h = go (eqb b 0x64) (ltb g 2) refl (ltb b 0x73) (ltb b 0x80) h
  where
    go : (p q : Bool) → ltb g 2 ≡ q → (r s : Bool) → cond p (leb 2 g) (cond r false s) ≡ true
        → cond p (cond q (Bad Newer 0) l) (cond r (Bad Code 0) (cond s l (Bad Code 0))) ≡ l
    go true true e r s h = no_flag (sym (lt-leb 2 g (ltb-true g 2 e)) ∙ h)
    go true false e r s h = refl
    go false q e true s h = no_flag h
    go false q e false true h = refl
    go false q e false false h = no_flag h

-- any other byte is scanned as a fault at it
pub scan_not : {X : Type 0} (f : Leaf → X) (x : X) → ((w : Refusal) (j : ℕ) → x ≡ f (Bad w j)) → (g b : ℕ) (l : Leaf)
    → is_primitive g b ≡ false → x ≡ f (scan_primitive g b l)
unfolding is_primitive scan_primitive
scan_not f x bad g b l h = go (eqb b 0x64) (ltb g 2) refl (ltb b 0x73) (ltb b 0x80) h
  where
    go : (p q : Bool) → ltb g 2 ≡ q → (r s : Bool) → cond p (leb 2 g) (cond r false s) ≡ false
        → x ≡ f (cond p (cond q (Bad Newer 0) l) (cond r (Bad Code 0) (cond s l (Bad Code 0))))
    go true true e r s h = bad Newer 0
    go true false e r s h = no_flag (sym h ∙ le-leb 2 g (ltb-false g 2 e))
    go false q e true s h = bad Code 0
    go false q e false true h = no_flag (sym h)
    go false q e false false h = bad Code 0

module _ (g : ℕ) (bs : List ℕ) where
  -- no byte, a byte of a primitive, and any other byte
  pub primitive_none : length bs ≤ 0 → None ≡ one g field.Primitive bs
  unfolding one_of scan
  primitive_none h = simp (le-leb (length bs) 0 h)

  pub primitive_is : 0 < length bs → is_primitive g (byte bs 0) ≡ true → Some (number (primitive (byte bs 0)) 1) ≡ one g field.Primitive bs
  unfolding one_of scan fill
  primitive_is h e = simp (lt-leb (length bs) 0 h, scan_is g (byte bs 0) (Fine 1 1) e)

  pub primitive_not : 0 < length bs → is_primitive g (byte bs 0) ≡ false → None ≡ one g field.Primitive bs
  unfolding one_of scan
  primitive_not h e =
      rw (lt-leb (length bs) 0 h)
      (scan_not (λ l. one_of l (fill g field.Primitive 0 bs)) None (λ w j. refl) g (byte bs 0) (Fine 1 1) e)

-- ---- names

-- a length r as it is seen
module _ (bs : List ℕ) (r : Number) (e : Some r ≡ seen (take_unsigned bs)) where
  -- it is the one taken; it has 1 to 5 bytes, which are there, and 32 bits
  pub index_seen : (take_unsigned bs ≡ taken.Value r.value r.took) × (0 < r.took) × (r.took ≤ 5) × (r.took ≤ length bs) × (r.value < 2 ^ 32)
  index_seen = seen-some u32 bs r (sym e)

  -- the name is there, and text
  pub name_fine : r.took + r.value ≤ length bs → text (take r.value (drop r.took bs)) ≡ true
      → Some (pair_is (r.took + r.value) r.took r.value) ≡ pair 1 field.Name bs
  unfolding pair_of scan scan_name fill fill_name
  name_fine k x = simp (zero-add, index_seen.0, le-leb (r.took + r.value) (length bs) k, x)

  -- its bytes are no text, or not all there
  pub name_text : r.took + r.value ≤ length bs → text (take r.value (drop r.took bs)) ≡ false → None ≡ pair 1 field.Name bs
  unfolding pair_of scan scan_name
  name_text k x = simp (index_seen.0, le-leb (r.took + r.value) (length bs) k, x)

  pub name_cut : length bs < r.took + r.value → None ≡ pair 1 field.Name bs
  unfolding pair_of scan scan_name
  name_cut k = simp (index_seen.0, lt-leb (r.took + r.value) (length bs) k)

-- there is no length
pub name_none : (bs : List ℕ) → None ≡ seen (take_unsigned bs) → None ≡ pair 1 field.Name bs
unfolding pair_of scan scan_name
name_none bs e = go (take_unsigned bs) refl
  where
    go : (x : Taken) → take_unsigned bs ≡ x → None ≡ pair 1 field.Name bs
    go (Ok got) x = absurd (seen_none (take_unsigned bs) (sym e) got.value got.took x)
    go taken.Cut x = simp x
    go taken.Bad x = simp x
