-- The first byte of a canonical and the byte 00 behind it: what stands behind them, for each shape.
use Rattle.std.specs.Prelude.{Err, Ok, Option, Some, None}
use Prim.Native.Nat.{ℕ, ◌+◌, ◌≤◌, ◌<◌}
use native.Mathlib.Omega.{arith}
use native.Mathlib.Nat.{add-zero}
use mathlib.Core.Path.{◌≡◌, refl, sym, ap, ◌∙◌, subst}
use mathlib.Core.Bool.{Bool, true, false, cond}
use mathlib.Core.List.{List, [], ◌∷◌}
use lib.Dec.{eqb, ltb, leb}
use lib.ListN.{length, get_or, drop, length-drop}
use lib.Seq.{drop-drop, get_or-drop}
use borrow.Author.Tests.{le-ltb, lt-leb, le-leb, leb-true, leb-false, eq-eqb, eqb-true}
use Rattle.fields.specs.declared.Field.{Field}
use Rattle.fields.specs.declared.Field.TheVariants as field
use Rattle.fields.specs.Leaf.{Leaf, Fine, Bad}
use Rattle.fields.specs.declared.Refusal.TheVariants as refusal
use Rattle.fields.specs.declared.Shape.{Shape}
use Rattle.fields.specs.inside.Run.{along, makes}
use Rattle.fields.specs.Shape.{seq}
use Rattle.fields.specs.Table.{two_of}
use Rattle.fields.specs.Walk.{next, walk}
use Rattle.fields.proofs.RunLaws.{walk_end, outs-last}
use Rattle.reading.specs.Fill.{fill}
use Rattle.reading.specs.Read.{reader, scanned, filled}
use Rattle.reading.specs.Scan.{byte, cut, scan}
use Rattle.reading.specs.inside.Steps.{scans, fills}
use Rattle.reading.proofs.StepLaws.{Wrong, Open, scans-any, fills-any}
use Rattle.reading.proofs.TriedLaws.{along_nothing}
use Rattle.canonical_items.specs.inside.Begun.{Begun, has_zero, behind_zero}
use Rattle.numbers.proofs.Impossible.{impossible}

-- a fixed byte that stands there
fixed_seen : (lead g : ℕ) (input : List ℕ) (at b : ℕ) → at < length input → lead ≤ g → get_or input at 0 ≡ b
    → scan lead g (field.Fixed b) (drop at input) ≡ Fine 1 0
unfolding scan
fixed_seen lead g input at b h k e =
    simp (
      lt-leb (length (drop at input)) 0 (rw length-drop (omega arith)),
      get_or-drop at input 0 0 ∙ ap (λ i. get_or input i 0) (add-zero at),
      eq-eqb (get_or input at 0) b e,
      le-ltb g lead k,
    )

module _ (lead g b : ℕ) (input : List ℕ) (some : 0 < length input) (is : byte input 0 ≡ b) (low : lead ≤ g) where
  plain_scan : (fs : List Field)
      → along (scan lead g) (field.Fixed b ∷ field.Nothing ∷ fs) input 0 1 ≡ along (scan lead g) fs (drop 1 input) 1 1
  unfolding along scan
  plain_scan fs = rw (fixed_seen lead g input 0 b some low is)

  plain_fill : (fs : List Field)
      → makes (scan lead g) (fill g) (field.Fixed b ∷ field.Nothing ∷ fs) 0 input ≡ makes (scan lead g) (fill g) fs 1 (drop 1 input)
  unfolding makes fill scan
  plain_fill fs = rw (fixed_seen lead g input 0 b some low is)

  -- no byte 00
  pub begun_plain : Begun lead g b field.Nothing input 1
  begun_plain = record { scan_is = plain_scan; fill_is = plain_fill }

  module _ (there : 1 < length input) (zero : byte input 1 ≡ 0) where
    zero_scan : (fs : List Field)
        → along (scan lead g) (field.Fixed b ∷ field.Fixed 0 ∷ fs) input 0 1 ≡ along (scan lead g) fs (drop 2 input) 2 1
    unfolding along
    zero_scan fs =
        ap (λ l. next l (λ t m. next (scan lead g (field.Fixed 0) (drop t input)) (λ u n. along (scan lead g) fs (drop u (drop t input)) (0 + t + u) (1 + m + n)) (0 + t)) 0)
        (fixed_seen lead g input 0 b some low is)
        ∙ ap (λ l. next l (λ u n. along (scan lead g) fs (drop u (drop 1 input)) (1 + u) (1 + n)) 1)
        (fixed_seen lead g input 1 0 there low zero)
        ∙ ap (λ xs. along (scan lead g) fs xs 2 1) (drop-drop 1 1 input)

    zero_fill : (fs : List Field)
        → makes (scan lead g) (fill g) (field.Fixed b ∷ field.Fixed 0 ∷ fs) 0 input ≡ makes (scan lead g) (fill g) fs 2 (drop 2 input)
    unfolding makes fill
    zero_fill fs = rw (fixed_seen lead g input 0 b some low is, fixed_seen lead g input 1 0 there low zero, drop-drop 1 1 input)

    zero_begun : Begun lead g b (field.Fixed 0) input 2
    zero_begun = record { scan_is = zero_scan; fill_is = zero_fill }

  -- a byte 00
  pub begun_zero : {from : ℕ} → Some from ≡ behind_zero input → Begun lead g b (field.Fixed 0) input from × (from ≤ length input)
  unfolding behind_zero has_zero
  begun_zero {from} e = go (leb (length input) 1) (eqb (byte input 1) 0) refl refl e
    where
      go : (p q : Bool) → leb (length input) 1 ≡ p → eqb (byte input 1) 0 ≡ q → Some from ≡ cond (cond p false q) (Some 2) None
          → Begun lead g b (field.Fixed 0) input from × (from ≤ length input)
      go true q ep eq e = impossible cc
      go false true ep eq e =
          let there : 1 < length input = leb-false (length input) 1 ep in
          let same : from ≡ 2 = cc in
          (subst (λ j. Begun lead g b (field.Fixed 0) input j) (sym same) (zero_begun there (eqb-true _ _ eq)), omega (arith, same, there))
      go false false ep eq e = impossible cc

  -- a shape with a byte 00 that does not stand there
  no_zero : None ≡ behind_zero input → Wrong (scan lead g (field.Fixed 0) (drop 1 input))
  unfolding behind_zero has_zero scan
  no_zero e = go (leb (length input) 1) (eqb (byte input 1) 0) refl refl e
    where
      size : length (drop 1 input) + 1 ≡ length input
      size = omega (arith, length-drop 1 input, some)

      rest : (a c : Bool) → a ≡ false → c ≡ false → Wrong (cond a (cut (drop 1 input)) (cond c (cond (ltb g lead) (Bad refusal.Newer 0) (Fine 1 0)) (Bad refusal.Code 0)))
      rest true c ea ec = tt
      rest false true ea ec = impossible cc
      rest false false ea ec = tt

      short : (a : Bool) (c : Leaf) → a ≡ true → Wrong (cond a (cut (drop 1 input)) c)
      short true c ea = tt
      short false c ea = impossible cc

      go : (p q : Bool) → leb (length input) 1 ≡ p → eqb (byte input 1) 0 ≡ q → ◌≡◌ {A = Option ℕ} None (cond (cond p false q) (Some 2) None)
          → Wrong (scan lead g (field.Fixed 0) (drop 1 input))
      go true q ep eq e =
          let h : length input ≤ 1 = leb-true (length input) 1 ep in
          short (leb (length (drop 1 input)) 0) _ (le-leb (length (drop 1 input)) 0 (omega (arith, h, size)))
      go false true ep eq e = impossible cc
      go false false ep eq e =
          let h : 1 < length input = leb-false (length input) 1 ep in
          rest (leb (length (drop 1 input)) 0) (eqb (byte (drop 1 input) 0) 0) (lt-leb (length (drop 1 input)) 0 (omega (arith, h, size)))
          (ap (λ j. eqb j 0) (get_or-drop 1 input 0 0) ∙ eq)

  pub zero_wrong : (s : Shape) → s.lead ≡ field.Fixed b → s.zero ≡ field.Fixed 0 → None ≡ behind_zero input → Wrong (scanned lead g s input)
  unfolding walk seq
  zero_wrong s il iz e =
      past_first (scan lead g s.lead input) (ap (λ f. scan lead g f input) il ∙ fixed_seen lead g input 0 b some low is) _
      (second (scan lead g s.zero (drop 1 input)) (subst (λ f. Wrong (scan lead g f (drop 1 input))) (sym iz) (no_zero e)) _)
    where
      past_first : (l : Leaf) → l ≡ Fine 1 0 → (k : ℕ → ℕ → Leaf) → Wrong (k 1 0) → Wrong (next l k 0)
      past_first l e k w = subst (λ x. Wrong (next x k 0)) (sym e) w

      second : (l : Leaf) → Wrong l → (k : ℕ → ℕ → Leaf) → Wrong (next l k 1)
      second (Ok span) w k = absurd w
      second (Err fault) w k = tt

-- ---- two fields behind them

module _ (lead g b : ℕ) (z f h : Field) (input : List ℕ) (from : ℕ) (k : Begun lead g b z input from) (o : Open (f ∷ h ∷ [])) where
  pub two_scanned : scanned lead g (two_of (field.Fixed b) z f h) input ≡ scans g input (f ∷ h ∷ []) from 1
  unfolding seq
  two_scanned =
      walk_end (reader lead g input) (field.Fixed b ∷ z ∷ f ∷ h ∷ field.Nothing ∷ []) input 0 1
      ∙ k.scan_is (f ∷ h ∷ field.Nothing ∷ []) ∙ along_nothing lead g input (f ∷ h ∷ []) from 1
      ∙ scans-any lead g (f ∷ h ∷ []) (drop from input) from 1 o

  same_words : makes (scan lead g) (fill g) (f ∷ h ∷ field.Nothing ∷ []) from (drop from input)
      ≡ makes (scan lead g) (fill g) (f ∷ h ∷ []) from (drop from input)
  unfolding makes fill
  same_words = refl

  pub two_filled : (kind : ℕ) → filled kind lead g (two_of (field.Fixed b) z f h) input ≡ kind ∷ fills g input (f ∷ h ∷ []) from
  unfolding seq
  two_filled kind =
      ap (λ ws. kind ∷ ws)
      (outs-last (reader lead g input) (field.Fixed b ∷ z ∷ f ∷ h ∷ field.Nothing ∷ []) 0 input
      ∙ k.fill_is (f ∷ h ∷ field.Nothing ∷ []) ∙ same_words ∙ fills-any lead g (f ∷ h ∷ []) from (drop from input) o)
