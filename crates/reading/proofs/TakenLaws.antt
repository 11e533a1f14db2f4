-- An item that is read: it has a shape, whose words fit, and few words.
use Rattle.std.specs.Prelude.{None, Some, Option, Err, Ok}
use Prim.Native.Nat.{ℕ, ◌^◌, ◌≤◌}
use native.Mathlib.Omega.{arith}
use mathlib.Core.Path.{◌≡◌, refl, sym, ap, ◌∙◌}
use mathlib.Core.Bool.{Bool, true, false, cond}
use mathlib.Core.List.{List}
use borrow.Author.Tests.{ltb-false, leb-true}
use lib.Dec.{eqb, ltb, leb}
use lib.ListN.{length}
use lib.Seq.{sets}
use Rattle.fields.specs.Leaf.{Leaf, Fine}
use Rattle.fields.specs.declared.Refusal.{Refusal}
use Rattle.fields.specs.declared.Refusal.TheVariants as refusal
use Rattle.fields.specs.Read.{Read, Item, Refused}
use Rattle.fields.specs.declared.Shape.{Shape}
use Rattle.fields.specs.Answers.{left_row}
use Rattle.reading.specs.Read.{scanned, filled, roomed, read_found, read_item}
use Rattle.reading.specs.inside.Few.{Few}
use Rattle.fields.proofs.OutcomeLaws.{item-same}
use Rattle.numbers.proofs.Impossible.{impossible}

-- a refusal is no item
refused : {w : Refusal} {n q e : ℕ} {row after : List ℕ} {A : Type 0} → left_row (Refused w n) row ≡ left_row (Item q e) after → A
refused {w} {n} {q} {e} r =
    let a : Refused w n ≡ Item q e = ap (λ l. l.answer) r in
    impossible cc

-- an item that is accepted has a shape, and its words, which the shape says, fit
pub record Taken (found : Option Shape) (kind lead g : ℕ) (input room after : List ℕ) (q e : ℕ) : Type 0 where
  pub shape : Shape
  pub is : found ≡ Some shape
  pub ends : scanned lead g shape input ≡ Fine e q
  pub short : q ≤ 16384
  pub fits : q ≤ length room
  pub leaves : after ≡ sets room 0 (filled kind lead g shape input)

module _ (kind lead g : ℕ) (input room after : List ℕ) (q e : ℕ) where
  abbrev pub Takes : Option Shape → Type 0
  Takes found = Taken found kind lead g input room after q e

  -- its words fit
  fitting : (s : Shape) (a b : ℕ) → scanned lead g s input ≡ Fine a b → roomed (Fine a b) (filled kind lead g s input) room ≡ left_row (Item q e) after
      → Takes (Some s)
  unfolding roomed
  fitting s a b p r = go (ltb 16384 b) (leb b (length room)) refl refl r
    where
      words : List ℕ
      words = filled kind lead g s input

      go : (long fits : Bool) → ltb 16384 b ≡ long → leb b (length room) ≡ fits
          → cond long (left_row (Refused refusal.Room b) room)
          (cond fits (left_row (Item b a) (sets room 0 words)) (left_row (Refused refusal.Room b) room)) ≡ left_row (Item q e) after
          → Takes (Some s)
      go true fits u v r = refused r
      go false false u v r = refused r
      go false true u v r =
          let item : Item b a ≡ Item q e = ap (λ l. l.answer) r in
          let eb : b ≡ q = (item-same item).0 in
          let ea : a ≡ e = (item-same item).1 in
          let short = ltb-false 16384 b u in
          let fits = leb-true b (length room) v in
          record {
            shape = s;
            is = refl;
            ends = p ∙ (λ i. Fine (ea i) (eb i));
            short = omega arith;
            fits = omega arith;
            leaves = sym (ap (λ l. l.row) r);
          }

  -- its kind is found, and its fields have no fault
  finding : (found : Option Shape) → read_found found kind lead g input room ≡ left_row (Item q e) after → Takes found
  unfolding roomed
  finding None r = refused r
  finding (Some s) r = go (scanned lead g s input) refl r
    where
      go : (l : Leaf) → scanned lead g s input ≡ l → roomed l (filled kind lead g s input) room ≡ left_row (Item q e) after → Takes (Some s)
      go (Err fault) p r = refused r
      go (Ok span) p r = fitting s span.took span.made p r

  pub taken : (found : Option Shape) → read_item found kind lead g input room ≡ left_row (Item q e) after → Takes found
  unfolding read_item
  taken found r = go (ltb (2 ^ 30) (length input)) (ltb g 1) (ltb 3 g) (eqb (length input) 0) r
    where
      go : (a b c d : Bool)
          → cond a (left_row (Refused refusal.Limit 0) room)
          (cond b (left_row (Refused refusal.Limit 0) room)
          (cond c (left_row (Refused refusal.Limit 0) room)
          (cond d (left_row (Refused refusal.Cut 0) room) (read_found found kind lead g input room)))) ≡ left_row (Item q e) after
          → Takes found
      go true b c d r = refused r
      go false true c d r = refused r
      go false false true d r = refused r
      go false false false true r = refused r
      go false false false false r = finding found r

-- so an item has few words
pub item-few : (found : Option Shape) (kind lead g : ℕ) (input row : List ℕ) → Few (read_item found kind lead g input row).answer
item-few found kind lead g input row = few (read_item found kind lead g input row).answer (read_item found kind lead g input row).row refl
  where
    few : (r : Read) (after : List ℕ) → read_item found kind lead g input row ≡ left_row r after → Few r
    few (Ok item) after h = (taken kind lead g input row after item.words item.took found h).short
    few (Err fault) after h = tt
