-- The plan of a shape in the stages that code has, in either direction: the opening, and then the fields that the count there says.
use Prim.Native.Nat.{ℕ, ◌+◌}
use mathlib.Core.Path.{◌≡◌, sym, ap, ◌∙◌}
use mathlib.Core.Bool.{Bool, true, false, cond}
use mathlib.Core.List.{List, ◌++◌}
use lib.ListN.{drop, get_or}
use lib.Seq.{drop-drop}
use Rattle.fields.specs.declared.Field.{Field}
use Rattle.fields.specs.declared.Field.TheVariants as field
use Rattle.fields.specs.declared.Refusal.{Refusal}
use Rattle.fields.specs.Leaf.{Leaf, Fine, Bad}
use Rattle.fields.specs.declared.Shape.{Shape}
use Rattle.fields.specs.inside.Run.{along, onward, makes, after}
use Rattle.fields.specs.inside.Stages.{counted_fields, later}
use Rattle.fields.specs.Shape.{opening, group, closing, repeated, seq, counts, plan}
use Rattle.fields.specs.Walk.{end, Side, walk, outs}
use Rattle.fields.proofs.LoopLaws.{after_both}
use Rattle.fields.proofs.RunLaws.{makes-append, outs-last, outs-seq, walk-seq, walk_end}

-- the count, which takes t and makes m, then n groups, which come to l, and the closing
pub counted_is : (L : Field → List ℕ → Leaf) (xs : List ℕ) (s : Shape) (n at made t m : ℕ) → L field.Index (drop at xs) ≡ Fine t m
    → (l : Leaf) → l ≡ onward L xs (repeated n (group s)) (at + t) (made + m)
    → (r : Leaf) → r ≡ after l (onward L xs (closing s)) → r ≡ onward L xs (counted_fields s n) at made
unfolding along
counted_is L xs s n at made t m e l el r er =
    after_both L xs (Fine (at + t) (made + m)) l r (repeated n (group s)) (closing s) el er
    ∙ rw (e, ← drop-drop t at xs)

-- what a side tells of the count, wherever it stands
pub record Tells (side : Side) (xs : List ℕ) (count : ℕ → ℕ) : Type 0 where
  pub told : (at : ℕ) → get_or (side.tell field.Index at (drop at xs)) 0 0 ≡ count at

module _ {side : Side} {xs : List ℕ} {count : ℕ → ℕ} (tells : Tells side xs count) (s : Shape) where
  later_walk : (b : Bool) (at made : ℕ) → walk side (cond b (counts s) (seq (closing s) end)) (drop at xs) at made
      ≡ onward side.look xs (cond b (counted_fields s (count at)) (closing s)) at made
  unfolding walk seq
  later_walk true at made =
      ap (λ n. walk side (seq (counted_fields s n) end) (drop at xs) at made) (tells.told at)
      ∙ walk_end side (counted_fields s (count at)) xs at made
  later_walk false at made = walk_end side (closing s) xs at made

  later_outs : (b : Bool) (at : ℕ) → outs side (cond b (counts s) (seq (closing s) end)) at (drop at xs)
      ≡ makes side.look side.make (cond b (counted_fields s (count at)) (closing s)) at (drop at xs)
  unfolding outs seq
  later_outs true at =
      ap (λ n. outs side (seq (counted_fields s n) end) at (drop at xs)) (tells.told at)
      ∙ outs-last side (counted_fields s (count at)) at (drop at xs)
  later_outs false at = outs-last side (closing s) at (drop at xs)

  module _ (start base : ℕ) where
    pub walk_staged : walk side (plan s) (drop start xs) start base
        ≡ after (onward side.look xs (opening s) start base) (λ at made. onward side.look xs (later s (count at)) at made)
    walk_staged =
        walk-seq side (opening s) (cond s.counted (counts s) (seq (closing s) end)) xs start base
        ∙ (λ i. after (onward side.look xs (opening s) start base) (λ at made. later_walk s.counted at made i))

    -- what is made, where the opening ends
    pub outs_staged : (at made : ℕ) → onward side.look xs (opening s) start base ≡ Fine at made
        → outs side (plan s) start (drop start xs)
        ≡ makes side.look side.make (opening s ++ later s (count at)) start (drop start xs)
    outs_staged at made e =
        outs-seq side xs (opening s) (cond s.counted (counts s) (seq (closing s) end)) start base at made e
        ∙ ap (λ l. makes side.look side.make (opening s) start (drop start xs) ++ l) (later_outs s.counted at)
        ∙ sym (makes-append side.look side.make (opening s) (later s (count at)) xs start base at made e)

    -- the ways on from the opening, which comes to l
    module _ (l : Leaf) (el : l ≡ onward side.look xs (opening s) start base) where
      walk_after : walk side (plan s) (drop start xs) start base ≡ after l (λ at made. onward side.look xs (later s (count at)) at made)
      walk_after = rw el walk_staged

      pub walk_bad : (w : Refusal) (j : ℕ) → l ≡ Bad w j → Bad w j ≡ walk side (plan s) (drop start xs) start base
      walk_bad w j e = rw (walk_after, e)

      pub walk_counted : (at made : ℕ) → l ≡ Fine at made → s.counted ≡ true
          → (r : Leaf) → r ≡ onward side.look xs (counted_fields s (count at)) at made → r ≡ walk side (plan s) (drop start xs) start base
      walk_counted at made e c r er = rw (walk_after, e, c) er

      pub walk_plain : s.counted ≡ false
          → (r : Leaf) → r ≡ after l (onward side.look xs (closing s)) → r ≡ walk side (plan s) (drop start xs) start base
      walk_plain c r er = rw (walk_after, c) er
