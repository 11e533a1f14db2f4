-- Walks over lists of fields, one after the other, and the plan of a shape in the stages that code has.
use Rattle.fields.proofs.OutcomeLaws.{fine-same}
use Rattle.std.specs.Prelude.{Err, Ok}
use Prim.Native.Nat.{ℕ, ◌+◌, ◌≤◌}
use native.Mathlib.Omega.{arith}
use mathlib.Core.Path.{◌≡◌, refl, sym, ap, ◌∙◌}
use mathlib.Core.List.{List, [], ◌∷◌, ◌++◌, append_assoc}
use lib.ListN.{drop}
use lib.Seq.{drop-drop}
use Rattle.fields.specs.declared.Field.{Field}
use Rattle.fields.specs.Leaf.{Leaf, Fine}
use Rattle.fields.specs.inside.Run.{along, makes, after, Under}
use Rattle.fields.specs.Walk.{Plan, end, step, Side, next, took, walk, outs}
use Rattle.fields.specs.Shape.{seq}
use Rattle.numbers.proofs.Impossible.{impossible}

-- one list of fields after another
pub along-append : (L : Field → List ℕ → Leaf) (fs gs : List Field) (xs : List ℕ) (at made : ℕ)
    → along L (fs ++ gs) (drop at xs) at made ≡ after (along L fs (drop at xs) at made) (λ a m. along L gs (drop a xs) a m)
unfolding along
along-append L [] gs xs at made = refl
along-append L (f ∷ fs) gs xs at made = go (L f (drop at xs)) (λ t m. along-append L fs gs xs (at + t) (made + m))
  where
    go : (l : Leaf)
        → ((t m : ℕ) → along L (fs ++ gs) (drop (at + t) xs) (at + t) (made + m)
        ≡ after (along L fs (drop (at + t) xs) (at + t) (made + m)) (λ a m. along L gs (drop a xs) a m))
        → next l (λ t m. along L (fs ++ gs) (drop t (drop at xs)) (at + t) (made + m)) at
        ≡ after (next l (λ t m. along L fs (drop t (drop at xs)) (at + t) (made + m)) at) (λ a m. along L gs (drop a xs) a m)
    go (Ok span) ih = rw (drop-drop span.took at xs) (ih span.took span.made)
    go (Err fault) ih = refl

-- what a list of fields at the front of a plan makes, and one that is the whole plan
seq-append : (fs gs : List Field) (p : Plan) → seq (fs ++ gs) p ≡ seq fs (seq gs p)
unfolding seq
seq-append [] gs p = refl
seq-append (f ∷ fs) gs p = ap (λ q. step f (λ v. q)) (seq-append fs gs p)

pub outs-last : (s : Side) (fs : List Field) (at : ℕ) (xs : List ℕ) → outs s (seq fs end) at xs ≡ makes s.look s.make fs at xs
unfolding outs seq makes
outs-last s [] at xs = refl
outs-last s (f ∷ fs) at xs = ap (λ l. s.make f at xs ++ l) (outs-last s fs (at + took (s.look f xs)) (drop (took (s.look f xs)) xs))

pub outs-seq : (s : Side) (xs : List ℕ) (fs : List Field) (p : Plan) (at made a m : ℕ) → along s.look fs (drop at xs) at made ≡ Fine a m
    → outs s (seq fs p) at (drop at xs) ≡ makes s.look s.make fs at (drop at xs) ++ outs s p a (drop a xs)
unfolding outs seq along makes
outs-seq s xs [] p at made a m e = ap (λ n. outs s p n (drop n xs)) (fine-same e).0
outs-seq s xs (f ∷ fs) p at made a m e = go (s.look f (drop at xs)) e (λ t k. outs-seq s xs fs p (at + t) (made + k) a m)
  where
    go : (l : Leaf) → next l (λ t k. along s.look fs (drop t (drop at xs)) (at + t) (made + k)) at ≡ Fine a m
        → ((t k : ℕ) → along s.look fs (drop (at + t) xs) (at + t) (made + k) ≡ Fine a m
        → outs s (seq fs p) (at + t) (drop (at + t) xs) ≡ makes s.look s.make fs (at + t) (drop (at + t) xs) ++ outs s p a (drop a xs))
        → s.make f at (drop at xs) ++ outs s (seq fs p) (at + took l) (drop (took l) (drop at xs))
        ≡ (s.make f at (drop at xs) ++ makes s.look s.make fs (at + took l) (drop (took l) (drop at xs))) ++ outs s p a (drop a xs)
    go (Ok span) e ih =
        let x = s.make f at (drop at xs) in
        rw (drop-drop span.took at xs)
        (ap (λ l. x ++ l) (ih span.took span.made (ap (λ l. along s.look fs l (at + span.took) (made + span.made)) (sym (drop-drop span.took at xs)) ∙ e))
        ∙ sym (append_assoc x (makes s.look s.make fs (at + span.took) (drop (at + span.took) xs)) (outs s p a (drop a xs))))
    go (Err fault) e ih = impossible cc

pub makes-append : (L : Field → List ℕ → Leaf) (B : Field → ℕ → List ℕ → List ℕ) (fs gs : List Field) (xs : List ℕ) (at made a m : ℕ)
    → along L fs (drop at xs) at made ≡ Fine a m
    → makes L B (fs ++ gs) at (drop at xs) ≡ makes L B fs at (drop at xs) ++ makes L B gs a (drop a xs)
makes-append L B fs gs xs at made a m e =
    let side : Side = record { look = L; tell = λ f at xs. []; make = B } in
    sym (outs-last side (fs ++ gs) at (drop at xs)) ∙ ap (λ p. outs side p at (drop at xs)) (seq-append fs gs end)
    ∙ outs-seq side xs fs (seq gs end) at made a m e
    ∙ ap (λ l. makes L B fs at (drop at xs) ++ l) (outs-last side gs a (drop a xs))

-- larger bounds hold too
pub under_more : (l : Leaf) (a b c d : ℕ) → Under l a b → a ≤ c → b ≤ d → Under l c d
under_more (Ok span) a b c d u h k = (omega arith, omega arith)
under_more (Err fault) a b c d u h k = tt

-- the fields of a plan, and then the rest of it
pub walk-seq : (s : Side) (fs : List Field) (p : Plan) (xs : List ℕ) (at made : ℕ)
    → walk s (seq fs p) (drop at xs) at made ≡ after (along s.look fs (drop at xs) at made) (λ a m. walk s p (drop a xs) a m)
unfolding walk seq along
walk-seq s [] p xs at made = refl
walk-seq s (f ∷ fs) p xs at made = go (s.look f (drop at xs)) (λ t m. walk-seq s fs p xs (at + t) (made + m))
  where
    go : (l : Leaf)
        → ((t m : ℕ) → walk s (seq fs p) (drop (at + t) xs) (at + t) (made + m)
        ≡ after (along s.look fs (drop (at + t) xs) (at + t) (made + m)) (λ a m. walk s p (drop a xs) a m))
        → next l (λ t m. walk s (seq fs p) (drop t (drop at xs)) (at + t) (made + m)) at
        ≡ after (next l (λ t m. along s.look fs (drop t (drop at xs)) (at + t) (made + m)) at) (λ a m. walk s p (drop a xs) a m)
    go (Ok span) ih = rw (drop-drop span.took at xs) (ih span.took span.made)
    go (Err fault) ih = refl

pub walk_end : (s : Side) (fs : List Field) (xs : List ℕ) (at made : ℕ)
    → walk s (seq fs end) (drop at xs) at made ≡ along s.look fs (drop at xs) at made
unfolding walk
walk_end s fs xs at made = walk-seq s fs end xs at made ∙ same (along s.look fs (drop at xs) at made)
  where
    same : (l : Leaf) → after l (λ a m. Fine a m) ≡ l
    same (Ok span) = refl
    same (Err fault) = refl
