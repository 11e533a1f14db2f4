-- The loops over groups: what a step says of a field at a place of the input, where groups end, and how their words are stored.
use Rattle.std.specs.Prelude.{Err, Ok, Option, Some, None, IsSome}
use Prim.Native.Nat.{ℕ, suc, ◌+◌, ◌-◌, ◌*◌, ◌≤◌, ◌<◌}
use native.Mathlib.Nat.{suc-mul}
use native.Mathlib.Omega.{arith}
use mathlib.Core.Path.{◌≡◌, refl, sym, ap, ◌∙◌, subst}
use mathlib.Core.List.{List, ◌++◌}
use lib.ListN.{length, take, drop, length-drop}
use lib.Seq.{sets}
use Rattle.numbers.proofs.BytesLaws.{to_end, sets_append}
use Rattle.fields.specs.declared.Field.{Field}
use Rattle.fields.specs.Leaf.{Leaf, Fine}
use Rattle.fields.specs.Words.{wide}
use Rattle.fields.specs.Shape.{widths}
use Rattle.reading.specs.Fill.{fill}
use Rattle.reading.specs.Scan.{scan}
use Rattle.reading.specs.inside.Steps.{end_of}
use Rattle.reading.proofs.FilledLaws.{fill-length}
use Rattle.reading.proofs.FillLaws.{Stands, Filling, filling_as, filling_first, filling_second, filling_next}
use Rattle.reading.proofs.StepLaws.{Wrong, Taking, scan-takes}
use Rattle.instance_items.specs.inside.Group.{group_one, group_two, group_of}
use Rattle.instance_items.proofs.FieldLaws.{two_scan, two_fill}
use Rattle.numbers.proofs.Impossible.{impossible}

-- the input from a place on
abbrev pub part : List ℕ → ℕ → List ℕ
part input at = take (length input - at) (drop at input)

pub part_length : (input : List ℕ) (at : ℕ) → length (part input at) ≡ length input - at
part_length input at = ap length (to_end input at) ∙ length-drop at input

-- a field that ends is right
pub took-some : (g : ℕ) (f : Field) (input : List ℕ) (at : ℕ) {t : ℕ} → Taking f → Some t ≡ end_of (scan 1 g f (part input at))
    → (scan 1 g f (drop at input) ≡ Fine t (wide f)) × (t ≤ length input - at)
unfolding end_of
took-some g f input at {t} taking e =
    go (scan 1 g f (drop at input)) refl (e ∙ ap (λ (bs : List ℕ). end_of (scan 1 g f bs)) (to_end input at))
  where
    go : (l : Leaf) → scan 1 g f (drop at input) ≡ l → Some t ≡ end_of l
        → (scan 1 g f (drop at input) ≡ Fine t (wide f)) × (t ≤ length input - at)
    go (Ok span) p q =
        let k = scan-takes g f (drop at input) span.took span.made taking p in
        let same : span.took ≡ t = cc in
        (p ∙ (λ i. Fine (same i) (k.2 i)), omega (arith, k.1, length-drop at input, same))
    go (Err fault) p q = impossible cc

-- one that does not is not
pub took_none : (g : ℕ) (f : Field) (input : List ℕ) (at : ℕ) → None ≡ end_of (scan 1 g f (part input at)) → Wrong (scan 1 g f (drop at input))
unfolding end_of
took_none g f input at e = go (scan 1 g f (drop at input)) (e ∙ ap (λ (bs : List ℕ). end_of (scan 1 g f bs)) (to_end input at))
  where
    go : (l : Leaf) → None ≡ end_of l → Wrong l
    go (Ok span) q = impossible cc
    go (Err fault) q = tt

-- ---- a round of the loop that stores

-- a field that stands ends where its scan does
stands_end : {g : ℕ} {input : List ℕ} {f : Field} {at : ℕ} (s : Stands g input f at) → end_of (scan 1 g f (part input at)) ≡ Some s.t
unfolding end_of
stands_end {g} {input} {f} {at} s = ap (λ (bs : List ℕ). end_of (scan 1 g f bs)) (to_end input at) ∙ ap end_of s.is

stands-some : {g : ℕ} {input : List ℕ} {f : Field} {at : ℕ} → Stands g input f at → IsSome (end_of (scan 1 g f (part input at)))
stands-some {g} {input} {f} {at} s = subst (λ (n : Option ℕ). IsSome n) (sym (stands_end s)) refl

-- one end is the other
same_end : {a b : ℕ} {o : Option ℕ} → Some a ≡ o → o ≡ Some b → a ≡ b
same_end p q = cc

module _ (kind : ℕ) {g : ℕ} {input : List ℕ} {n from : ℕ} {first : List ℕ} {base due at to : ℕ} {row : List ℕ}
    (k : Filling g input (group_of kind) n from first base due at to row) (some : 0 < due) where
  -- the next group has room
  pub round_room : to + wide (group_one kind) + wide (group_two kind) ≤ length row
  unfolding widths
  round_room =
      let p : due ≡ suc (due - 1) = omega arith in
      let q : due * widths (group_of kind) ≡ suc (due - 1) * widths (group_of kind) = ap (λ j. j * widths (group_of kind)) p in
      omega (arith, k.room, q, suc-mul (due - 1) (widths (group_of kind)))

  -- its first field is right
  pub round_first : IsSome (end_of (scan 1 g (group_one kind) (part input at)))
  round_first = stands-some (filling_first k some)

  module _ {r : ℕ} (er : Some r ≡ end_of (scan 1 g (group_one kind) (part input at))) where
    first_took_lem : r ≡ (filling_first k some).t
    first_took_lem = same_end er (stands_end (filling_first k some))

    first_is : scan 1 g (group_one kind) (drop at input) ≡ Fine r (filling_first k some).m
    first_is = (filling_first k some).is ∙ ap (λ (t : ℕ). Fine t (filling_first k some).m) (sym first_took_lem)

    pub round_ends : at + r ≤ length input
    round_ends = omega (arith, first_took_lem, (filling_first k some).ends)

    stands : Stands g input (group_two kind) (at + r)
    stands = filling_second k some first_is

    -- and so is its second
    pub round_second : IsSome (end_of (scan 1 1 (group_two kind) (part input (at + r))))
    round_second = subst (λ (l : Leaf). IsSome (end_of l)) (two_scan kind g (part input (at + r))) (stands-some stands)

    module _ {u : ℕ} (eu : Some u ≡ end_of (scan 1 1 (group_two kind) (part input (at + r)))) where
      second_took : u ≡ stands.t
      second_took = same_end (eu ∙ ap end_of (sym (two_scan kind g (part input (at + r))))) (stands_end stands)

      second_is : scan 1 g (group_two kind) (drop (at + r) input) ≡ Fine u stands.m
      second_is = stands.is ∙ ap (λ (t : ℕ). Fine t stands.m) (sym second_took)

      pub round_closes : at + r + u ≤ length input
      round_closes = omega (arith, second_took, stands.ends)

      -- past it, its words are stored
      pub round_next : {w v : ℕ} {mid new : List ℕ} → w ≡ wide (group_one kind) → v ≡ wide (group_two kind)
          → mid ≡ sets row to (fill g (group_one kind) at (part input at))
          → new ≡ sets mid (to + w) (fill 1 (group_two kind) 0 (part input (at + r)))
          → Filling g input (group_of kind) n from first base (due - 1) (at + r + u) (to + w + v) new
      unfolding widths
      round_next {w} {v} {mid} {new} ew ev em en =
          filling_as (filling_next k some first_is second_is new stored) refl place
        where
          one : List ℕ
          one = fill g (group_one kind) at (drop at input)

          two : List ℕ
          two = fill g (group_two kind) (at + r) (drop (at + r) input)

          first_words : mid ≡ sets row to one
          first_words = em ∙ ap (λ (bs : List ℕ). sets row to (fill g (group_one kind) at bs)) (to_end input at)

          second_words : fill 1 (group_two kind) 0 (part input (at + r)) ≡ two
          second_words =
              two_fill kind g (at + r) (part input (at + r)) ∙ ap (λ (bs : List ℕ). fill g (group_two kind) (at + r) bs) (to_end input (at + r))

          behind : to + w ≡ to + length one
          behind = ap (λ j. to + j) (ew ∙ sym (fill-length g (group_one kind) at (drop at input)))

          stored : new ≡ sets row to (one ++ two)
          stored =
              en ∙ ap (λ (ws : List ℕ). sets mid (to + w) ws) second_words ∙ ap (λ (l : List ℕ). sets l (to + w) two) first_words
              ∙ ap (λ (j : ℕ). sets (sets row to one) j two) behind ∙ sets_append one two row to

          place : to + widths (group_of kind) ≡ to + w + v
          place = omega (arith, ew, ev)
