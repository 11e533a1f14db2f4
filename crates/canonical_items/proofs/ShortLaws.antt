-- A canonical with at most two words behind its kind: what a step says of its field, two fields one after the other, and the words
-- stored in the row; an index and a count.
use Rattle.std.specs.Prelude.{Option, Some, None, option_map, MatchOption, Err, Ok}
use Prim.Native.Nat.{ℕ, zero, suc, ◌+◌, ◌-◌, ◌≤◌, ◌<◌, ◌^◌}
use native.Mathlib.Nat.{add-zero}
use native.Mathlib.Omega.{arith}
use mathlib.Core.Path.{◌≡◌, refl, sym, ap, subst, ◌∙◌}
use mathlib.Core.Bool.{Bool, true, false, cond}
use mathlib.Core.List.{List, [], ◌∷◌, ◌++◌, append-nil}
use lib.Dec.{eqb, ltb, leb}
use lib.ListN.{length, take, drop, set, length-set, length-drop}
use lib.Seq.{sets, length-sets, drop-drop}
use borrow.Author.Tests.{lt-ltb, le-ltb, lt-leb, le-leb}
use Rattle.numbers.specs.declared.leb.Number.{Number}
use Rattle.numbers.specs.Taken.{Taken}
use Rattle.numbers.specs.Taken as taken
use Rattle.numbers.specs.Integers.{u32}
use Rattle.numbers.specs.Leb.{take_unsigned}
use Rattle.numbers.specs.Seen.{seen}
use Rattle.numbers.proofs.BytesLaws.{to_end}
use Rattle.numbers.proofs.Impossible.{impossible}
use Rattle.numbers.proofs.SeenLaws.{seen-some, seen_none}
use Rattle.fields.specs.declared.Field.TheVariants as field
use Rattle.fields.specs.Leaf.{Leaf, Fine, Bad}
use Rattle.fields.specs.declared.Refusal.TheVariants.{Code}
use Rattle.fields.specs.inside.Run.{along, makes}
use Rattle.fields.specs.Walk.{next, took}
use Rattle.fields.specs.Words.{wide}
use Rattle.reading.specs.Fill.{value_in, fill}
use Rattle.reading.specs.Scan.{byte, cut, numbered, scan_index, scan_either, scan}
use Rattle.reading.specs.declared.Pair.{Pair}
use Rattle.reading.specs.inside.Try.{Tried}
use Rattle.reading.specs.inside.Try as tried
use Rattle.reading.specs.Seen.{pair_is}
use Rattle.reading.specs.inside.Steps.{scans, fills}
use Rattle.reading.specs.inside.Tried.{left_tried}
use Rattle.reading.proofs.ScannedLaws.{one_takes}
use Rattle.canonical_items.specs.declared.options.Head.{Head}
use Rattle.canonical_items.specs.declared.short.Short.{Short}
use Rattle.canonical_items.specs.declared.short.Short.TheVariants as short
use Rattle.canonical_items.specs.declared.short.Step.{Step}
use Rattle.canonical_items.specs.inside.Short.{field_of, Stepped, step_is, either_step, Told, stored, Opened, Unopened}

-- ---- one of two bytes

-- what it says of its field
either-told : (g a b at : ℕ) (bs : List ℕ) → 1 ≤ g
    → Stepped at (scan_either g 1 a b bs) (cond (eqb (byte bs 0) a) 0 1 ∷ []) (either_step a b at bs)
unfolding scan_either
either-told g a b at bs low = rw (le-ltb g 1 low) (go (leb (length bs) 0) (eqb (byte bs 0) a) (eqb (byte bs 0) b))
  where
    go : (p q r : Bool)
        → Stepped at (cond p (cut bs) (cond q (Fine 1 1) (cond r (Fine 1 1) (Bad Code 0)))) (cond q 0 1 ∷ [])
        (cond p None (cond q (Some (step_is (at + 1) 0)) (cond r (Some (step_is (at + 1) 1)) None)))
    go true q r = refl
    go false true r = (refl, refl)
    go false false true = (refl, refl)
    go false false false = refl

-- ---- an index

-- one that is seen
module _ (input : List ℕ) (at : ℕ) {x : Number} (e : Some x ≡ seen (take_unsigned (take (length input - at) (drop at input)))) where
  pub seen_at : (take_unsigned (drop at input) ≡ taken.Value x.value x.took) × (x.took ≤ 5) × (at + x.took ≤ length input) × (x.value < 2 ^ 32)
  seen_at =
      let k = seen-some u32 (drop at input) x (sym (e ∙ ap (λ (s : List ℕ). seen (take_unsigned s)) (to_end input at))) in
      (k.0, k.2, omega (arith, k.1, k.3, length-drop at input), k.4)

  -- what is said of the field
  pub index_some : (g : ℕ)
      → Stepped at (scan 1 g field.Index (drop at input)) (fill g field.Index at (drop at input)) (Some (step_is (at + x.took) x.value))
  unfolding scan scan_index fill
  index_some g =
      subst (λ (r : Taken). Stepped at (numbered (drop at input) r 1) (value_in r ∷ []) (Some (step_is (at + x.took) x.value)))
      (sym seen_at.0) (refl, refl)

-- none
module _ (input : List ℕ) (at : ℕ) (e : None ≡ seen (take_unsigned (take (length input - at) (drop at input)))) where
  pub seen_not : (n t : ℕ) → take_unsigned (drop at input) ≡ taken.Value n t → ⊥
  seen_not = seen_none (take_unsigned (drop at input)) (sym (e ∙ ap (λ (s : List ℕ). seen (take_unsigned s)) (to_end input at)))

  pub index_none : {r : Option Step} → r ≡ None → (g : ℕ) → Stepped at (scan 1 g field.Index (drop at input)) (fill g field.Index at (drop at input)) r
  unfolding scan scan_index fill
  index_none {r} z g = go (take_unsigned (drop at input)) refl
    where
      go : (t : Taken) → take_unsigned (drop at input) ≡ t → Stepped at (numbered (drop at input) t 1) (value_in t ∷ []) r
      go (Ok got) q = absurd (seen_not got.value got.took q)
      go taken.Cut q = z
      go taken.Bad q = z

-- ---- a step by its field

abbrev Steps : ℕ → Short → ℕ → List ℕ → Option Step → Type 0
Steps g f at input r = Stepped at (scan 1 g (field_of f) (drop at input)) (fill g (field_of f) at (drop at input)) r

module _ (g : ℕ) {f : Short} (at : ℕ) (input : List ℕ) where
  pub nothing_step : f ≡ short.Nothing → Steps g f at input (Some (step_is at 0))
  unfolding scan fill
  nothing_step e = subst (λ (x : Short). Steps g x at input (Some (step_is at 0))) (sym e) (sym (add-zero at), refl)

  pub index_step : f ≡ short.Index → (r : Option Step) → Steps g short.Index at input r → Steps g f at input r
  index_step e r k = subst (λ (x : Short). Steps g x at input r) (sym e) k

  pub flag_step : 1 ≤ g → f ≡ short.Flag → {r : Option Step} → r ≡ either_step 0x00 0x01 at (drop at input) → Steps g f at input r
  unfolding scan fill
  flag_step low e {r} s =
      subst (λ (x : Short). Steps g x at input r) (sym e)
      (subst (λ (y : Option Step). Steps g short.Flag at input y) (sym s) (either-told g 0x00 0x01 at (drop at input) low))

  pub rep_step : 1 ≤ g → f ≡ short.Rep → {r : Option Step} → r ≡ either_step 0x7f 0x7e at (drop at input) → Steps g f at input r
  unfolding scan fill
  rep_step low e {r} s =
      subst (λ (x : Short). Steps g x at input r) (sym e)
      (subst (λ (y : Option Step). Steps g short.Rep at input y) (sym s) (either-told g 0x7f 0x7e at (drop at input) low))

-- ---- two fields

module _ (g : ℕ) (f h : Short) (input : List ℕ) (from : ℕ) where
  abbrev rest : ℕ → ℕ → Leaf
  rest t m = along (scan 1 g) (field_of h ∷ []) (drop t (drop from input)) (from + t) (1 + m)

  abbrev Both : Option Pair → Type 0
  Both r = Told f h (scans g input (field_of f ∷ field_of h ∷ []) from 1) (fills g input (field_of f ∷ field_of h ∷ []) from) r

module _ (g : ℕ) (f h : Short) (input : List ℕ) (from : ℕ) {first : Option Step} (k : Steps g f from input first) where
  -- the first is not right
  pub first_wrong : first ≡ None → {r : Option Pair} → r ≡ None → Both g f h input from r
  unfolding along
  first_wrong n {r} z = go (scan 1 g (field_of f) (drop from input)) (subst (λ o. Steps g f from input o) n k)
    where
      go : (l : Leaf) → Stepped from l (fill g (field_of f) from (drop from input)) None
          → Told f h (next l (rest g f h input from) from) (fills g input (field_of f ∷ field_of h ∷ []) from) r
      go (Ok span) s = absurd s
      go (Err fault) s = z

  module _ {one : Step} (n : first ≡ Some one) where
    -- it is, and lies in the input
    first_right : (t : ℕ) × (m : ℕ) × (scan 1 g (field_of f) (drop from input) ≡ Fine t m) × (one.next ≡ from + t)
        × (take m (one.value ∷ []) ≡ fill g (field_of f) from (drop from input))
    first_right = go (scan 1 g (field_of f) (drop from input)) refl (subst (λ o. Steps g f from input o) n k)
      where
        go : (l : Leaf) → scan 1 g (field_of f) (drop from input) ≡ l → Stepped from l (fill g (field_of f) from (drop from input)) (Some one)
            → (t : ℕ) × (m : ℕ) × (scan 1 g (field_of f) (drop from input) ≡ Fine t m) × (one.next ≡ from + t)
            × (take m (one.value ∷ []) ≡ fill g (field_of f) from (drop from input))
        go (Ok span) e s = (span.took, span.made, e, s.0, s.1)
        go (Err fault) e s = impossible cc

    pub first_inside : from ≤ length input → one.next ≤ length input
    first_inside b =
        let q = first_right in
        let t : q.0 ≤ length (drop from input) = (one_takes 1 g (field_of f) (drop from input) _ refl q.0 q.1 q.2).0 in
        omega (arith, q.3, t, length-drop from input, b)

    -- both, where the second is
    both : (second : Option Step) → Steps g h one.next input second
        → Both g f h input from (option_map (λ (x : Step). pair_is x.next one.value x.value) second)
    unfolding along makes
    both second s =
        subst (λ l. Told f h l (fills g input (field_of f ∷ field_of h ∷ []) from) (option_map (λ (x : Step). pair_is x.next one.value x.value) second)) (sym ended)
        (go (scan 1 g (field_of h) (drop at input)) refl second (subst (λ j. Steps g h j input second) q.3 s))
      where
        q : (t : ℕ) × (m : ℕ) × (scan 1 g (field_of f) (drop from input) ≡ Fine t m) × (one.next ≡ from + t)
            × (take m (one.value ∷ []) ≡ fill g (field_of f) from (drop from input))
        q = first_right

        at : ℕ
        at = from + q.0

        after : ℕ → ℕ → Leaf
        after u v = Fine (at + u) (1 + q.1 + v)

        ended : scans g input (field_of f ∷ field_of h ∷ []) from 1 ≡ next (scan 1 g (field_of h) (drop at input)) after at
        ended =
            ap (λ l. next l (rest g f h input from) from) q.2
            ∙ ap (λ xs. next (scan 1 g (field_of h) xs) after at) (drop-drop q.0 from input)

        words : fills g input (field_of f ∷ field_of h ∷ []) from
            ≡ fill g (field_of f) from (drop from input) ++ fill g (field_of h) at (drop at input)
        words =
            ap (λ l. fill g (field_of f) from (drop from input) ++ (fill g (field_of h) (from + took l) (drop (took l) (drop from input)) ++ [])) q.2
            ∙ ap (λ xs. fill g (field_of f) from (drop from input) ++ (fill g (field_of h) at xs ++ [])) (drop-drop q.0 from input)
            ∙ ap (λ ws. fill g (field_of f) from (drop from input) ++ ws) (append-nil (fill g (field_of h) at (drop at input)))

        wide_first : q.1 ≡ wide (field_of f)
        wide_first = (one_takes 1 g (field_of f) (drop from input) _ refl q.0 q.1 q.2).1

        go : (l : Leaf) → scan 1 g (field_of h) (drop at input) ≡ l → (o : Option Step)
            → Stepped at l (fill g (field_of h) at (drop at input)) o
            → Told f h (next l after at) (fills g input (field_of f ∷ field_of h ∷ []) from) (option_map (λ (x : Step). pair_is x.next one.value x.value) o)
        go (Ok span) e (Some two) s =
            let wide-second : span.made ≡ wide (field_of h) = (one_takes 1 g (field_of h) (drop at input) _ refl span.took span.made e).1 in (
              s.0,
              ap (λ j. take j (one.value ∷ []) ++ take (wide (field_of h)) (two.value ∷ [])) (sym wide_first)
                  ∙ ap (λ j. take q.1 (one.value ∷ []) ++ take j (two.value ∷ [])) (sym wide-second)
                  ∙ ap (λ (ws : List ℕ). ws ++ take span.made (two.value ∷ [])) q.4
                  ∙ ap (λ (ws : List ℕ). fill g (field_of f) from (drop from input) ++ ws) s.1 ∙ sym words,
            )
        go (Ok span) e None s = absurd s
        go (Err fault) e (Some two) s = impossible cc
        go (Err fault) e None s = refl

    module _ {second : Option Step} (s : Steps g h one.next input second) where
      pub both_told : {two : Step} → second ≡ Some two → Both g f h input from (Some (pair_is two.next one.value two.value))
      both_told {two} e = both (Some two) (subst (λ o. Steps g h one.next input o) e s)

      -- the second is not right
      pub second_wrong : second ≡ None → {r : Option Pair} → r ≡ None → Both g f h input from r
      second_wrong e {r} z = subst (Both g f h input from) (sym z) (both None (subst (λ o. Steps g h one.next input o) e s))

-- ---- the words stored

abbrev pub put : ℕ → ℕ → ℕ → List ℕ → List ℕ
put w k v row = cond (ltb k w) (set row k v) row

pub put_yes : (w k v : ℕ) (row : List ℕ) {new : List ℕ} → k < w → new ≡ set row k v → new ≡ put w k v row
put_yes w k v row h e = e ∙ simp (lt-ltb k w h)

pub put_no : (w k v : ℕ) (row : List ℕ) {new : List ℕ} → w ≤ k → new ≡ row → new ≡ put w k v row
put_no w k v row h e = e ∙ simp (le-ltb k w h)

pub all-stored : (w kind a b : ℕ) (row : List ℕ) → 1 ≤ w → w ≤ 3
    → put w 2 b (put w 1 a (set row 0 kind)) ≡ sets row 0 (kind ∷ take (w - 1) (a ∷ b ∷ []))
all-stored zero kind a b row h k = absurd (omega arith)
all-stored (suc zero) kind a b row h k = refl
all-stored (suc (suc zero)) kind a b row h k = refl
all-stored (suc (suc (suc zero))) kind a b row h k = refl
all-stored (suc (suc (suc (suc w)))) kind a b row h k = absurd (omega arith)

pub stored_none : (kind words : ℕ) (item : Option Pair) (row : List ℕ) → item ≡ None → {r : Tried} → r ≡ None
    → left_tried r row ≡ stored kind words item row
unfolding stored
stored_none kind words item row e {r} z = ap (λ o. left_tried o row) z ∙ ap (λ o. stored kind words o row) (sym e)

pub stored_short : (kind words : ℕ) (item : Option Pair) (row : List ℕ) {x : Pair} → item ≡ Some x → length row < words
    → left_tried None row ≡ stored kind words item row
unfolding stored
stored_short kind words item row {x} e k = rw e (simp (lt-leb words (length row) k))

pub stored_done : (kind words : ℕ) (item : Option Pair) (row : List ℕ) {last : List ℕ} {x : Pair} → item ≡ Some x → words ≤ length row
    → last ≡ sets row 0 (kind ∷ take (words - 1) (x.a ∷ x.b ∷ [])) → left_tried (tried.Item words x.took) last ≡ stored kind words item row
unfolding stored
stored_done kind words item row {x = x} e k d =
    ap (λ (l : List ℕ). left_tried (tried.Item words x.took) l) d ∙ rw e (simp (le-leb words (length row) k))

pub sized : (old : List ℕ) (to : ℕ) (ws : List ℕ) {new : List ℕ} → new ≡ sets old to ws → length new ≡ length old
sized old to ws h = ap length h ∙ length-sets old to ws

-- ---- an index and a count

module _ (input : List ℕ) (from : ℕ) (first : Option Number)
    (e : first ≡ seen (take_unsigned (take (length input - from) (drop from input)))) where
  abbrev Says : Option Head → Type 0
  Says r = MatchOption r (Unopened input from) (λ x. Opened input from x)

  module _ {one : Number} (n : first ≡ Some one) where
    -- what is seen of the index
    pub opens_at : (take_unsigned (drop from input) ≡ taken.Value one.value one.took) × (one.took ≤ 5)
        × (from + one.took ≤ length input) × (one.value < 2 ^ 32)
    opens_at = seen_at input from (sym n ∙ e)

    module _ (second : Option Number)
        (d : second ≡ seen (take_unsigned (take (length input - (from + one.took)) (drop (from + one.took) input)))) where
      pub opens_both : {two : Number} → second ≡ Some two
          → Says (Some (record { next = from + one.took + two.took; index = one.value; count = two.value }))
      opens_both {two} z =
          let p = opens_at in
          let q = seen_at input (from + one.took) (sym z ∙ d) in
          record { t = one.took; u = two.took; first = p.0; second = q.0; ends = refl; inside = q.2; small = q.3 }

-- what the opening says, by what it found
pub opened : (input : List ℕ) (from : ℕ) {start : Option Head} → MatchOption start (Unopened input from) (λ r. Opened input from r)
    → {r : Head} → start ≡ Some r → Opened input from r
opened input from k e = subst (λ o. MatchOption o (Unopened input from) (λ r. Opened input from r)) e k

pub not_opened : (input : List ℕ) (from : ℕ) {start : Option Head} → MatchOption start (Unopened input from) (λ r. Opened input from r)
    → start ≡ None → Unopened input from
not_opened input from k e = subst (λ o. MatchOption o (Unopened input from) (λ r. Opened input from r)) e k
