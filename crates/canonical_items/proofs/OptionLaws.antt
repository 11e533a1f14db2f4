-- Options: what is read of one, where n of them end, and the loop that stores their words.
use Rattle.std.specs.Prelude.{Ok, Option, Some, None, IsSome, is_some}
use Prim.Native.Nat.{ℕ, suc, ◌+◌, ◌-◌, ◌*◌, ◌≤◌, ◌<◌}
use native.Mathlib.Nat.{suc-mul}
use native.Mathlib.Omega.{arith}
use mathlib.Core.Path.{◌≡◌, refl, sym, ap, ◌∙◌}
use mathlib.Core.Bool.{Bool, true, false, cond}
use mathlib.Core.List.{List, [], ◌∷◌}
use lib.Dec.{ltb, leb}
use lib.ListN.{length, take, drop, set, length-drop}
use lib.Seq.{sets}
use borrow.Author.Tests.{lt-leb, le-leb, lt-ltb, le-ltb, leb-true, leb-false}
use Rattle.numbers.specs.declared.leb.Number.{Number}
use Rattle.numbers.specs.Taken.{Taken}
use Rattle.numbers.specs.Taken as taken
use Rattle.numbers.specs.Leb.{take_unsigned}
use Rattle.numbers.specs.Seen.{seen}
use Rattle.numbers.proofs.BytesLaws.{to_end}
use Rattle.numbers.proofs.SeenLaws.{seen-taken}
use Rattle.fields.specs.declared.Field.{Field}
use Rattle.fields.specs.declared.Field.TheVariants as field
use Rattle.fields.specs.Leaf.{Leaf, Fine, Bad}
use Rattle.fields.proofs.OutcomeLaws.{fine-same}
use Rattle.fields.specs.declared.Refusal.TheVariants.{Newer, Code}
use Rattle.fields.specs.declared.Site.TheVariants.{CanonOption}
use Rattle.fields.specs.Grades.{grade_of}
use Rattle.fields.specs.Shape.{widths}
use Rattle.fields.specs.Words.{indexed, wide}
use Rattle.reading.specs.Fill.{value_in, fill}
use Rattle.reading.specs.Scan.{byte, past, numbered, scan_index, chosen, scan_choice, scan}
use Rattle.reading.specs.declared.Pair.{Pair}
use Rattle.reading.specs.Seen.{pair, pair_of, pair_is}
use Rattle.reading.proofs.FillLaws.{Stands, Filling, filling_as, filling_alone, set-two}
use Rattle.reading.proofs.StepLaws.{Wrong, pair-some, pair_none, fill_at}
use Rattle.canonical_items.specs.inside.Short.{is_option}
use Rattle.numbers.proofs.Impossible.{impossible}

-- ---- one option

-- what a byte that is an option's says
option_tests : (g k : ℕ) → is_option g k ≡ true → (ltb k 10 ≡ true) × (ltb g (grade_of CanonOption k) ≡ false)
unfolding is_option
option_tests g k h = go (ltb k 10) (leb (grade_of CanonOption k) g) refl refl h
  where
    go : (p q : Bool) → ltb k 10 ≡ p → leb (grade_of CanonOption k) g ≡ q → cond p q false ≡ true
        → (ltb k 10 ≡ true) × (ltb g (grade_of CanonOption k) ≡ false)
    go true true ep eq h = (ep, le-ltb g (grade_of CanonOption k) (leb-true _ _ eq))
    go true false ep eq h = impossible cc
    go false q ep eq h = impossible cc

module _ (g : ℕ) (bs : List ℕ) where
  pub option_empty : length bs ≤ 0 → None ≡ pair g field.Choice bs
  unfolding scan scan_choice pair_of
  option_empty h = simp (le-leb (length bs) 0 h)

  module _ (some : 0 < length bs) where
    pub option_other : is_option g (byte bs 0) ≡ false → None ≡ pair g field.Choice bs
    unfolding scan scan_choice pair_of is_option
    option_other h = simp (lt-leb (length bs) 0 some) (go (ltb (byte bs 0) 10) (leb (grade_of CanonOption (byte bs 0)) g) refl h)
      where
        ws : List ℕ
        ws = fill g field.Choice 0 bs

        go : (p q : Bool) → leb (grade_of CanonOption (byte bs 0)) g ≡ q → cond p q false ≡ false
            → None ≡ pair_of (cond p (cond (ltb g (grade_of CanonOption (byte bs 0))) (Bad Newer 0) (chosen bs)) (Bad Code 0)) ws
        go true true e h = impossible cc
        go true false e h = rw (lt-ltb g (grade_of CanonOption (byte bs 0)) (leb-false _ _ e)) refl
        go false q e h = refl

    module _ (is : is_option g (byte bs 0) ≡ true) where
      pub option_alone : indexed (byte bs 0) ≡ false → Some (pair_is 1 (byte bs 0) 0) ≡ pair g field.Choice bs
      unfolding scan scan_choice fill pair_of
      option_alone e =
          simp (lt-leb (length bs) 0 some, (option_tests g (byte bs 0) is).0, (option_tests g (byte bs 0) is).1, e)

      pub option_indexed : indexed (byte bs 0) ≡ true → {x : Number} → Some x ≡ seen (take_unsigned (drop 1 bs))
          → Some (pair_is (1 + x.took) (byte bs 0) x.value) ≡ pair g field.Choice bs
      unfolding scan scan_choice scan_index fill pair_of
      option_indexed e {x} s =
          let t = seen-taken (take_unsigned (drop 1 bs)) x (sym s) in
          simp (lt-leb (length bs) 0 some, (option_tests g (byte bs 0) is).0, (option_tests g (byte bs 0) is).1, e, t)

      not_behind : (r : Taken) → seen r ≡ None → None ≡ pair_of (past 1 (numbered (drop 1 bs) r 2)) (byte bs 0 ∷ value_in r ∷ [])
      unfolding pair_of
      not_behind (Ok got) h = impossible cc
      not_behind taken.Cut h = refl
      not_behind taken.Bad h = refl

      pub option_cut : indexed (byte bs 0) ≡ true → None ≡ seen (take_unsigned (drop 1 bs)) → None ≡ pair g field.Choice bs
      unfolding scan scan_choice scan_index fill
      option_cut e s =
          not_behind (take_unsigned (drop 1 bs)) (sym s)
          ∙ simp (lt-leb (length bs) 0 some, (option_tests g (byte bs 0) is).0, (option_tests g (byte bs 0) is).1, e)

-- ---- an option at a place of the input, as it is read

module _ (g : ℕ) (input : List ℕ) (at : ℕ) {r : Option Pair} (e : r ≡ pair g field.Choice (take (length input - at) (drop at input))) where
  rest : r ≡ pair g field.Choice (drop at input)
  rest = e ∙ ap (λ (s : List ℕ). pair g field.Choice s) (to_end input at)

  pub choice_some : {x : Pair} → r ≡ Some x → (scan 1 g field.Choice (drop at input) ≡ Fine x.took 2) × (x.took ≤ length input - at)
  unfolding wide
  choice_some {x} s =
      let k = pair-some g field.Choice (drop at input) refl x (sym rest ∙ s) in
      (k.0, omega (arith, k.2, length-drop at input))

  pub choice_none : r ≡ None → Wrong (scan 1 g field.Choice (drop at input))
  choice_none z = pair_none g field.Choice (drop at input) (sym rest ∙ z)

-- one that is right, read as v
pub record Chosen (g : ℕ) (input : List ℕ) (at : ℕ) (v : Pair) : Type 0 where
  pub ends : at + v.took ≤ length input
  pub is : scan 1 g field.Choice (drop at input) ≡ Fine v.took 2
  pub words : fill g field.Choice at (drop at input) ≡ v.a ∷ v.b ∷ []

module _ {g : ℕ} {input : List ℕ} {at : ℕ} {r : Option Pair} (stands : Stands g input field.Choice at)
    (e : r ≡ pair g field.Choice (take (length input - at) (drop at input))) where
  pub choice_there : IsSome r
  unfolding pair_of
  choice_there =
      ap is_some (rest g input at e) ∙ ap (λ (l : Leaf). is_some (pair_of l (fill g field.Choice 0 (drop at input)))) stands.is

  pub choice_read : {v : Pair} → r ≡ Some v → Chosen g input at v
  unfolding wide
  choice_read {v} s =
      let k = pair-some g field.Choice (drop at input) refl v (sym (rest g input at e) ∙ s) in
      let took = (fine-same (sym stands.is ∙ k.0)).0 in
      record { ends = omega (arith, stands.ends, took); is = k.0; words = fill_at g field.Choice at (drop at input) tt ∙ k.1 }

-- ---- the loop

pub choices-wide : widths (field.Choice ∷ field.Nothing ∷ []) ≡ 2
unfolding widths wide
choices-wide = refl

pub room_of : {g : ℕ} {input : List ℕ} {gs : List Field} {n from : ℕ} {first : List ℕ} {base due at to : ℕ} {row : List ℕ}
    → Filling g input gs n from first base due at to row → 0 < due → (w : ℕ) → widths gs ≡ w → to + w ≤ length row
room_of {gs = gs} {due = due} k some w e =
    let p : due ≡ suc (due - 1) = omega arith in
    let q : due * widths gs ≡ suc (due - 1) * widths gs = ap (λ j. j * widths gs) p in
    omega (arith, k.room, e, q, suc-mul (due - 1) (widths gs))

pub choice-next : {g : ℕ} {input : List ℕ} {n from : ℕ} {first : List ℕ} {base due at to : ℕ} {row : List ℕ} {v : Pair}
    → Filling g input (field.Choice ∷ field.Nothing ∷ []) n from first base due at to row → 0 < due → Chosen g input at v
    → Filling g input (field.Choice ∷ field.Nothing ∷ []) n from first base (due - 1) (at + v.took) (to + 2)
    (set (set row to v.a) (to + 1) v.b)
choice-next {to = to} {row = row} {v = v} k some s =
    let stored = set-two row to v.a v.b ∙ ap (λ (l : List ℕ). sets row to l) (sym s.words) in
    filling_as (filling_alone k some s.is _ stored) refl (ap (λ j. to + j) choices-wide)
