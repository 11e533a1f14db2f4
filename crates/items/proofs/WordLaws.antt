-- Groups whose words straight code stores: what is seen of a name, of a V and of an O with 00 behind it that are right, and the loop
-- past them; and the groups of a kind.
use Rattle.std.specs.Prelude.{Err, Ok, Some, is_some, IsSome}
use Prim.Native.Nat.{ℕ, suc, ◌+◌, ◌-◌, ◌*◌, ◌≤◌, ◌<◌}
use native.Mathlib.Nat.{suc-mul}
use native.Mathlib.Omega.{arith}
use mathlib.Core.Path.{◌≡◌, refl, sym, ap, ◌∙◌, subst}
use mathlib.Core.Bool.{Bool, true, false, cond}
use mathlib.Core.List.{List, [], ◌∷◌, ◌++◌}
use lib.Dec.{eqb, leb}
use lib.ListN.{length, take, drop, set, length-drop}
use lib.Seq.{sets}
use borrow.Author.Tests.{ne_eqb}
use Rattle.numbers.specs.declared.leb.Number.{Number}
use Rattle.numbers.specs.Leb.{take_unsigned}
use Rattle.numbers.specs.Seen.{seen, short_signed}
use Rattle.numbers.proofs.BytesLaws.{to_end}
use Rattle.numbers.proofs.SeenLaws.{short-some}
use Rattle.fields.proofs.OutcomeLaws.{fine-same}
use Rattle.fields.specs.declared.Field.{Field}
use Rattle.fields.specs.declared.Field.TheVariants as field
use Rattle.fields.specs.Leaf.{Leaf, Fine, Bad}
use Rattle.fields.specs.declared.Refusal.TheVariants.{Code}
use Rattle.reading.specs.Fill.{fill}
use Rattle.fields.specs.Words.{wide}
use Rattle.reading.specs.Scan.{byte, cut, then_zero, scan_optional, scan}
use Rattle.fields.specs.Shape.{repeated, widths}
use Rattle.reading.specs.declared.Pair.{Pair}
use Rattle.reading.specs.Seen.{pair, pair_of, pair_is}
use Rattle.reading.specs.inside.Steps.{scans, fills, end_of}
use Rattle.reading.proofs.FillLaws.{Stands, Filling, filling_start, filling_as, filling_second, filling_next, filling_alone, set-two, set_four, name_seen, name_words}
use Rattle.reading.proofs.StepLaws.{Still, pair-some, fill_at}
use Rattle.reading.proofs.ValueLaws.{value-index}
use Rattle.items.specs.inside.Group.{group_one, group_two, group_of}
use Rattle.numbers.proofs.Impossible.{impossible}

-- ---- what is seen of a field that is right

-- a name at `at`, whose length is seen as r
pub record Named (g : ℕ) (input : List ℕ) (at : ℕ) (r : Number) : Type 0 where
  pub made : ℕ
  pub ends : at + r.took + r.value ≤ length input
  pub is : scan 1 g field.Name (drop at input) ≡ Fine (r.took + r.value) made
  pub words : fill g field.Name at (drop at input) ≡ (at + r.took) ∷ r.value ∷ []

-- what is seen of a length
pub length_seen : {g : ℕ} {input : List ℕ} {at : ℕ} → Stands g input field.Name at
    → IsSome (seen (take_unsigned (take (length input - at) (drop at input))))
length_seen {g} {input} {at} s =
    subst (λ (l : List ℕ). IsSome (seen (take_unsigned l))) (sym (to_end input at)) (name_seen g (drop at input) s.t s.m s.is)

pub named : {g : ℕ} {input : List ℕ} {at : ℕ} {r : Number} → Stands g input field.Name at
    → Some r ≡ seen (take_unsigned (take (length input - at) (drop at input))) → Named g input at r
named {g} {input} {at} {r} s e =
    let same = sym (e ∙ ap (λ (l : List ℕ). seen (take_unsigned l)) (to_end input at)) in
    let w = name_words g at (drop at input) s.t s.m s.is r same in
    record {
      made = s.m;
      ends = omega (arith, s.ends, w.3);
      is = s.is ∙ ap (λ t. Fine t s.m) w.3;
      words = w.4;
    }

-- a field of two words at `at`, read as v
pub record Paired (g : ℕ) (input : List ℕ) (f : Field) (at : ℕ) (v : Pair) : Type 0 where
  pub made : ℕ
  pub ends : at + v.took ≤ length input
  pub is : scan 1 g f (drop at input) ≡ Fine v.took made
  pub words : fill g f at (drop at input) ≡ v.a ∷ v.b ∷ []

-- a field that is right is read
pair_fine : (g : ℕ) (f : Field) (bs : List ℕ) (t m : ℕ) → scan 1 g f bs ≡ Fine t m → IsSome (pair g f bs)
unfolding pair_of
pair_fine g f bs t m e = ap (λ (l : Leaf). is_some (pair_of l (fill g f 0 bs))) e

pub pair_seen : {g : ℕ} {input : List ℕ} {f : Field} {at : ℕ} → Stands g input f at
    → IsSome (pair g f (take (length input - at) (drop at input)))
pair_seen {g} {input} {f} {at} s =
    subst (λ (l : List ℕ). IsSome (pair g f l)) (sym (to_end input at)) (pair_fine g f (drop at input) s.t s.m s.is)

pub paired : {g : ℕ} {input : List ℕ} {f : Field} {at : ℕ} {v : Pair} → Still f → wide f ≡ 2 → at ≤ length input
    → Some v ≡ pair g f (take (length input - at) (drop at input)) → Paired g input f at v
paired {g} {input} {f} {at} {v} still w inside e =
    let bs = drop at input in
    let k = pair-some g f bs w v (sym (e ∙ ap (λ (l : List ℕ). pair g f l) (to_end input at))) in
    record { made = 2; ends = omega (arith, k.2, inside, length-drop at input); is = k.0; words = fill_at g f at bs still ∙ k.1 }

-- a V
pub value-paired : {g : ℕ} {input : List ℕ} {at : ℕ} {v : Pair} → at ≤ length input
    → Some v ≡ pair g field.Value (take (length input - at) (drop at input)) → Paired g input field.Value at v
unfolding wide
value-paired h e = paired tt refl h e

-- a V that is a short index
pub short-paired : {g : ℕ} {input : List ℕ} {at : ℕ} {x : Number} → at ≤ length input
    → Some x ≡ short_signed (take (length input - at) (drop at input)) → Paired g input field.Value at (pair_is x.took 1 x.value)
short-paired {g} {input} {at} {x} h e =
    let part = take (length input - at) (drop at input) in
    value-paired h (value-index g part x.value x.took (short-some part x (sym e)).0)

-- an O with 00 behind it, whose O is read as v
pub record Closed (g : ℕ) (input : List ℕ) (at : ℕ) (v : Pair) : Type 0 where
  pub made : ℕ
  pub ends : at + (v.took + 1) ≤ length input
  pub is : scan 1 g field.OptionalThenZero (drop at input) ≡ Fine (v.took + 1) made
  pub words : fill g field.OptionalThenZero at (drop at input) ≡ v.a ∷ v.b ∷ []

-- what has 00 behind it is right, and a byte shorter
record Before (l : Leaf) (t m : ℕ) : Type 0 where
  u : ℕ
  is : l ≡ Fine u m
  more : t ≡ u + 1

before-zero : (bs : List ℕ) (l : Leaf) (t m : ℕ) → then_zero bs l ≡ Fine t m → Before l t m
before-zero bs (Ok span) t m e = go (leb (length bs) span.took) (eqb (byte bs span.took) 0) e
  where
    go : (p q : Bool) → cond p (cut bs) (cond q (Fine (span.took + 1) span.made) (Bad Code span.took)) ≡ Fine t m → Before (Fine span.took span.made) t m
    go true q e = impossible cc
    go false true e =
        let same = fine-same e in
        record { u = span.took; is = ap (λ j. Fine span.took j) same.1; more = sym same.0 }
    go false false e = impossible cc
before-zero bs (Err fault) t m e = impossible cc

-- the O before it
module _ {g : ℕ} {input : List ℕ} {at : ℕ} (s : Stands g input field.OptionalThenZero at) where
  opened : Before (scan 1 g field.Optional (drop at input)) s.t s.m
  unfolding scan
  opened = before-zero (drop at input) (scan_optional g (drop at input)) s.t s.m s.is

  optional_stands : Stands g input field.Optional at
  optional_stands =
      let o = opened in
      record { t = o.u; m = s.m; is = o.is; within = omega (arith, o.more, s.within); ends = omega (arith, o.more, s.ends) }

  pub optional_seen : IsSome (pair g field.Optional (take (length input - at) (drop at input)))
  optional_seen = pair_seen optional_stands

  pub closed : {v : Pair} → at ≤ length input → Some v ≡ pair g field.Optional (take (length input - at) (drop at input))
      → Closed g input at v
  unfolding fill wide
  closed {v} inside e =
      let o = opened in
      let p : Paired g input field.Optional at v = paired tt refl inside e in
      let took : o.u ≡ v.took = (fine-same (sym o.is ∙ p.is)).0 in
      record {
        made = s.m;
        ends = omega (arith, s.ends, o.more, took);
        is = s.is ∙ ap (λ t. Fine t s.m) (o.more ∙ ap (λ j. j + 1) took);
        words = p.words;
      }

-- ---- the loop, i of its groups stored

module _ {g : ℕ} {input : List ℕ} {gs : List Field} {n from : ℕ} {first : List ℕ} {base : ℕ} where
  pub filling_from : from ≤ length input → base + n * widths gs ≤ length first → IsSome (end_of (scans g input (repeated n gs) from 0))
      → Filling g input gs n from first base (n - 0) from base first
  filling_from h b r =
      let same : n ≡ n - 0 = omega arith in
      subst (λ k. Filling g input gs n from first base k from base first) same (filling_start h b r)

  pub filling_on : (i : ℕ) {at to : ℕ} {row : List ℕ} → Filling g input gs n from first base (n - i - 1) at to row
      → Filling g input gs n from first base (n - (i + 1)) at to row
  filling_on i {at} {to} {row} k =
      let same : n - i - 1 ≡ n - (i + 1) = omega arith in
      subst (λ j. Filling g input gs n from first base j at to row) same k

-- the next group has room
pub room_of : {g : ℕ} {input : List ℕ} {gs : List Field} {n from : ℕ} {first : List ℕ} {base due at to : ℕ} {row : List ℕ}
    → Filling g input gs n from first base due at to row → 0 < due → (w : ℕ) → widths gs ≡ w → to + w ≤ length row
room_of {gs = gs} {due = due} k some w e =
    let p : due ≡ suc (due - 1) = omega arith in
    let q : due * widths gs ≡ suc (due - 1) * widths gs = ap (λ j. j * widths gs) p in
    omega (arith, k.room, e, q, suc-mul (due - 1) (widths gs))

-- the words of each group
pub labels-wide : widths (field.Name ∷ field.Nothing ∷ []) ≡ 2
unfolding widths wide
labels-wide = refl

pub values-wide : widths (field.Value ∷ field.Nothing ∷ []) ≡ 2
unfolding widths wide
values-wide = refl

pub fields_wide : widths (field.Name ∷ field.Value ∷ []) ≡ 4
unfolding widths wide
fields_wide = refl

pub cases_wide : widths (field.Name ∷ field.OptionalThenZero ∷ []) ≡ 4
unfolding widths wide
cases_wide = refl

module _ {g : ℕ} {input : List ℕ} {n from : ℕ} {first : List ℕ} {base due at to : ℕ} {row : List ℕ} where
  -- past a label
  pub label_next : {r : Number} → Filling g input (field.Name ∷ field.Nothing ∷ []) n from first base due at to row → 0 < due
      → Named g input at r
      → Filling g input (field.Name ∷ field.Nothing ∷ []) n from first base (due - 1) (at + r.took + r.value) (to + 2)
      (set (set row to (at + r.took)) (to + 1) r.value)
  label_next {r} k some s =
      let here : at + (r.took + r.value) ≡ at + r.took + r.value = omega arith in
      let stored = set-two row to (at + r.took) r.value ∙ ap (λ (l : List ℕ). sets row to l) (sym s.words) in
      filling_as (filling_alone k some s.is _ stored) here (ap (λ j. to + j) labels-wide)

  -- past a V
  pub value_next : {v : Pair} → Filling g input (field.Value ∷ field.Nothing ∷ []) n from first base due at to row → 0 < due
      → Paired g input field.Value at v
      → Filling g input (field.Value ∷ field.Nothing ∷ []) n from first base (due - 1) (at + v.took) (to + 2)
      (set (set row to v.a) (to + 1) v.b)
  value_next {v} k some s =
      let stored = set-two row to v.a v.b ∙ ap (λ (l : List ℕ). sets row to l) (sym s.words) in
      filling_as (filling_alone k some s.is _ stored) refl (ap (λ j. to + j) values-wide)

  -- past a name and a field of two words behind it
  group_next : {h : Field} {r : Number} {u m a b : ℕ} → Filling g input (field.Name ∷ h ∷ []) n from first base due at to row → 0 < due
      → widths (field.Name ∷ h ∷ []) ≡ 4 → Named g input at r → scan 1 g h (drop (at + r.took + r.value) input) ≡ Fine u m
      → fill g h (at + r.took + r.value) (drop (at + r.took + r.value) input) ≡ a ∷ b ∷ []
      → Filling g input (field.Name ∷ h ∷ []) n from first base (due - 1) (at + r.took + r.value + u) (to + 4)
      (set (set (set (set row to (at + r.took)) (to + 1) r.value) (to + 2) a) (to + 3) b)
  group_next {h} {r} {u} {m} {a} {b} k some wd s d ws =
      let p : at + r.took + r.value ≡ at + (r.took + r.value) = omega arith in
      let there = subst (λ j. scan 1 g h (drop j input) ≡ Fine u m) p d in
      let more = subst (λ j. fill g h j (drop j input) ≡ a ∷ b ∷ []) p ws in
      let both : (at + r.took) ∷ r.value ∷ a ∷ b ∷ []
      ≡ fill g field.Name at (drop at input) ++ fill g h (at + (r.took + r.value)) (drop (at + (r.took + r.value)) input) =
      sym (ap (λ (l : List ℕ). l ++ fill g h (at + (r.took + r.value)) (drop (at + (r.took + r.value)) input)) s.words
      ∙ ap (λ (l : List ℕ). (at + r.took) ∷ r.value ∷ l) more) in
      let stored = set_four row to (at + r.took) r.value a b ∙ ap (λ (l : List ℕ). sets row to l) both in
      filling_as (filling_next k some s.is there _ stored) (ap (λ j. j + u) (sym p)) (ap (λ j. to + j) wd)

  -- past a name and a V
  pub field_next : {r : Number} {v : Pair} → Filling g input (field.Name ∷ field.Value ∷ []) n from first base due at to row → 0 < due
      → Named g input at r → Paired g input field.Value (at + r.took + r.value) v
      → Filling g input (field.Name ∷ field.Value ∷ []) n from first base (due - 1) (at + r.took + r.value + v.took) (to + 4)
      (set (set (set (set row to (at + r.took)) (to + 1) r.value) (to + 2) v.a) (to + 3) v.b)
  field_next k some s p = group_next k some fields_wide s p.is p.words

  -- past a name, an O and 00
  pub case_next : {r : Number} {v : Pair} → Filling g input (field.Name ∷ field.OptionalThenZero ∷ []) n from first base due at to row
      → 0 < due → Named g input at r → Closed g input (at + r.took + r.value) v
      → Filling g input (field.Name ∷ field.OptionalThenZero ∷ []) n from first base (due - 1)
      (at + r.took + r.value + (v.took + 1)) (to + 4)
      (set (set (set (set row to (at + r.took)) (to + 1) r.value) (to + 2) v.a) (to + 3) v.b)
  case_next k some s p = group_next k some cases_wide s p.is p.words

-- a place and a row under other names
pub filling_now : {g : ℕ} {input : List ℕ} {gs : List Field} {n from : ℕ} {first : List ℕ} {base due at at' to : ℕ} {row row' : List ℕ}
    → Filling g input gs n from first base due at to row → row' ≡ row → at' ≡ at
    → Filling g input gs n from first base due at' to row'
filling_now {g} {input} {gs} {n} {from} {first} {base} {due} {at} {at'} {to} {row} {row'} k er ea =
    subst (λ (l : List ℕ). Filling g input gs n from first base due at' to l) (sym er)
    (subst (λ j. Filling g input gs n from first base due j to row) (sym ea) k)

-- the second field of a group is right where its name ends
pub second-stands : {g : ℕ} {input : List ℕ} {h : Field} {n from : ℕ} {first : List ℕ} {base due at to : ℕ} {row : List ℕ} {r : Number}
    → Filling g input (field.Name ∷ h ∷ []) n from first base due at to row → 0 < due → Named g input at r
    → Stands g input h (at + r.took + r.value)
second-stands {g} {input} {h} {at = at} {r = r} k some s =
    let p : at + (r.took + r.value) ≡ at + r.took + r.value = omega arith in
    subst (λ j. Stands g input h j) p (filling_second k some s.is)

-- ---- the groups of a kind

pub group_fields : (kind : ℕ) → kind ≡ 1 → group_of kind ≡ field.Name ∷ field.Value ∷ []
unfolding group_one group_two
group_fields kind e = ap group_of e

pub group_cases : (kind : ℕ) → kind ≡ 2 → group_of kind ≡ field.Name ∷ field.OptionalThenZero ∷ []
unfolding group_one group_two
group_cases kind e = ap group_of e

pub group-values : (kind : ℕ) → kind ≡ 6 → group_of kind ≡ field.Value ∷ field.Nothing ∷ []
unfolding group_one group_two
group-values kind e = ap group_of e

pub group-labels : (kind : ℕ) → (kind ≡ 1 → ⊥) → (kind ≡ 2 → ⊥) → (kind ≡ 6 → ⊥) → group_of kind ≡ field.Name ∷ field.Nothing ∷ []
unfolding group_one group_two
group-labels kind a b c = simp (ne_eqb kind 1 a, ne_eqb kind 2 b, ne_eqb kind 6 c)

-- what is asked of the groups of a kind, under their own fields
pub own_room : (n w size : ℕ) {gs hs : List Field} → gs ≡ hs → widths hs ≡ w → 2 + n * widths gs ≤ size → 2 + n * w ≤ size
own_room n w size e wd h = subst (λ k. 2 + n * k ≤ size) (ap (λ (l : List Field). widths l) e ∙ wd) h

pub own_right : (g : ℕ) (input : List ℕ) (n from : ℕ) {gs hs : List Field} → gs ≡ hs
    → IsSome (end_of (scans g input (repeated n gs) from 0)) → IsSome (end_of (scans g input (repeated n hs) from 0))
own_right g input n from e h = subst (λ (l : List Field). IsSome (end_of (scans g input (repeated n l) from 0))) e h

-- and what they leave
pub own_words : (g : ℕ) (input : List ℕ) (n from : ℕ) (row : List ℕ) {gs hs : List Field} {new : List ℕ} → gs ≡ hs
    → new ≡ sets row 2 (fills g input (repeated n hs) from) → new ≡ sets row 2 (fills g input (repeated n gs) from)
own_words g input n from row e w = w ∙ ap (λ (l : List Field). sets row 2 (fills g input (repeated n l) from)) (sym e)
