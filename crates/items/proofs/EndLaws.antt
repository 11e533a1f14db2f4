-- Where groups end: what a step says of its field at a place of the input, an O with 00 behind it, and the groups of a kind.
use Rattle.std.specs.Prelude.{Err, Ok, Some, None}
use Prim.Native.Nat.{ℕ, ◌+◌, ◌-◌, ◌≤◌, ◌<◌}
use native.Mathlib.Omega.{arith}
use mathlib.Core.Path.{◌≡◌, refl, sym, ap, subst, ◌∙◌}
use mathlib.Core.Bool.{Bool, true, false, cond}
use mathlib.Core.List.{List, [], ◌∷◌}
use lib.Dec.{eqb}
use lib.ListN.{length, take, drop, length-drop}
use borrow.Author.Tests.{lt-leb, le-leb, ne_eqb}
use Rattle.numbers.specs.declared.leb.Number.{Number}
use Rattle.numbers.specs.Seen.{short_signed}
use Rattle.numbers.proofs.BytesLaws.{to_end}
use Rattle.numbers.proofs.SeenLaws.{short-some}
use Rattle.fields.specs.declared.Field.{Field}
use Rattle.fields.specs.declared.Field.TheVariants as field
use Rattle.fields.specs.Leaf.{Leaf, Fine}
use Rattle.fields.specs.Words.{wide}
use Rattle.reading.specs.Scan.{byte, then_zero, scan_optional, scan}
use Rattle.fields.specs.Shape.{repeated, widths}
use Rattle.reading.specs.declared.Pair.{Pair}
use Rattle.reading.specs.Seen.{pair, pair_is}
use Rattle.reading.specs.inside.Steps.{scans, end_of}
use Rattle.reading.proofs.StepLaws.{Wrong, Going, going_start, going_alone, pair-some, pair_none, name-any, scan-takes, labels-any}
use Rattle.reading.proofs.ValueLaws.{value-index}
use Rattle.numbers.proofs.Impossible.{impossible}
use Rattle.items.specs.inside.Group.{group_one, group_two, group_of}

-- ---- a field at a place of the input

-- a step of two words that answers: its field is right
pair_right : (g : ℕ) (f : Field) (bs : List ℕ) {v : Pair} → wide f ≡ 2 → Some v ≡ pair g f bs
    → (scan 1 g f bs ≡ Fine v.took 2) × (v.took ≤ length bs)
pair_right g f bs {v} w e = let k = pair-some g f bs w v (sym e) in (k.0, k.2)

-- the same of one lent the input from its place on
pub step-some : (g : ℕ) (f : Field) (input : List ℕ) (at : ℕ) {v : Pair} → wide f ≡ 2
    → Some v ≡ pair g f (take (length input - at) (drop at input))
    → (scan 1 g f (drop at input) ≡ Fine v.took 2) × (v.took ≤ length input - at)
step-some g f input at {v} w e =
    let k = pair_right g f (drop at input) w (e ∙ ap (λ (s : List ℕ). pair g f s) (to_end input at)) in
    (k.0, subst (λ (m : ℕ). v.took ≤ m) (length-drop at input) k.1)

-- one that answers nothing: its field is not right
pub step_none : (g : ℕ) (f : Field) (input : List ℕ) (at : ℕ)
    → None ≡ pair g f (take (length input - at) (drop at input)) → Wrong (scan 1 g f (drop at input))
step_none g f input at e = pair_none g f (drop at input) (sym (e ∙ ap (λ (s : List ℕ). pair g f s) (to_end input at)))

-- a name, which is the same of every grade
pub name-some : (g : ℕ) (input : List ℕ) (at : ℕ) {v : Pair} → Some v ≡ pair 1 field.Name (take (length input - at) (drop at input))
    → (scan 1 g field.Name (drop at input) ≡ Fine v.took 2) × (v.took ≤ length input - at)
unfolding wide
name-some g input at e = step-some g field.Name input at refl (e ∙ sym (name-any g (take (length input - at) (drop at input))))

pub name_none : (g : ℕ) (input : List ℕ) (at : ℕ) → None ≡ pair 1 field.Name (take (length input - at) (drop at input))
    → Wrong (scan 1 g field.Name (drop at input))
name_none g input at e = step_none g field.Name input at (e ∙ sym (name-any g (take (length input - at) (drop at input))))

-- a V
pub value-some : (g : ℕ) (input : List ℕ) (at : ℕ) {v : Pair} → Some v ≡ pair g field.Value (take (length input - at) (drop at input))
    → (scan 1 g field.Value (drop at input) ≡ Fine v.took 2) × (v.took ≤ length input - at)
unfolding wide
value-some g input at e = step-some g field.Value input at refl e

-- a V seen as a short number: it is an index
pub value-short : (g : ℕ) (input : List ℕ) (at : ℕ) {x : Number} → Some x ≡ short_signed (take (length input - at) (drop at input))
    → (scan 1 g field.Value (drop at input) ≡ Fine x.took 2) × (x.took ≤ length input - at)
value-short g input at {x} e =
    let part = take (length input - at) (drop at input) in
    value-some g input at {v = pair_is x.took 1 x.value} (value-index g part x.value x.took (short-some part x (sym e)).0)

-- ---- a loop over groups, i of them done

module _ {g : ℕ} {input : List ℕ} {gs : List Field} {n from : ℕ} where
  pub going_on : (i : ℕ) {at : ℕ} → Going g input gs n from (n - i - 1) at → Going g input gs n from (n - (i + 1)) at
  going_on i {at} o =
      let same : n - i - 1 ≡ n - (i + 1) = omega arith in
      subst (λ (k : ℕ). Going g input gs n from k at) same o

-- past a group of one field, to any place that is behind it
pub going_past : {g : ℕ} {input : List ℕ} {f : Field} {n from : ℕ} (i : ℕ) {at : ℕ}
    → Going g input (f ∷ field.Nothing ∷ []) n from (n - i) at → 0 < n - i → {t : ℕ} → scan 1 g f (drop at input) ≡ Fine t 2 → (b : ℕ) → b ≡ at + t
    → Going g input (f ∷ field.Nothing ∷ []) n from (n - (i + 1)) b
going_past {g} {input} {f} {n} {from} i {at} o some e b p =
    subst (λ (a : ℕ). Going g input (f ∷ field.Nothing ∷ []) n from (n - (i + 1)) a) (sym p) (going_on i (going_alone o some e))

-- ---- an O with 00 behind it

-- there is one, another byte, no byte; the O is not right
case_is : (g : ℕ) (bs : List ℕ) (t : ℕ) → scan 1 g field.Optional bs ≡ Fine t 2 → t < length bs → byte bs t ≡ 0
    → Some (t + 1) ≡ end_of (scan 1 g field.OptionalThenZero bs)
unfolding scan end_of
case_is g bs t e h z = simp (e, lt-leb (length bs) t h, z)

case_not : (g : ℕ) (bs : List ℕ) (t : ℕ) → scan 1 g field.Optional bs ≡ Fine t 2 → t < length bs → (byte bs t ≡ 0 → ⊥)
    → None ≡ end_of (scan 1 g field.OptionalThenZero bs)
unfolding scan end_of
case_not g bs t e h n = simp (e, lt-leb (length bs) t h, ne_eqb (byte bs t) 0 n)

case-cut : (g : ℕ) (bs : List ℕ) (t : ℕ) → scan 1 g field.Optional bs ≡ Fine t 2 → length bs ≤ t
    → None ≡ end_of (scan 1 g field.OptionalThenZero bs)
unfolding scan end_of
case-cut g bs t e h = simp (e, le-leb (length bs) t h)

case-wrong : (g : ℕ) (bs : List ℕ) → Wrong (scan 1 g field.Optional bs) → None ≡ end_of (scan 1 g field.OptionalThenZero bs)
unfolding scan end_of
case-wrong g bs w = go (scan_optional g bs) w
  where
    go : (l : Leaf) → Wrong l → None ≡ end_of (then_zero bs l)
    go (Ok span) w = absurd w
    go (Err fault) w = refl

-- the same of the step that read the O
module _ (g : ℕ) (bs : List ℕ) where
  module _ {x : Pair} (e : Some x ≡ pair g field.Optional bs) where
    optional_is : scan 1 g field.Optional bs ≡ Fine x.took 2
    unfolding wide
    optional_is = (pair_right g field.Optional bs refl e).0

    pub case_fine : x.took < length bs → byte bs x.took ≡ 0 → Some (x.took + 1) ≡ end_of (scan 1 g field.OptionalThenZero bs)
    case_fine k z = case_is g bs x.took optional_is k z

    pub case_other : x.took < length bs → (byte bs x.took ≡ 0 → ⊥) → None ≡ end_of (scan 1 g field.OptionalThenZero bs)
    case_other k n = case_not g bs x.took optional_is k n

    pub case_short : length bs ≤ x.took → None ≡ end_of (scan 1 g field.OptionalThenZero bs)
    case_short k = case-cut g bs x.took optional_is k

  pub case_none : None ≡ pair g field.Optional bs → None ≡ end_of (scan 1 g field.OptionalThenZero bs)
  case_none e = case-wrong g bs (pair_none g field.Optional bs (sym e))

-- where it ends, seen in the part from its place on
pub case-some : (g : ℕ) (input : List ℕ) (at : ℕ) {t : ℕ}
    → Some t ≡ end_of (scan 1 g field.OptionalThenZero (take (length input - at) (drop at input)))
    → (scan 1 g field.OptionalThenZero (drop at input) ≡ Fine t 2) × (t ≤ length input - at)
unfolding end_of wide
case-some g input at {t} e =
    go (scan 1 g field.OptionalThenZero s) refl
    (e ∙ ap (λ (part : List ℕ). end_of (scan 1 g field.OptionalThenZero part)) (to_end input at))
  where
    s : List ℕ
    s = drop at input

    go : (l : Leaf) → scan 1 g field.OptionalThenZero s ≡ l → Some t ≡ end_of l
        → (scan 1 g field.OptionalThenZero s ≡ Fine t 2) × (t ≤ length input - at)
    go (Ok span) p q =
        let k = scan-takes g field.OptionalThenZero s span.took span.made tt p in
        let size : span.took ≤ length input - at = subst (λ (b : ℕ). span.took ≤ b) (length-drop at input) k.1 in
        let same : span.took ≡ t = cc in
        (p ∙ ap (λ (b : ℕ). Fine b span.made) same ∙ ap (λ (b : ℕ). Fine t b) k.2, subst (λ (b : ℕ). b ≤ length input - at) same size)
    go (Err fault) p q = impossible cc

pub case_never : (g : ℕ) (input : List ℕ) (at : ℕ)
    → None ≡ end_of (scan 1 g field.OptionalThenZero (take (length input - at) (drop at input)))
    → Wrong (scan 1 g field.OptionalThenZero (drop at input))
unfolding end_of
case_never g input at e =
    go (scan 1 g field.OptionalThenZero (drop at input))
    (e ∙ ap (λ (part : List ℕ). end_of (scan 1 g field.OptionalThenZero part)) (to_end input at))
  where
    go : (l : Leaf) → None ≡ end_of l → Wrong l
    go (Ok span) q = impossible cc
    go (Err fault) q = tt

-- ---- the groups of a kind

pub record_group : (kind : ℕ) → kind ≡ 1 → group_of kind ≡ field.Name ∷ field.Value ∷ []
unfolding group_one group_two
record_group kind e = rw e

pub variant_group : (kind : ℕ) → kind ≡ 2 → group_of kind ≡ field.Name ∷ field.OptionalThenZero ∷ []
unfolding group_one group_two
variant_group kind e = rw e

pub tuple_group : (kind : ℕ) → kind ≡ 6 → group_of kind ≡ field.Value ∷ field.Nothing ∷ []
unfolding group_one group_two
tuple_group kind e = rw e

-- of every other kind: labels
one_name : (kind : ℕ) → (kind ≡ 6 → ⊥) → group_one kind ≡ field.Name
unfolding group_one
one_name kind n = simp (ne_eqb kind 6 n)

two_nothing : (kind : ℕ) → (kind ≡ 1 → ⊥) → (kind ≡ 2 → ⊥) → group_two kind ≡ field.Nothing
unfolding group_two
two_nothing kind n m = simp (ne_eqb kind 1 n, ne_eqb kind 2 m)

pub label-group : (kind : ℕ) → (kind ≡ 1 → ⊥) → (kind ≡ 2 → ⊥) → (kind ≡ 6 → ⊥) → group_of kind ≡ field.Name ∷ field.Nothing ∷ []
label-group kind n m k =
    ap (λ (f : Field). f ∷ group_two kind ∷ []) (one_name kind k) ∙ ap (λ (f : Field). field.Name ∷ f ∷ []) (two_nothing kind n m)

-- where they end
pub end_as : (g : ℕ) (input : List ℕ) (n from : ℕ) {gs hs : List Field} → hs ≡ gs
    → end_of (scans g input (repeated n gs) from 0) ≡ end_of (scans g input (repeated n hs) from 0)
end_as g input n from e = ap (λ (fs : List Field). end_of (scans g input (repeated n fs) from 0)) (sym e)

pub end_labels : (g : ℕ) (input : List ℕ) (n from : ℕ) {hs : List Field} → hs ≡ field.Name ∷ field.Nothing ∷ []
    → end_of (scans 1 input (repeated n (field.Name ∷ field.Nothing ∷ [])) from 0) ≡ end_of (scans g input (repeated n hs) from 0)
end_labels g input n from e = ap end_of (sym (labels-any g input n from 0).0) ∙ end_as g input n from e

-- how many words they have
pub wide_as : (kind : ℕ) {gs : List Field} → group_of kind ≡ gs → widths gs ≡ widths (group_of kind)
wide_as kind e = ap widths (sym e)

one-wide : (kind : ℕ) → wide (group_one kind) ≡ 2
unfolding group_one wide
one-wide kind = go (eqb kind 6)
  where
    go : (b : Bool) → wide (cond b field.Value field.Name) ≡ 2
    go true = refl
    go false = refl

pub wide-other : (kind : ℕ) → (kind ≡ 1 → ⊥) → (kind ≡ 2 → ⊥) → 2 ≡ widths (group_of kind)
unfolding widths wide
wide-other kind n m =
    let none : wide (group_two kind) ≡ 0 = ap wide (two_nothing kind n m) in
    omega (arith, one-wide kind, none)
