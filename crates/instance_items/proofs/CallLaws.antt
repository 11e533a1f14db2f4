-- From what reading by the kind leaves to what the calls answer, within the limits and outside.
use Rattle.std.specs.Prelude.{Option, Some, None}
use Rattle.fields.specs.declared.Shape.{Shape}
use Prim.Native.Nat.{ℕ, ◌≤◌, ◌<◌, ◌^◌}
use native.Mathlib.Omega.{arith}
use mathlib.Core.Path.{◌≡◌, refl, sym, ap, ◌∙◌, subst}
use mathlib.Core.Bool.{Bool, true, false, cond}
use mathlib.Core.List.{List}
use borrow.Author.Tests.{eqb-true}
use lib.Dec.{eqb}
use lib.ListN.{length, get_or}
use Rattle.fields.specs.Read as read
use Rattle.fields.specs.Answers.{left_row}
use Rattle.fields.specs.Table.{shape_in}
use Rattle.reading.specs.Read.{read_item, scanned_item, refusal_of}
use Rattle.reading.specs.inside.Try.{Tried, Item}
use Rattle.reading.specs.Seen.{within}
use Rattle.reading.specs.inside.Tried.{left_tried, tried_found}
use Rattle.reading.proofs.TriedLaws.{within-limits, call_done, call_not}
use Rattle.items.proofs.OnceLaws.{call_outside-one}
use Rattle.numbers.proofs.Impossible.{impossible}
use Rattle.instances.specs.Write.{core_shape_of, shape_of}
use Rattle.instance_items.specs.ReadInstance.{core_kind_of, read_core_instance, kind_of, read_instance}
use Rattle.instance_items.specs.inside.Kind.{some_kind}
use Rattle.instance_items.specs.inside.Group.{group_one, group_two, shape_by, Begins}

-- ---- the kinds of first bytes

-- a byte that is of a kind, and one that is of none
pub kind_is : (n k : ℕ) → Some k ≡ some_kind n → k ≡ n
kind_is n k e = go (eqb n 0) e
  where
    go : (b : Bool) → Some k ≡ cond b None (Some n) → k ≡ n
    go true e = impossible cc
    go false e = cc

pub kind_none : (n : ℕ) → None ≡ some_kind n → n ≡ 0
kind_none n e = go (eqb n 0) refl e
  where
    go : (b : Bool) → eqb n 0 ≡ b → None ≡ cond b None (Some n) → n ≡ 0
    go true p e = eqb-true n 0 p
    go false p e = impossible cc

-- a kind has its shape
core_shape_at : (b : ℕ) → shape_by (core_kind_of b) ≡ core_shape_of (core_kind_of b)
unfolding shape_in core_kind_of shape_by group_one group_two
core_shape_at b = go (eqb b 0) (eqb b 1)
  where
    go : (x y : Bool) → shape_by (cond x 18 (cond y 20 0)) ≡ core_shape_of (cond x 18 (cond y 20 0))
    go true y = refl
    go false true = refl
    go false false = refl

own_shape_at : (b : ℕ) → shape_by (kind_of b) ≡ shape_of (kind_of b)
unfolding shape_in kind_of shape_by group_one group_two
own_shape_at b = go (eqb b 0) (eqb b 1)
  where
    go : (x y : Bool) → shape_by (cond x 19 (cond y 21 0)) ≡ shape_of (cond x 19 (cond y 21 0))
    go true y = refl
    go false true = refl
    go false false = refl

pub core_shape : (b k : ℕ) → Some k ≡ some_kind (core_kind_of b) → shape_by k ≡ core_shape_of k
core_shape b k e = subst (λ (n : ℕ). shape_by n ≡ core_shape_of n) (sym (kind_is (core_kind_of b) k e)) (core_shape_at b)

pub own_shape : (b k : ℕ) → Some k ≡ some_kind (kind_of b) → shape_by k ≡ shape_of k
own_shape b k e = subst (λ (n : ℕ). shape_by n ≡ shape_of n) (sym (kind_is (kind_of b) k e)) (own_shape_at b)

-- and begins with its byte
core_begins_at : (b : ℕ) → Begins (core_kind_of b) b
unfolding core_kind_of
core_begins_at b = go (eqb b 0) (eqb b 1) refl refl
  where
    go : (x y : Bool) → eqb b 0 ≡ x → eqb b 1 ≡ y → Begins (cond x 18 (cond y 20 0)) b
    go true y p q = (λ e. eqb-true b 0 p, λ e. eqb-true b 0 p, λ e. absurd (omega (arith, e)), λ e. absurd (omega (arith, e)))
    go false true p q =
        (λ e. absurd (omega (arith, e)), λ e. absurd (omega (arith, e)), λ e. eqb-true b 1 q, λ e. eqb-true b 1 q)
    go false false p q =
        (λ e. absurd (omega (arith, e)), λ e. absurd (omega (arith, e)), λ e. absurd (omega (arith, e)), λ e. absurd (omega (arith, e)))

own_begins_at : (b : ℕ) → Begins (kind_of b) b
unfolding kind_of
own_begins_at b = go (eqb b 0) (eqb b 1) refl refl
  where
    go : (x y : Bool) → eqb b 0 ≡ x → eqb b 1 ≡ y → Begins (cond x 19 (cond y 21 0)) b
    go true y p q = (λ e. eqb-true b 0 p, λ e. eqb-true b 0 p, λ e. absurd (omega (arith, e)), λ e. absurd (omega (arith, e)))
    go false true p q =
        (λ e. absurd (omega (arith, e)), λ e. absurd (omega (arith, e)), λ e. eqb-true b 1 q, λ e. eqb-true b 1 q)
    go false false p q =
        (λ e. absurd (omega (arith, e)), λ e. absurd (omega (arith, e)), λ e. absurd (omega (arith, e)), λ e. absurd (omega (arith, e)))

pub core_begins : (b k : ℕ) → Some k ≡ some_kind (core_kind_of b) → Begins k b
core_begins b k e = subst (λ (n : ℕ). Begins n b) (sym (kind_is (core_kind_of b) k e)) (core_begins_at b)

pub own_begins : (b k : ℕ) → Some k ≡ some_kind (kind_of b) → Begins k b
own_begins b k e = subst (λ (n : ℕ). Begins n b) (sym (kind_is (kind_of b) k e)) (own_begins_at b)

-- ---- an item of a kind: b is the first byte

-- what reading by the kind requires
pub call_limits : (kind b g : ℕ) (input : List ℕ) → within 1 g input ≡ true → b ≡ get_or input 0 0 → Begins kind b
    → (0 < length input) × (length input ≤ 2 ^ 30) × (1 ≤ g) × (g ≤ 3) × Begins kind (get_or input 0 0)
call_limits kind b g input h eb begins =
    let k = within-limits 1 g input h in
    (k.4, k.0, k.1, k.2, subst (λ (n : ℕ). Begins kind n) eb begins)

module _ (kind g : ℕ) (input row : List ℕ) (f : Option Shape) (is : shape_by kind ≡ f) where
  module _ (h : within 1 g input ≡ true) {x : Tried} (new : List ℕ) (t : left_tried x new ≡ tried_found (shape_by kind) kind 1 g input row) where
    same : {y : Tried} → x ≡ y → left_tried y new ≡ tried_found f kind 1 g input row
    same i =
        ap (λ (s : Tried). left_tried s new) (sym i) ∙ t ∙ ap (λ (s : Option Shape). tried_found s kind 1 g input row) is

    -- an item that stands in the row is what the call answers
    pub read_some : (q e : ℕ) → x ≡ Item q e → left_row (read.Item q e) new ≡ read_item f kind 1 g input row
    read_some q e i = call_done f kind 1 g input row h q e new (same i)

    -- where there is none that has room, the call refuses
    pub read_none : x ≡ None → left_row (refusal_of (scanned_item f 1 g input)) new ≡ read_item f kind 1 g input row
    read_none i = call_not f kind 1 g input row h new (same i)

  -- and so it does outside the limits
  pub read_outside : within 1 g input ≡ false → left_row (refusal_of (scanned_item f 1 g input)) row ≡ read_item f kind 1 g input row
  read_outside h = call_outside-one f kind g input row h

-- a byte that is of no kind is refused
unknown : (g : ℕ) (input row : List ℕ) → left_row (refusal_of (scanned_item None 1 g input)) row ≡ read_item None 0 1 g input row
unknown g input row = go (within 1 g input) refl
  where
    go : (b : Bool) → within 1 g input ≡ b → left_row (refusal_of (scanned_item None 1 g input)) row ≡ read_item None 0 1 g input row
    go true h = call_not None 0 1 g input row h row refl
    go false h = call_outside-one None 0 g input row h

-- the two calls, of a byte that is of a kind and of one that is of none
module _ (b g : ℕ) (input row : List ℕ) (eb : b ≡ get_or input 0 0) where
  pub core_call : (k : ℕ) → Some k ≡ some_kind (core_kind_of b) → read_item (core_shape_of k) k 1 g input row ≡ read_core_instance g input row
  unfolding read_core_instance
  core_call k e =
      ap (λ (n : ℕ). read_item (core_shape_of n) n 1 g input row) (kind_is (core_kind_of b) k e ∙ ap (λ (n : ℕ). core_kind_of n) eb)

  pub core_unknown : None ≡ some_kind (core_kind_of b) → left_row (refusal_of (scanned_item None 1 g input)) row ≡ read_core_instance g input row
  unfolding read_core_instance shape_in
  core_unknown e =
      unknown g input row
      ∙ ap (λ (n : ℕ). read_item (core_shape_of n) n 1 g input row) (sym (kind_none (core_kind_of b) e) ∙ ap (λ (n : ℕ). core_kind_of n) eb)

  pub own_call : (k : ℕ) → Some k ≡ some_kind (kind_of b) → read_item (shape_of k) k 1 g input row ≡ read_instance g input row
  unfolding read_instance
  own_call k e = ap (λ (n : ℕ). read_item (shape_of n) n 1 g input row) (kind_is (kind_of b) k e ∙ ap (λ (n : ℕ). kind_of n) eb)

  pub own_unknown : None ≡ some_kind (kind_of b) → left_row (refusal_of (scanned_item None 1 g input)) row ≡ read_instance g input row
  unfolding read_instance shape_in
  own_unknown e =
      unknown g input row
      ∙ ap (λ (n : ℕ). read_item (shape_of n) n 1 g input row) (sym (kind_none (kind_of b) e) ∙ ap (λ (n : ℕ). kind_of n) eb)
