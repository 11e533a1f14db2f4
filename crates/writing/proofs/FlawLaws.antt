-- What words that are right are, and where the first that is not stands.
use Rattle.std.specs.Prelude.{Err}
use Prim.Native.Nat.{ℕ, ◌+◌, ◌≤◌, ◌<◌}
use native.Mathlib.Omega.{arith}
use mathlib.Core.Path.{◌≡◌, refl, ◌∙◌}
use mathlib.Core.Bool.{Bool, true, false, cond}
use mathlib.Core.List.{List}
use lib.Dec.{eqb, ltb, leb}
use lib.ListN.{length}
use borrow.Author.Tests.{eqb-true, ltb-true, leb-true, eq-eqb, ne_eqb}
use Rattle.numbers.specs.Text.{text}
use Rattle.fields.specs.declared.Field.{Field}
use Rattle.fields.specs.declared.Field.TheVariants as field
use Rattle.fields.specs.declared.Refusal.{Refusal}
use Rattle.fields.specs.declared.Refusal.TheVariants.{Tag, Range, Text}
use Rattle.fields.specs.Flaw.{Flaw}
use Rattle.fields.specs.Flaw.{Right, Wrong}
use Rattle.fields.specs.Words.{word, chars, indexed}
use Rattle.writing.specs.Judge.{then, below, unused, value, optional_value, named, optional_index, choice, optional_name, reference, flaw}
use Rattle.writing.specs.inside.Extern.{option_words, SlotInside, ExternInside}
use Rattle.numbers.proofs.Impossible.{impossible}

-- a word that is judged below n is
pub below_is : (n : ℕ) (ws : List ℕ) (i : ℕ) → below n ws i ≡ Right → word ws i < n
below_is n ws i e = go (ltb (word ws i) n) refl e
  where
    go : (b : Bool) → ltb (word ws i) n ≡ b → cond b Right (Wrong Tag i) ≡ Right → word ws i < n
    go true t e = ltb-true _ _ t
    go false t e = impossible cc

-- a flaw stands at one of the field's words
abbrev pub Placed : Flaw → Type 0
Placed Right = Unit {0}
Placed (Err fault) = fault.value ≤ 10

-- the same as data, which follows the tests
data Near : Flaw → Type 0 where
  right : Near Right
  wrong : {w : Refusal} (j : ℕ) → j ≤ 10 → Near (Wrong w j)

placed : {x : Flaw} → Near x → Placed x
placed right = tt
placed (wrong j h) = h

either : (b : Bool) {x y : Flaw} → Near x → Near y → Near (cond b x y)
either true p q = p
either false p q = q

first : {x y : Flaw} → Near x → Near y → Near (then x y)
first right q = q
first (wrong j h) q = wrong j h

below-near : (n : ℕ) (ws : List ℕ) (i : ℕ) → i ≤ 10 → Near (below n ws i)
below-near n ws i h = either (ltb (word ws i) n) right (wrong i h)

unused-near : (ws : List ℕ) (i : ℕ) → i ≤ 10 → Near (unused ws i)
unused-near ws i h = either (eqb (word ws i) 0) right (wrong i h)

value-near : (ws : List ℕ) (i : ℕ) → i < 10 → Near (value ws i)
unfolding value
value-near ws i h =
    either (eqb (word ws i) 0) (below-near 14 ws (i + 1) (omega arith)) (either (eqb (word ws i) 1) right (wrong i (omega arith)))

optional-value-near : (ws : List ℕ) → Near (optional_value ws 0)
unfolding optional_value
optional-value-near ws = either (eqb (word ws 0) 2) (unused-near ws 1 (omega arith)) (value-near ws 0 (omega arith))

name-near : (pool ws : List ℕ) (i : ℕ) → i ≤ 10 → Near (named pool ws i)
unfolding named
name-near pool ws i h =
    either (leb (word ws i + word ws (i + 1)) (length pool))
    (either (text (chars pool (word ws i) (word ws (i + 1)))) right (wrong i h)) (wrong i h)

optional-name-near : (pool ws : List ℕ) (i : ℕ) → i < 9 → Near (optional_name pool ws i)
unfolding optional_name
optional-name-near pool ws i h =
    either (eqb (word ws i) 0) (first (unused-near ws (i + 1) (omega arith)) (unused-near ws (i + 2) (omega arith)))
    (either (eqb (word ws i) 1) (name-near pool ws (i + 1) (omega arith)) (wrong i (omega arith)))

optional-index-near : (ws : List ℕ) → Near (optional_index ws)
unfolding optional_index
optional-index-near ws =
    either (eqb (word ws 0) 0) (unused-near ws 1 (omega arith)) (either (eqb (word ws 0) 1) right (wrong 0 (omega arith)))

choice-near : (ws : List ℕ) → Near (choice ws)
unfolding choice
choice-near ws =
    either (ltb (word ws 0) 10) (either (indexed (word ws 0)) right (unused-near ws 1 (omega arith))) (wrong 0 (omega arith))

reference-near : (ws : List ℕ) → Near (reference ws)
unfolding reference
reference-near ws =
    either (eqb (word ws 0) 2) (value-near ws 1 (omega arith))
    (either (eqb (word ws 0) 3)
    (either (eqb (word ws 1) 0) right (either (eqb (word ws 1) 1) (unused-near ws 2 (omega arith)) (wrong 1 (omega arith))))
    (either (ltb (word ws 0) 6) (unused-near ws 2 (omega arith)) (wrong 0 (omega arith))))

flaw-near : (pool : List ℕ) (f : Field) (ws : List ℕ) → Near (flaw pool f ws)
unfolding flaw
flaw-near pool field.Nothing ws = right
flaw-near pool (field.Fixed b) ws = right
flaw-near pool field.Primitive ws = below-near 14 ws 0 (omega arith)
flaw-near pool field.Value ws = value-near ws 0 (omega arith)
flaw-near pool field.Optional ws = optional-value-near ws
flaw-near pool field.OptionalThenZero ws = optional-value-near ws
flaw-near pool field.Result ws = optional-value-near ws
flaw-near pool field.Name ws = name-near pool ws 0 (omega arith)
flaw-near pool field.Index ws = right
flaw-near pool field.Async ws = below-near 2 ws 0 (omega arith)
flaw-near pool field.Flag ws = below-near 2 ws 0 (omega arith)
flaw-near pool field.Rep ws = below-near 2 ws 0 (omega arith)
flaw-near pool field.OptionalIndex ws = optional-index-near ws
flaw-near pool field.Choice ws = choice-near ws
flaw-near pool field.ExternName ws =
    first (name-near pool ws 0 (omega arith))
    (first (optional-name-near pool ws 2 (omega arith))
    (first (optional-name-near pool ws 5 (omega arith)) (optional-name-near pool ws 8 (omega arith))))
flaw-near pool field.Reference ws = reference-near ws
flaw-near pool field.Argument ws = right
flaw-near pool field.CoreSortIndex ws = below-near 5 ws 0 (omega arith)
flaw-near pool field.SortIndex ws = below-near 6 ws 0 (omega arith)

pub flaw_place : (pool : List ℕ) (f : Field) (ws : List ℕ) → Placed (flaw pool f ws)
flaw_place pool f ws = placed (flaw-near pool f ws)

-- a test that is right took its first way, and is right there; so are both parts of a sequence
if_right : (b : Bool) (x : Flaw) (w : Refusal) (j : ℕ) → cond b x (Wrong w j) ≡ Right → (b ≡ true) × (x ≡ Right)
if_right true x w j e = (refl, e)
if_right false x w j e = impossible cc

then-right : (x y : Flaw) → then x y ≡ Right → (x ≡ Right) × (y ≡ Right)
then-right Right y e = (refl, e)
then-right (Err fault) y e = impossible cc

-- a name that is right lies in the pool, and is text
name_right : (pool ws : List ℕ) (i : ℕ) → named pool ws i ≡ Right
    → (leb (word ws i + word ws (i + 1)) (length pool) ≡ true) × (text (chars pool (word ws i) (word ws (i + 1))) ≡ true)
unfolding named
name_right pool ws i e =
    let p = if_right (leb (word ws i + word ws (i + 1)) (length pool)) _ Range i e in (p.0, (if_right _ Right (Text _) i p.1).0)

pub name-inside : (pool ws : List ℕ) (i : ℕ) → named pool ws i ≡ Right → word ws i + word ws (i + 1) ≤ length pool
name-inside pool ws i e = leb-true _ _ (name_right pool ws i e).0

pub name_text : (pool ws : List ℕ) (i : ℕ) → named pool ws i ≡ Right → text (chars pool (word ws i) (word ws (i + 1))) ≡ true
name_text pool ws i e = (name_right pool ws i e).1

-- so does the name of an option that is there
slot_inside_lem : (pool ws : List ℕ) (i : ℕ) → optional_name pool ws i ≡ Right → SlotInside pool ws i
unfolding optional_name
slot_inside_lem pool ws i e n =
    let s : i + 2 ≡ i + 1 + 1 = omega arith in
    rw s (name-inside pool ws (i + 1) (if_right (eqb (word ws i) 1) _ Tag i (simp (ne_eqb _ _ n) at e)).1)

-- the parts of an extern name that is right
pub record ExternRight (pool ws : List ℕ) : Type 0 where
  pub itself : named pool ws 0 ≡ Right
  pub implements : optional_name pool ws 2 ≡ Right
  pub suffix : optional_name pool ws 5 ≡ Right
  pub id : optional_name pool ws 8 ≡ Right

pub extern_right : (pool ws : List ℕ) → flaw pool field.ExternName ws ≡ Right → ExternRight pool ws
unfolding flaw
extern_right pool ws e =
    let a = then-right (named pool ws 0) _ e in
    let b = then-right (optional_name pool ws 2) _ a.1 in
    let c = then-right (optional_name pool ws 5) _ b.1 in
    record { itself = a.0; implements = b.0; suffix = c.0; id = c.1 }

pub extern_inside_lem : (pool ws : List ℕ) → flaw pool field.ExternName ws ≡ Right → ExternInside pool ws
extern_inside_lem pool ws e =
    let r = extern_right pool ws e in
    record {
      itself = name-inside pool ws 0 r.itself;
      implements = slot_inside_lem pool ws 2 r.implements;
      suffix = slot_inside_lem pool ws 5 r.suffix;
      id = slot_inside_lem pool ws 8 r.id;
    }

pub choice-below : (ws : List ℕ) → choice ws ≡ Right → word ws 0 < 10
unfolding choice
choice-below ws e = ltb-true _ _ (if_right (ltb (word ws 0) 10) _ Tag 0 e).0

pub reference-below : (ws : List ℕ) → reference ws ≡ Right → word ws 0 < 6
unfolding reference
reference-below ws e = go (eqb (word ws 0) 2) (eqb (word ws 0) 3) (ltb (word ws 0) 6) refl refl refl _ _ _ e
  where
    go : (a b c : Bool) → eqb (word ws 0) 2 ≡ a → eqb (word ws 0) 3 ≡ b → ltb (word ws 0) 6 ≡ c
        → (x y z : Flaw) → cond a x (cond b y (cond c z (Wrong Tag 0))) ≡ Right → word ws 0 < 6
    go true b c p q r x y z e = omega (arith, eqb-true (word ws 0) 2 p)
    go false true c p q r x y z e = omega (arith, eqb-true (word ws 0) 3 q)
    go false false c p q r x y z e = ltb-true _ _ (r ∙ (if_right c z Tag 0 e).0)

-- ---- an extern name without options

slot_absent : (pool ws : List ℕ) (i : ℕ) → word ws i ≡ 0 → word ws (i + 1) ≡ 0 → word ws (i + 2) ≡ 0 → optional_name pool ws i ≡ Right
unfolding optional_name
slot_absent pool ws i a b c = simp (eq-eqb _ _ a, eq-eqb _ _ b, eq-eqb _ _ c)

-- the words of the options add up to 0: the name decides
pub plain-flaw : (pool ws : List ℕ) → option_words ws ≡ 0 → flaw pool field.ExternName ws ≡ named pool ws 0
unfolding flaw
plain-flaw pool ws e =
    let x2 : word ws 2 ≡ 0 = omega arith in
    let x3 : word ws 3 ≡ 0 = omega arith in
    let x4 : word ws 4 ≡ 0 = omega arith in
    let x5 : word ws 5 ≡ 0 = omega arith in
    let x6 : word ws 6 ≡ 0 = omega arith in
    let x7 : word ws 7 ≡ 0 = omega arith in
    let x8 : word ws 8 ≡ 0 = omega arith in
    let x9 : word ws 9 ≡ 0 = omega arith in
    let x10 : word ws 10 ≡ 0 = omega arith in
    rw (slot_absent pool ws 2 x2 x3 x4, slot_absent pool ws 5 x5 x6 x7, slot_absent pool ws 8 x8 x9 x10) (same (named pool ws 0))
  where
    same : (x : Flaw) → then x Right ≡ x
    same Right = refl
    same (Err fault) = refl
