-- The size of a field that is right is the length of its bytes, and small. A name that is right lies in the pool, so its length
-- word is the number of its bytes and at most the pool's length; a number has at most five bytes.
use Prim.Native.Nat.{ℕ, suc, ◌+◌, ◌*◌, ◌≤◌}
use native.Mathlib.Omega.{arith}
use mathlib.Core.Path.{◌≡◌, refl}
use mathlib.Core.Bool.{Bool, true, false, cond}
use mathlib.Core.List.{List, [], ◌∷◌}
use lib.Dec.{eqb}
use lib.ListN.{length, drop, length-append, length-drop}
use lib.Seq.{length-take-le}
use borrow.Author.Tests.{eqb-false}
use Rattle.numbers.specs.Leb.{unsigned}
use Rattle.numbers.proofs.LebLaws.{size_bounds, few_bytes}
use Rattle.fields.specs.declared.Field.{Field}
use Rattle.fields.specs.declared.Field.TheVariants as field
use Rattle.fields.specs.Flaw.{Right}
use Rattle.fields.specs.Words.{word, indexed, wide}
use Rattle.writing.specs.Binary.{name, valtype, optional, resultlist, destructor, canonopt, slot_at, slots_at, slots, externname, typebound, externdesc, bytes, argument, coresortidx, sortidx}
use Rattle.writing.specs.Judge.{named, flaw}
use Rattle.writing.specs.inside.Size.{value_size, optional_size, name_size, slot_size, extern_size, reference_size, size}
use Rattle.writing.specs.inside.Extern.{SlotInside, ExternInside}
use Rattle.writing.proofs.FlawLaws.{name-inside, extern_inside_lem}

-- ---- a choice of two: what is made of it, and its bound

cond_of : (F : List ℕ → ℕ) (t : Bool) (a b : List ℕ) (m n : ℕ) → F a ≡ m → F b ≡ n → F (cond t a b) ≡ cond t m n
cond_of F true a b m n h g = h
cond_of F false a b m n h g = g

cond_small : (t : Bool) (a b most : ℕ) → a ≤ most → b ≤ most → cond t a b ≤ most
cond_small true a b most h g = h
cond_small false a b most h g = g

-- ---- the length of the bytes

-- the bytes of a name that lies in the pool
pub inside-length : (pool : List ℕ) (start n : ℕ) → start + n ≤ length pool → length (name pool start n) ≡ length (unsigned n) + n
unfolding name
inside-length pool start n h = rw (length-append, length-take-le n (drop start pool) (rw length-drop (omega arith)))

name-length : (pool ws : List ℕ) → named pool ws 0 ≡ Right → length (name pool (word ws 0) (word ws 1)) ≡ name_size ws 0
name-length pool ws e = inside-length pool (word ws 0) (word ws 1) (name-inside pool ws 0 e)

slot-length : (pool ws : List ℕ) (k i : ℕ) → SlotInside pool ws i → length (slot_at pool ws k i) ≡ slot_size ws i
unfolding slot_at
slot-length pool ws k i e = go (eqb (word ws i) 0) refl
  where
    go : (t : Bool) → eqb (word ws i) 0 ≡ t
        → length (cond t [] (k ∷ name pool (word ws (i + 1)) (word ws (i + 2)))) ≡ cond t 0 (1 + name_size ws (i + 1))
    go true q = refl
    go false q =
        let later : i + 1 + 1 ≡ i + 2 = omega arith in
        rw later (omega (arith, inside-length pool (word ws (i + 1)) (word ws (i + 2)) (e (eqb-false _ _ q))))

pub extern_length : (pool ws : List ℕ) → ExternInside pool ws → length (externname pool ws) ≡ extern_size ws
unfolding externname slots_at
extern_length pool ws r =
    let itself = inside-length pool (word ws 0) (word ws 1) r.itself in
    let implements = slot-length pool ws 0 2 r.implements in
    let suffix = slot-length pool ws 1 5 r.suffix in
    let id = slot-length pool ws 2 8 r.id in
    cond_of length (eqb (slots ws) 0) _ _ _ _ (omega arith) (simp length-append (omega arith))

value_length : (ws : List ℕ) (i : ℕ) → length (valtype (word ws i) (word ws (i + 1))) ≡ value_size ws i
unfolding valtype
value_length ws i = cond_of length (eqb (word ws i) 0) _ _ _ _ refl refl

optional-length : (ws : List ℕ) → length (optional (word ws 0) (word ws 1)) ≡ optional_size 1 ws 0
unfolding optional
optional-length ws = cond_of length (eqb (word ws 0) 2) _ _ _ _ refl (omega (arith, value_length ws 0))

reference-length : (ws : List ℕ) → length (externdesc (word ws 0) (word ws 1) (word ws 2)) ≡ reference_size ws
unfolding externdesc typebound
reference-length ws =
    cond_of length (eqb (word ws 0) 0) _ _ _ _ (omega arith)
    (cond_of length (eqb (word ws 0) 2) _ _ _ _ (omega (arith, value_length ws 1))
    (cond_of length (eqb (word ws 0) 3) _ _ _ _ (cond_of (λ l. suc (length l)) (eqb (word ws 1) 0) _ _ _ _ (omega arith) refl) (omega arith)))

pub size-right : (pool : List ℕ) (f : Field) (ws : List ℕ) → flaw pool f ws ≡ Right → length (bytes pool f ws) ≡ size f ws
unfolding bytes size flaw resultlist destructor canonopt argument coresortidx sortidx
size-right pool field.Nothing ws e = refl
size-right pool (field.Fixed b) ws e = refl
size-right pool field.Primitive ws e = refl
size-right pool field.Value ws e = value_length ws 0
size-right pool field.Optional ws e = optional-length ws
size-right pool field.OptionalThenZero ws e = simp length-append (omega (arith, optional-length ws))
size-right pool field.Result ws e = cond_of length (eqb (word ws 0) 2) _ _ _ _ refl (omega (arith, value_length ws 0))
size-right pool field.Name ws e = name-length pool ws e
size-right pool field.Index ws e = refl
size-right pool field.Async ws e = refl
size-right pool field.Flag ws e = refl
size-right pool field.Rep ws e = refl
size-right pool field.OptionalIndex ws e = cond_of length (eqb (word ws 0) 0) _ _ _ _ refl (omega arith)
size-right pool field.Choice ws e = cond_of (λ l. suc (length l)) (indexed (word ws 0)) _ _ _ _ (omega arith) refl
size-right pool field.ExternName ws e = extern_length pool ws (extern_inside_lem pool ws e)
size-right pool field.Reference ws e = reference-length ws
size-right pool field.Argument ws e = omega arith
size-right pool field.CoreSortIndex ws e = omega arith
size-right pool field.SortIndex ws e = cond_of length (eqb (word ws 0) 0) _ _ _ _ (omega arith) (omega arith)

-- ---- the bound

value-small : (ws : List ℕ) (i : ℕ) → value_size ws i ≤ 5
value-small ws i = cond_small (eqb (word ws i) 0) _ _ _ (omega arith) (size_bounds 64 (word ws (i + 1))).1

optional-small : (absent : ℕ) (ws : List ℕ) → absent ≤ 6 → optional_size absent ws 0 ≤ 6
optional-small absent ws h = cond_small (eqb (word ws 0) 2) _ _ _ h (omega (arith, value-small ws 0))

reference-small : (ws : List ℕ) → reference_size ws ≤ 7
reference-small ws =
    let one = size_bounds 128 (word ws 1) in
    let two = size_bounds 128 (word ws 2) in
    cond_small (eqb (word ws 0) 0) _ _ _ (omega arith)
    (cond_small (eqb (word ws 0) 2) _ _ _ (omega (arith, value-small ws 1))
    (cond_small (eqb (word ws 0) 3) _ _ _ (cond_small (eqb (word ws 1) 0) _ _ _ (omega arith) (omega arith)) (omega arith)))

-- the most bytes that a field has beside a pool of document 01's size, in which a name has three bytes of length at most
abbrev pub most : Field → ℕ
most field.Nothing = 0
most (field.Fixed b) = 1
most field.Primitive = 1
most field.Value = 5
most field.Optional = 6
most field.OptionalThenZero = 7
most field.Result = 6
most field.Name = 65539
most field.Index = 5
most field.Async = 1
most field.Flag = 1
most field.Rep = 1
most field.OptionalIndex = 6
most field.Choice = 6
most field.ExternName = 262161
most field.Reference = 7
most field.Argument = 6
most field.CoreSortIndex = 6
most field.SortIndex = 7

module _ (pool ws : List ℕ) (few : length pool ≤ 65536) where
  name_small : (i : ℕ) → word ws i + word ws (i + 1) ≤ length pool → name_size ws i ≤ 65539
  name_small i h = omega (arith, few_bytes 128 2 (word ws (i + 1)) (omega arith))

  slot_small : (i : ℕ) → SlotInside pool ws i → slot_size ws i ≤ 65540
  slot_small i e = go (eqb (word ws i) 0) refl
    where
      go : (t : Bool) → eqb (word ws i) 0 ≡ t → cond t 0 (1 + name_size ws (i + 1)) ≤ 65540
      go true q = omega arith
      go false q =
          let later : i + 1 + 1 ≡ i + 2 = omega arith in
          omega (arith, name_small (i + 1) (rw later (e (eqb-false _ _ q))))

  extern_small : ExternInside pool ws → extern_size ws ≤ 262161
  extern_small r =
      let itself = name_small 0 r.itself in
      let implements = slot_small 2 r.implements in
      let suffix = slot_small 5 r.suffix in
      let id = slot_small 8 r.id in
      cond_small (eqb (slots ws) 0) _ _ _ (omega arith) (omega arith)

  size_most : (f : Field) → flaw pool f ws ≡ Right → size f ws ≤ most f
  unfolding size flaw
  size_most field.Nothing e = omega arith
  size_most (field.Fixed b) e = omega arith
  size_most field.Primitive e = omega arith
  size_most field.Value e = value-small ws 0
  size_most field.Optional e = optional-small 1 ws (omega arith)
  size_most field.OptionalThenZero e = omega (arith, optional-small 1 ws (omega arith))
  size_most field.Result e = optional-small 2 ws (omega arith)
  size_most field.Name e = name_small 0 (name-inside pool ws 0 e)
  size_most field.Index e = (size_bounds 128 (word ws 0)).1
  size_most field.Async e = omega arith
  size_most field.Flag e = omega arith
  size_most field.Rep e = omega arith
  size_most field.OptionalIndex e = cond_small (eqb (word ws 0) 0) _ _ _ (omega arith) (omega (arith, size_bounds 128 (word ws 1)))
  size_most field.Choice e = cond_small (indexed (word ws 0)) _ _ _ (omega (arith, size_bounds 128 (word ws 1))) (omega arith)
  size_most field.ExternName e = extern_small (extern_inside_lem pool ws e)
  size_most field.Reference e = reference-small ws
  size_most field.Argument e = omega (arith, size_bounds 128 (word ws 0))
  size_most field.CoreSortIndex e = omega (arith, size_bounds 128 (word ws 1))
  size_most field.SortIndex e =
      let one = size_bounds 128 (word ws 1) in
      cond_small (eqb (word ws 0) 0) _ _ _ (omega arith) (omega arith)

pub field_most : (pool : List ℕ) (f : Field) (ws : List ℕ) → length pool ≤ 65536 → flaw pool f ws ≡ Right → length (bytes pool f ws) ≤ most f
field_most pool f ws h e = rw (size-right pool f ws e) (size_most pool ws h f e)

-- by the words of the field: a name has two
most-wide : (f : Field) → most f ≤ 1 + 32770 * wide f
unfolding wide
most-wide field.Nothing = omega arith
most-wide (field.Fixed b) = omega arith
most-wide field.Primitive = omega arith
most-wide field.Value = omega arith
most-wide field.Optional = omega arith
most-wide field.OptionalThenZero = omega arith
most-wide field.Result = omega arith
most-wide field.Name = omega arith
most-wide field.Index = omega arith
most-wide field.Async = omega arith
most-wide field.Flag = omega arith
most-wide field.Rep = omega arith
most-wide field.OptionalIndex = omega arith
most-wide field.Choice = omega arith
most-wide field.ExternName = omega arith
most-wide field.Reference = omega arith
most-wide field.Argument = omega arith
most-wide field.CoreSortIndex = omega arith
most-wide field.SortIndex = omega arith

pub field_bound : (pool : List ℕ) (f : Field) (ws : List ℕ) → length pool ≤ 65536 → flaw pool f ws ≡ Right
    → length (bytes pool f ws) ≤ 1 + 32770 * wide f
field_bound pool f ws h e = omega (arith, field_most pool f ws h e, most-wide f)
