-- What the leaves of straight code come to: the room tests, the size of a V and of a name, and a name stored as its two parts.
use Rattle.std.specs.Prelude.{Some, None}
use Rattle.std.specs.Prelude.{Ok}
use Prim.Native.Nat.{ℕ, ◌+◌, ◌-◌, ◌≤◌, ◌<◌}
use native.Mathlib.Omega.{arith}
use mathlib.Core.Path.{◌≡◌, refl, sym, ap, ◌∙◌}
use mathlib.Core.Bool.{Bool, true, false}
use mathlib.Core.List.{List, [], ◌∷◌, ◌++◌}
use borrow.Author.Tests.{lt-ltb, le-ltb, le-leb, lt-leb, leb-true, leb-false, ne_eqb}
use lib.Dec.{leb}
use lib.ListN.{length, drop, length-append, length-drop}
use lib.Seq.{sets, length-sets, length-take-le}
use Rattle.numbers.specs.Bytes.{Left, left, store, part_of}
use Rattle.numbers.specs.Leb.{unsigned, signed}
use Rattle.numbers.specs.Text.{text}
use Rattle.numbers.specs.Stored.{Stored}
use Rattle.numbers.specs.Stored.{Room}
use Rattle.numbers.proofs.BytesLaws.{sets_append, store-fits, store-room, part-inside}
use Rattle.fields.specs.declared.Field.TheVariants as field
use Rattle.fields.specs.Words.{chars}
use Rattle.writing.specs.Binary.{valtype, bytes}
use Rattle.writing.specs.Judge.{value, named, flaw}
use Rattle.writing.proofs.SizeLaws.{inside-length}
use Rattle.writing.specs.Sizes.{within, right_size}

-- ---- room

pub within-room : (size at room : ℕ) → 0 < size → at ≤ room → leb size (room - at) ≡ within size at room
unfolding within
within-room size at room h k = simp (lt-ltb 0 size h) (go (leb size (room - at)) refl)
  where
    go : (t : Bool) → leb size (room - at) ≡ t → t ≡ leb (at + size) room
    go true e = sym (le-leb (at + size) room (omega (arith, leb-true size (room - at) e)))
    go false e = sym (lt-leb (at + size) room (omega (arith, leb-false size (room - at) e)))

pub within-past : (size at room : ℕ) → 0 < size → room < at → within size at room ≡ false
unfolding within
within-past size at room h k = simp (lt-ltb 0 size h, lt-leb (at + size) room (omega arith))

pub within_none : (size at room : ℕ) → size ≤ 0 → within size at room ≡ false
unfolding within
within_none size at room h = simp (le-ltb 0 size h)

-- ---- sizes

module _ (pool : List ℕ) where
  -- of a V: an index, a primitive, another primitive, another tag
  pub index_size_lem : (x : ℕ) → right_size pool field.Value (1 ∷ x ∷ []) ≡ Some (length (signed x))
  unfolding right_size flaw value bytes valtype
  index_size_lem x = refl

  pub primitive_size_lem : (x : ℕ) → x < 14 → right_size pool field.Value (0 ∷ x ∷ []) ≡ Some 1
  unfolding right_size flaw value bytes valtype
  primitive_size_lem x h = simp (lt-ltb x 14 h)

  pub primitive_none : (x : ℕ) → 14 ≤ x → right_size pool field.Value (0 ∷ x ∷ []) ≡ None
  unfolding right_size flaw value bytes valtype
  primitive_none x h = simp (le-ltb x 14 h)

  pub value_none : (tag x : ℕ) → (tag ≡ 0 → ⊥) → (tag ≡ 1 → ⊥) → right_size pool field.Value (tag ∷ x ∷ []) ≡ None
  unfolding right_size flaw value bytes valtype
  value_none tag x h k = simp (ne_eqb tag 0 h, ne_eqb tag 1 k)

  -- of a name: one that is right, one that is not UTF-8, one that does not end within the pool
  module _ (start size : ℕ) where
    pub name_size_lem : start + size ≤ length pool → text (chars pool start size) ≡ true
        → right_size pool field.Name (start ∷ size ∷ []) ≡ Some (length (unsigned size) + size)
    unfolding right_size flaw named bytes
    name_size_lem h e = simp (le-leb (start + size) (length pool) h, e) (ap Some (inside-length pool start size h))

    pub name_not_text : start + size ≤ length pool → text (chars pool start size) ≡ false
        → right_size pool field.Name (start ∷ size ∷ []) ≡ None
    unfolding right_size flaw named bytes
    name_not_text h e = simp (le-leb (start + size) (length pool) h, e)

    pub name_past : length pool < start + size → right_size pool field.Name (start ∷ size ∷ []) ≡ None
    unfolding right_size flaw named bytes
    name_past h = simp (lt-leb (start + size) (length pool) h)

-- ---- storing

-- a part within the pool has the bytes that were asked for
pub part_length :
    (input : List ℕ) (start size : ℕ) → start + size ≤ length input → length (part_of input start size) ≡ size
part_length input start size h =
    rw (part-inside input start size h) (length-take-le size (drop start input) (rw length-drop (omega arith)))

-- bytes for which there is no room together
pub store-none :
    (a b : List ℕ) (at : ℕ) (l : List ℕ) {n : ℕ} → length b ≡ n → length l < at + (length a + n)
    → store (a ++ b) at l ≡ left (Room (length a + n)) l
store-none a b at l e h = rw (store-room (a ++ b) at l (omega (arith, length-append a b)), length-append, e) refl

-- bytes stored one after the other, for which there is room, are stored at once
pub stored-then :
    (a b : List ℕ) (at : ℕ) (l : List ℕ) {k : ℕ} {m n : List ℕ} {r q : Stored} → length b ≡ k → at + (length a + k) ≤ length l
    → left r m ≡ store a at l → left q n ≡ store b (at + length a) m → left (Ok (length a + k)) n ≡ store (a ++ b) at l
stored-then a b at l {m = m} {n = n} s h e d =
    let one : m ≡ sets l at a = ap (λ (x : Left). x.buffer) (e ∙ store-fits a at l (omega arith)) in
    let same : length m ≡ length l = ap length one ∙ length-sets l at a in
    let two : n ≡ sets m (at + length a) b = ap (λ (x : Left). x.buffer) (d ∙ store-fits b (at + length a) m (omega arith)) in
    rw (store-fits (a ++ b) at l (omega (arith, length-append a b)), length-append, s)
    (ap (left (Ok (length a + _))) (two ∙ rw one (sets_append a b l at)))
