-- The laws of `specs/Bytes.antt`: runs of stores (`sets`), what storing comes to where the bytes fit and where they do not, and the
-- parts of the caller's bytes. Assumes nothing.
use Rattle.std.specs.Prelude.{Ok}
use Rattle.std.proofs.Common.{◌≡◌, ℕ, zero, suc, ◌+◌, ◌-◌, ◌<◌, ◌≤◌, Bool, true, false, cond, leb, ◌⊎◌, List, [], ◌∷◌, ◌++◌, length, get_or, take, drop, set, refl, ◌∙◌, inl, inr, append_assoc, le_of_eq, add-zero, add-suc, suc-add, arith, length-drop, length-take-le, take_all, get_or-set_other, drop_at, le-leb}
use borrow.Author.Tests.{lt-leb}
use lib.Seq.{sets, sets-eq, take-append_seam}
use Rattle.numbers.specs.Bytes.{Left, left, store, part_of}
use Rattle.numbers.specs.Numbers.{value_of}
use Rattle.numbers.specs.Stored.{Room}

-- ---- runs of stores

module _ {ℓ} {A : Type ℓ} where
  -- runs that follow one another are one run
  pub sets_append : (a b l : List A) (i : ℕ) → sets (sets l i a) (i + length a) b ≡ sets l i (a ++ b)
  sets_append [] b l i = rw add-zero
  sets_append (x ∷ a) b l i = rw (add-suc, ← suc-add) (sets_append a b (set l i x) (suc i))

  -- what was stored is read back
  pub sets_back : (bs l : List A) (at : ℕ) → at + length bs ≤ length l → take (length bs) (drop at (sets l at bs)) ≡ bs
  sets_back bs l at h =
      let e : length (take at l) ≡ at = length-take-le at l (omega arith) in
      rw (sets-eq, append_assoc, drop_at, take-append_seam)

-- no place before the run or past it changes
pub sets-outside : (bs l : List ℕ) (at i : ℕ) → (i < at) ⊎ (at + length bs ≤ i) → get_or (sets l at bs) i 0 ≡ get_or l i 0
sets-outside [] l at i o = refl
sets-outside (b ∷ bs) l at i (inl h) =
    sets-outside bs (set l at b) (suc at) i (inl (omega arith)) ∙ get_or-set_other l at i b 0 (λ e. omega arith)
sets-outside (b ∷ bs) l at i (inr h) =
    sets-outside bs (set l at b) (suc at) i (inr (omega arith)) ∙ get_or-set_other l at i b 0 (λ e. omega arith)

-- every element is below m
abbrev pub Below : ℕ → List ℕ → Type 0
Below m l = (i : ℕ) → get_or l i 0 < m

set_below : (m x : ℕ) (l : List ℕ) (at : ℕ) → x < m → Below m l → Below m (set l at x)
set_below m x [] at hx hl i = hl i
set_below m x (y ∷ l) zero hx hl zero = hx
set_below m x (y ∷ l) zero hx hl (suc i) = hl (suc i)
set_below m x (y ∷ l) (suc at) hx hl zero = hl zero
set_below m x (y ∷ l) (suc at) hx hl (suc i) = set_below m x l at hx (λ j. hl (suc j)) i

pub sets_below : (m : ℕ) (bs l : List ℕ) (at : ℕ) → Below m bs → Below m l → Below m (sets l at bs)
sets_below m [] l at hb hl = hl
sets_below m (b ∷ bs) l at hb hl =
    sets_below m bs (set l at b) (suc at) (λ i. hb (suc i)) (set_below m b l at (hb zero) hl)

-- ---- storing

pub store-fits :
    (bytes : List ℕ) (at : ℕ) (out : List ℕ) → at + length bytes ≤ length out
    → store bytes at out ≡ left (Ok (length bytes)) (sets out at bytes)
unfolding store
store-fits bytes at out h = simp (le-leb _ _ h)

pub store-room :
    (bytes : List ℕ) (at : ℕ) (out : List ℕ) → length out < at + length bytes
    → store bytes at out ≡ left (Room (length bytes)) out
unfolding store
store-room bytes at out h = simp (lt-leb _ _ h)

-- what holds where there is room and where there is none, holds
pub store-either :
    (P : Left → Type 0) (bytes : List ℕ) (at : ℕ) (out : List ℕ) → P (left (Ok (length bytes)) (sets out at bytes))
    → P (left (Room (length bytes)) out) → P (store bytes at out)
unfolding store
store-either P bytes at out h k = go (leb (at + length bytes) (length out))
  where
    go : (b : Bool) → P (cond b (left (Ok (length bytes)) (sets out at bytes)) (left (Room (length bytes)) out))
    go true = h
    go false = k

-- the value of an answer is its size, with room and without
pub size-value : (n : ℕ) → value_of (Ok n) ≡ n
unfolding value_of
size-value n = refl

pub room-value : (n : ℕ) → value_of (Room n) ≡ n
unfolding value_of
room-value n = refl

-- ---- parts

-- what the part `&s[k..]` of a slice is
pub to_end : {A : Type 0} (s : List A) (k : ℕ) → take (length s - k) (drop k s) ≡ drop k s
to_end s k = take_all (length s - k) (drop k s) (le_of_eq (length-drop k s))

pub part-inside :
    (input : List ℕ) (start size : ℕ) → start + size ≤ length input → part_of input start size ≡ take size (drop start input)
unfolding part_of
part-inside input start size h = simp (le-leb _ _ h)

pub part-past : (input : List ℕ) (start size : ℕ) → length input < start + size → part_of input start size ≡ []
unfolding part_of
part-past input start size h = simp (lt-leb _ _ h)
