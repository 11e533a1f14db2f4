-- Bytes copied in chunks, one after the other or overlapping: what stands in the buffer on the way (`Held`), and what each chunk
-- adds to it. The laws are over the chunk's length. Assumes nothing.
use Rattle.std.proofs.Common.{◌≡◌, ℕ, zero, suc, ◌+◌, ◌-◌, ◌<◌, ◌≤◌, List, [], ◌∷◌, length, get_or, take, drop, set, sym, refl, ap, ◌∙◌, add-zero, add-suc, suc-add, zero-add, arith, length-drop, length-take-le, take_all, drop-cons, take-take, set-set}
use lib.Seq.{sets, set_comm, take-nil, length-sets}
use Rattle.numbers.proofs.BytesLaws.{sets_back}

-- ---- runs that overlap

-- a store before a run may as well come first
set_first : (bs l : List ℕ) (i j x : ℕ) → i < j → set (sets l j bs) i x ≡ sets (set l i x) j bs
set_first [] l i j x h = refl
set_first (b ∷ bs) l i j x h =
    set_first bs (set l j b) i (suc j) x (omega arith)
    ∙ ap (λ (m : List ℕ). sets m (suc j) bs) (set_comm l j i b x (λ e. omega arith))

-- a run over its own beginning
over : (s l : List ℕ) (at k : ℕ) → sets (sets l at (take k s)) at s ≡ sets l at s
over s l at zero = refl
over [] l at (suc k) = refl
over (x ∷ s) l at (suc k) =
    ap (λ (m : List ℕ). sets m (suc at) s)
    (set_first (take k s) (set l at x) at (suc at) x (omega arith)
    ∙ ap (λ (m : List ℕ). sets m (suc at) (take k s)) (set-set l at x x))
    ∙ over s (set l at x) (suc at) k

-- over the first k bytes of s, its n bytes from j on, at their places, make the first j + n
overlap :
    (s l : List ℕ) (at k j n : ℕ) → j ≤ k → k ≤ j + n
    → sets (sets l at (take k s)) (at + j) (take n (drop j s)) ≡ sets l at (take (j + n) s)
overlap s l at k zero n h g = rw (add-zero, zero-add, ← take-take k n s (omega arith)) (over (take n s) l at k)
overlap s l at zero (suc j) n h g = absurd (omega arith)
overlap [] l at (suc k) (suc j) n h g = rw (suc-add, take-nil)
overlap (x ∷ s) l at (suc k) (suc j) n h g =
    rw (suc-add, add-suc, ← suc-add) (overlap s (set l at x) (suc at) k j n (omega arith) (omega arith))

-- ---- copying on

-- the buffer `new` is `old` with the first k bytes of s from `at` on
pub record Held (old : List ℕ) (at : ℕ) (s : List ℕ) (k : ℕ) (new : List ℕ) : Type 0 where
  pub content : new ≡ sets old at (take k s)
  pub same : length new ≡ length old

pub held : {old : List ℕ} {at : ℕ} {s : List ℕ} {k : ℕ} {new : List ℕ} → new ≡ sets old at (take k s) → Held old at s k new
held {old} {at} {s} {k} e = record { content = e; same = ap length e ∙ length-sets old at (take k s) }

-- a chunk of n bytes, from a place j that may lie among the bytes held
pub held-chunk :
    {old : List ℕ} {at : ℕ} {s : List ℕ} {k : ℕ} {mid new : List ℕ} (j n : ℕ) → Held old at s k mid → j ≤ k → k ≤ j + n
    → new ≡ sets mid (at + j) (take n (drop j s)) → Held old at s (j + n) new
held-chunk {old} {at} {s} {k} j n v h g e =
    held (e ∙ ap (λ (m : List ℕ). sets m (at + j) (take n (drop j s))) v.content ∙ overlap s old at k j n h g)

-- a chunk of one byte
pub held-byte :
    {old : List ℕ} {at : ℕ} {s : List ℕ} {k : ℕ} {mid : List ℕ} → Held old at s k mid → k < length s
    → Held old at s (k + 1) (set mid (at + k) (get_or s k 0))
held-byte {old} {at} {s} {k} {mid} v h =
    held-chunk k 1 v (omega arith) (omega arith)
    (ap (λ (t : List ℕ). sets mid (at + k) (take 1 t)) (sym (drop-cons s k 0 h)))

-- ---- copying whole

-- the last chunk of n bytes ends where s ends
pub held-last :
    {old : List ℕ} {at : ℕ} {s : List ℕ} {k : ℕ} {mid new : List ℕ} (n : ℕ) → Held old at s k mid → k ≤ length s → n ≤ length s
    → length s ≤ k + n → new ≡ sets mid (at + (length s - n)) (take n (drop (length s - n) s)) → new ≡ sets old at s
held-last {old} {at} {s} n v h g f e =
    let w = held-chunk (length s - n) n v (omega arith) (omega arith) e in
    w.content ∙ ap (sets old at) (take_all (length s - n + n) s (omega arith))

-- the first chunk of n bytes and the last, which overlap or meet
pub first-and-last :
    (s old : List ℕ) (at n : ℕ) {mid new : List ℕ} → n ≤ length s → length s ≤ n + n → mid ≡ sets old at (take n s)
    → new ≡ sets mid (at + (length s - n)) (take n (drop (length s - n) s)) → new ≡ sets old at s
first-and-last s old at n h g p q = held-last n (held {old = old} {at = at} {s = s} {k = n} p) h h g q

-- ---- one chunk

-- n bytes, stored at the start of an array and from there at their place
pub through-array :
    (s array old : List ℕ) (n from to : ℕ) {mid new : List ℕ} → from + n ≤ length s → n ≤ length array
    → mid ≡ sets array 0 (take n (drop from s)) → new ≡ sets old to (take n mid) → new ≡ sets old to (take n (drop from s))
through-array s array old n from to h e p q =
    let m : length (take n (drop from s)) ≡ n = length-take-le n (drop from s) (omega (arith, length-drop from s)) in
    q ∙ ap (λ (l : List ℕ). sets old to (take n l)) p
    ∙ ap (sets old to) (rw m at (sets_back (take n (drop from s)) array 0 (omega (arith, m))))
