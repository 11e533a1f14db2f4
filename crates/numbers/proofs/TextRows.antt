-- Laws of the table, of `rest` and of `goes`: a first byte's row, a byte where some are to follow, and a sequence within a name.
use Rattle.std.specs.Prelude.{Ok, Err}
use Rattle.std.proofs.Common.{◌≡◌, ℕ, zero, suc, ◌+◌, ◌<◌, ◌≤◌, Bool, true, false, ◌&&◌, T, ltb, leb, List, [], ◌∷◌, length, get_or, drop, sym, refl, ◌∙◌, subst, add-one, arith, ltb→lt, leb→le, drop_of_length-le, drop-cons, ltb-false, ltb-true, lt-ltb, le-leb}
use borrow.Author.Tests.{lt-leb}
use Rattle.numbers.specs.Text.{Range, ◌to◌, Row, row, table, among, first_in, Next, Bad, step, rest, goes}
use Rattle.numbers.specs.inside.Sequences.{follows, Ends}
use Rattle.numbers.specs.inside.Sequence.{Sequence, Breaks}
use Rattle.numbers.proofs.Impossible.{impossible}

-- ---- a byte in low..high

pub and_left : (a b : Bool) → T (a && b) → T a
and_left true b t = tt
and_left false b t = t

pub and_right : (a b : Bool) → T (a && b) → T b
and_right true b t = t
and_right false b t = absurd t

and_false : (a : Bool) → (a && false) ≡ false
and_false true = refl
and_false false = refl

pub among_in : (r : Range) (b : ℕ) → r.low ≤ b → b ≤ r.high → among r b ≡ true
among_in r b p q = simp (le-leb r.low b p, le-leb b r.high q)

pub among_above : (r : Range) (b : ℕ) → r.high < b → among r b ≡ false
among_above r b q = rw (lt-leb b r.high q) (and_false (leb r.low b))

pub among_below : (r : Range) (b : ℕ) → b < r.low → among r b ≡ false
among_below r b p = simp (lt-leb r.low b p)

pub among-low : (r : Range) (b : ℕ) → among r b ≡ true → r.low ≤ b
among-low r b e = leb→le r.low b (and_left (leb r.low b) (leb b r.high) (subst T (sym e) tt))

pub among_high : (r : Range) (b : ℕ) → among r b ≡ true → b ≤ r.high
among_high r b e = leb→le b r.high (and_right (leb r.low b) (leb b r.high) (subst T (sym e) tt))

-- ---- a first byte's row

-- the first k rows end below m, and each row starts at m or above
abbrev pub ends : ℕ → List Row → ℕ → Bool
ends zero rs m = true
ends (suc k) [] m = true
ends (suc k) (r ∷ rs) m = ltb r.first.high m && ends k rs m

abbrev pub starts : List Row → ℕ → Bool
starts [] m = true
starts (r ∷ rs) m = leb m r.first.low && starts rs m

pass : (k : ℕ) (rs : List Row) (m b : ℕ) → T (ends k rs m) → m ≤ b → first_in rs b ≡ first_in (drop k rs) b
pass zero rs m b t h = refl
pass (suc k) [] m b t h = refl
pass (suc k) (r ∷ rs) m b t h =
    let q : r.first.high < m = ltb→lt r.first.high m (and_left (ltb r.first.high m) (ends k rs m) t) in
    rw (among_above r.first b (omega arith)) (pass k rs m b (and_right (ltb r.first.high m) (ends k rs m) t) h)

none : (rs : List Row) (m b : ℕ) → T (starts rs m) → b < m → first_in rs b ≡ Bad
none [] m b t h = refl
none (r ∷ rs) m b t h =
    let q : m ≤ r.first.low = leb→le m r.first.low (and_left (leb m r.first.low) (starts rs m) t) in
    rw (among_below r.first b (omega arith)) (none rs m b (and_right (leb m r.first.low) (starts rs m) t) h)

hit : (r : Row) (rs : List Row) (b : ℕ) → r.first.low ≤ b → b ≤ r.first.high → first_in (r ∷ rs) b ≡ Next r.later
hit r rs b p q = rw (among_in r.first b p q)

abbrev pub nth : ℕ → Row
nth k = get_or table k (row (0 to 0) [])

-- the table's row k is the byte's
pub found : (k : ℕ) (b : ℕ) → T (ltb k (length table)) → T (ends k table (nth k).first.low) → (nth k).first.low ≤ b → b ≤ (nth k).first.high
    → first_in table b ≡ Next (nth k).later
found k b l t p q =
    pass k table (nth k).first.low b t p
    ∙ rw (drop-cons table k (row (0 to 0) []) (ltb→lt k (length table) l)) (hit (nth k) (drop (suc k) table) b p q)

-- the byte stands between the first k rows of the table and the others
pub missed : (k m n : ℕ) (b : ℕ) → T (ends k table m) → T (starts (drop k table) n) → m ≤ b → b < n → first_in table b ≡ Bad
missed k m n b t u p q = pass k table m b t p ∙ none (drop k table) n b u q

-- ---- a byte where some are to follow

follow_here : (low high : ℕ) (s : List ℕ) (j : ℕ) → follows s j low high ≡ true → (j < length s) × (among (low to high) (get_or s j 0) ≡ true)
follow_here low high s j e = go (ltb j (length s)) refl e
  where
    go : (t : Bool) → ltb j (length s) ≡ t → (t && among (low to high) (get_or s j 0)) ≡ true
        → (j < length s) × (among (low to high) (get_or s j 0) ≡ true)
    go true l f = (ltb-true j (length s) l, f)
    go false l f = impossible cc

follow_rest : (low high : ℕ) (rs : List Range) (s : List ℕ) (j : ℕ) → follows s j low high ≡ true
    → rest (low to high ∷ rs) (drop j s) ≡ rest rs (drop (j + 1) s)
unfolding rest step
follow_rest low high rs s j e = let here = follow_here low high s j e in rw (drop-cons s j 0 here.0, here.1, add-one)

follow_goes : (low high : ℕ) (rs : List Range) (s : List ℕ) (j : ℕ) → follows s j low high ≡ true
    → goes (low to high ∷ rs) (drop j s) ≡ suc (goes rs (drop (j + 1) s))
unfolding goes step
follow_goes low high rs s j e = let here = follow_here low high s j e in rw (drop-cons s j 0 here.0, here.1, add-one)

break_rest : (low high : ℕ) (rs : List Range) (s : List ℕ) (j : ℕ) → follows s j low high ≡ false
    → rest (low to high ∷ rs) (drop j s) ≡ false
unfolding rest step
break_rest low high rs s j e = go (ltb j (length s)) refl e
  where
    go : (t : Bool) → ltb j (length s) ≡ t → (t && among (low to high) (get_or s j 0)) ≡ false → rest (low to high ∷ rs) (drop j s) ≡ false
    go true l f = rw (drop-cons s j 0 (ltb-true j (length s) l), f)
    go false l f = rw (drop_of_length-le s (ltb-false j (length s) l))

break_goes : (low high : ℕ) (rs : List Range) (s : List ℕ) (j : ℕ) → follows s j low high ≡ false
    → goes (low to high ∷ rs) (drop j s) ≡ 0
unfolding goes step
break_goes low high rs s j e = go (ltb j (length s)) refl e
  where
    go : (t : Bool) → ltb j (length s) ≡ t → (t && among (low to high) (get_or s j 0)) ≡ false → goes (low to high ∷ rs) (drop j s) ≡ 0
    go true l f = rw (drop-cons s j 0 (ltb-true j (length s) l), f)
    go false l f = rw (drop_of_length-le s (ltb-false j (length s) l))

-- ---- a sequence that begins at i

-- a step from j to k, of one byte
onwards : (ps rs : List Range) (s : List ℕ) (j k i : ℕ) (r : Sequence) → k ≡ j + 1 → rest ps (drop j s) ≡ rest rs (drop k s)
    → goes ps (drop j s) ≡ suc (goes rs (drop k s)) → Ends rs s k i r → Ends ps s j i r
onwards ps rs s j k i (Ok n) h p q w = (w.0, (p ∙ w.1.0, omega (arith, w.1.1)))
onwards ps rs s j k i (Err broken) h p q w = (p ∙ w.0, omega (arith, w.1))

-- its byte at j follows, or breaks it, or its last byte is before j
pub took : (low high : ℕ) (rs : List Range) (s : List ℕ) (j k i : ℕ) (r : Sequence) → follows s j low high ≡ true → k ≡ j + 1
    → Ends rs s k i r → Ends (low to high ∷ rs) s j i r
took low high rs s j k i r e h w =
    onwards (low to high ∷ rs) rs s j k i r h (rw h (follow_rest low high rs s j e)) (rw h (follow_goes low high rs s j e)) w

pub broke : (low high : ℕ) (rs : List Range) (s : List ℕ) (j i n : ℕ) → follows s j low high ≡ false → i + n ≡ j
    → Ends (low to high ∷ rs) s j i (Breaks n)
broke low high rs s j i n e h = (break_rest low high rs s j e, omega (arith, break_goes low high rs s j e))

pub whole : (s : List ℕ) (j i n : ℕ) → i + n ≡ j → j ≤ length s → 1 ≤ n → Ends [] s j i (Ok n)
whole s j i n h w l = ((l, omega arith), (rw h refl, rw h refl))

pub follow_within : (low high : ℕ) (s : List ℕ) (j : ℕ) → follows s j low high ≡ true → j < length s
follow_within low high s j e = (follow_here low high s j e).0

-- its first byte, by the table
pub began : (rs : List Range) (s : List ℕ) (i : ℕ) (r : Sequence) → i < length s → first_in table (get_or s i 0) ≡ Next rs
    → Ends rs s (i + 1) i r → Ends [] s i i r
unfolding rest goes step
began rs s i r h e w =
    onwards [] rs s i (i + 1) i r refl (rw (drop-cons s i 0 h, e, add-one) refl) (rw (drop-cons s i 0 h, e, add-one) refl) w

pub unbegun : (s : List ℕ) (i : ℕ) → i < length s → first_in table (get_or s i 0) ≡ Bad → Ends [] s i i (Breaks 0)
unfolding rest goes step
unbegun s i h e = (rw (drop-cons s i 0 h, e) refl, rw (drop-cons s i 0 h, e) refl)

-- the name's end
pub ended : (s : List ℕ) (i : ℕ) → length s ≤ i → rest [] (drop i s) ≡ true
unfolding rest
ended s i h = rw (drop_of_length-le s h)

-- ---- a byte at k in low..high

pub follow_last : (low high : ℕ) (s : List ℕ) (k : ℕ) → k < length s → low ≤ get_or s k 0 → follows s k low high ≡ leb (get_or s k 0) high
follow_last low high s k h p = rw (lt-ltb k (length s) h, le-leb low (get_or s k 0) p)

pub follow_in : (low high : ℕ) (s : List ℕ) (k : ℕ) → k < length s → low ≤ get_or s k 0 → get_or s k 0 ≤ high → follows s k low high ≡ true
follow_in low high s k h p q = follow_last low high s k h p ∙ le-leb (get_or s k 0) high q
