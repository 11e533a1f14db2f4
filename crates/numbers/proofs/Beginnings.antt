-- Where a name stops is the longest of its beginnings with which some text begins, and no other number is.
use Rattle.std.proofs.Common.{◌≡◌, ℕ, zero, suc, ◌<◌, ◌≤◌, Bool, true, false, cond, ◌&&◌, T, leb, List, [], ◌∷◌, ◌++◌, length, take, sym, refl, ap, ◌∙◌, subst, ⊎_elim, arith, leb→le}
use Rattle.numbers.specs.Beginnings.{LongestBeginning}
use Rattle.numbers.specs.Bytes.{Bytes}
use Rattle.numbers.specs.Text.{Range, Row, table, among, first_in, Step, Next, Bad, step, onward, rest, text, goes, stop, spelling_of}
use Rattle.numbers.specs.Spelling.{Stops}
use Rattle.numbers.proofs.TextChunks.{side}
use Rattle.numbers.proofs.TextRows.{and_left, and_right}
use Rattle.numbers.proofs.TextLaws.{later-rest, stop-within, spelled_wrong, stops_stop}
use Rattle.numbers.proofs.Impossible.{impossible}

-- ---- what is begun can be ended

-- some byte is in the range, and so in each
abbrev is_open : Range → Bool
is_open r = leb r.low r.high && leb r.high 0xff

abbrev all_open : List Range → Bool
all_open [] = true
all_open (r ∷ rs) = is_open r && all_open rs

open-low : (r : Range) → T (is_open r) → r.low ≤ r.high
open-low r t = leb→le r.low r.high (and_left (leb r.low r.high) (leb r.high 0xff) t)

open_high : (r : Range) → T (is_open r) → r.high ≤ 0xff
open_high r t = leb→le r.high 0xff (and_right (leb r.low r.high) (leb r.high 0xff) t)

-- the least bytes that end it
abbrev fill : List Range → List ℕ
fill [] = []
fill (r ∷ rs) = r.low ∷ fill rs

fill-rest : (rs : List Range) → T (all_open rs) → rest rs (fill rs) ≡ true
unfolding rest
fill-rest [] t = refl
fill-rest (r ∷ rs) t =
    later-rest r rs r.low (fill rs) (omega arith) (open-low r (and_left (is_open r) (all_open rs) t))
    ∙ fill-rest rs (and_right (is_open r) (all_open rs) t)

fill-bytes : (rs : List Range) → T (all_open rs) → Bytes (fill rs)
fill-bytes [] t i = omega arith
fill-bytes (r ∷ rs) t zero =
    let o = and_left (is_open r) (all_open rs) t in
    omega (arith, open-low r o, open_high r o)
fill-bytes (r ∷ rs) t (suc i) = fill-bytes rs (and_right (is_open r) (all_open rs) t) i

-- after a step that is not bad bytes can come
abbrev Open : Step → Type 0
Open (Next rs) = T (all_open rs)
Open Bad = Unit {0}

abbrev rows_open : List Row → Bool
rows_open [] = true
rows_open (r ∷ rs) = all_open r.later && rows_open rs

first-open : (rs : List Row) → T (rows_open rs) → (b : ℕ) → Open (first_in rs b)
first-open [] t b = tt
first-open (r ∷ rs) t b = go (among r.first b) (first-open rs (and_right (all_open r.later) (rows_open rs) t) b)
  where
    go : (a : Bool) → Open (first_in rs b) → Open (cond a (Next r.later) (first_in rs b))
    go true later = and_left (all_open r.later) (rows_open rs) t
    go false later = later

step-open : (rs : List Range) (b : ℕ) → T (all_open rs) → Open (step rs b)
unfolding step
step-open [] b t = first-open table tt b
step-open (r ∷ rs) b t = go (among r b)
  where
    go : (a : Bool) → Open (cond a (Next rs) Bad)
    go true = and_right (is_open r) (all_open rs) t
    go false = tt

-- some bytes behind s end what is begun
abbrev Ends : List Range → List ℕ → Type 0
Ends rs s = (t : List ℕ) × (Bytes t × (rest rs (s ++ t) ≡ true))

filled : (rs : List Range) → T (all_open rs) → Ends rs []
filled rs t = (fill rs, (fill-bytes rs t, fill-rest rs t))

going : (rs : List Range) (s : List ℕ) → T (all_open rs) → Ends rs (take (goes rs s) s)
unfolding goes rest
going rs [] t = filled rs t
going rs (b ∷ s) t = go (step rs b) refl (step-open rs b t) (λ more u. going more s u)
  where
    go : (x : Step) → step rs b ≡ x → Open x → ((more : List Range) → T (all_open more) → Ends more (take (goes more s) s))
        → Ends rs (take (onward 0 x (λ more. suc (goes more s))) (b ∷ s))
    go (Next more) e o later = let r = later more o in (r.0, (r.1.0, rw e r.1.1))
    go Bad e o later = filled rs t

-- ---- behind a bad step nothing is text

stopping : (rs : List Range) (s : List ℕ) (m : ℕ) → goes rs s < m → m ≤ length s → (t : List ℕ) → rest rs (take m s ++ t) ≡ false
unfolding goes rest
stopping rs [] m p q t = absurd (omega arith)
stopping rs (b ∷ s) zero p q t = absurd (omega arith)
stopping rs (b ∷ s) (suc m) p q t = go (step rs b) refl p (λ more r. stopping more s m r (omega arith) t)
  where
    go : (x : Step) → step rs b ≡ x → onward 0 x (λ more. suc (goes more s)) < suc m
        → ((more : List Range) → goes more s < m → rest more (take m s ++ t) ≡ false) → rest rs (b ∷ (take m s ++ t)) ≡ false
    go (Next more) e r later = rw e (later more (omega arith))
    go Bad e r later = rw e

-- ---- where a name stops

stop_longest : (s : List ℕ) → LongestBeginning s (stop s)
unfolding stop text
stop_longest s = record {
  within = stop-within s;
  goes_on = going [] s tt;
  no_more = λ m p q t e. impossible (cc (stopping [] s m p q t));
}

pub longest : (s : List ℕ) (n : ℕ) → spelling_of s ≡ Stops n → LongestBeginning s n
longest s n e = subst (LongestBeginning s) (sym (stops_stop s n e)) (stop_longest s)

-- a name has one longest beginning
not_longer : (s : List ℕ) (n m : ℕ) → LongestBeginning s n → LongestBeginning s m → m ≤ n
not_longer s n m a b =
    ⊎_elim (λ l. absurd (a.no_more m l b.within b.goes_on.0 b.goes_on.1.1)) (λ l. l) (side n m)

pub one_longest : (s : List ℕ) (n m : ℕ) → LongestBeginning s n → LongestBeginning s m → n ≡ m
one_longest s n m a b = omega (arith, not_longer s n m a b, not_longer s m n b a)

-- so a name that is no text stops there and nowhere else
pub stops_there : (s : List ℕ) (n : ℕ) → text s ≡ false → LongestBeginning s n → spelling_of s ≡ Stops n
stops_there s n e a = spelled_wrong s e ∙ ap Stops (one_longest s (stop s) n (stop_longest s) a)
