-- Bytes with padded numbers are put together of such bytes; what is written for them is no longer.
use Prim.Native.Nat.{ℕ}
use mathlib.Core.Path.{◌≡◌, refl, sym, subst}
use mathlib.Core.List.{List, [], ◌∷◌, ◌++◌, append_assoc, append-nil}
use lib.ListN.{take}
use Rattle.numbers.specs.Again.{Again}
use Rattle.numbers.specs.Bytes.{Bytes}
use Rattle.numbers.specs.Integers.{Form}
use Rattle.numbers.specs.Leb.{bytes_of, take_in}
use Rattle.numbers.specs.Taken.{Value}
use Rattle.numbers.proofs.AgainLaws.{again-same, again_behind, again_both}
use Rattle.numbers.proofs.ExactLaws.{taken-exactly}
use Rattle.numbers.proofs.IntegerLaws.{integer-again}
use Rattle.round_trip.specs.Padded.{Padded, end, byte, number}

-- the bytes themselves
padded_self : (s : List ℕ) → Padded s s
padded_self [] = end
padded_self (b ∷ s) = byte b (padded_self s)

pub padded-same : {a b : List ℕ} → b ≡ a → Padded a b
padded-same {a} {b} e = subst (λ l. Padded a l) (sym e) (padded_self a)

-- of others that are equal
pub padded_by : {a b c d : List ℕ} → d ≡ b → Padded a b → a ≡ c → Padded c d
padded_by {a} {b} {c} {d} e p f = subst (λ l. Padded l d) f (subst (λ l. Padded a l) (sym e) p)

-- two parts
pub padded_both : {a b c d : List ℕ} → Padded a b → Padded c d → Padded (a ++ c) (b ++ d)
padded_both end q = q
padded_both (byte x p) q = byte x (padded_both p q)
padded_both {c = c} {d} (number {last} {sign} {n} {integer} {taken} {written} f i p) q =
    padded_by (append_assoc (bytes_of last 5 n) written d) (number f i (padded_both p q)) (sym (append_assoc integer taken c))

-- behind the same bytes, and before them
pub padded-behind : (s : List ℕ) {a b : List ℕ} → Padded a b → Padded (s ++ a) (s ++ b)
padded-behind s p = padded_both (padded_self s) p

pub padded-before : (s : List ℕ) {a b : List ℕ} → Padded a b → Padded (a ++ s) (b ++ s)
padded-before s p = padded_both p (padded_self s)

-- a number that was taken
pub padded-number : {last sign : ℕ} → Form last sign → (s : List ℕ) (n t : ℕ) → Bytes s → take_in last s ≡ Value n t
    → Padded (take t s) (bytes_of last 5 n)
padded-number {last} f s n t b e =
    padded_by (sym (append-nil (bytes_of last 5 n))) (number f ((taken-exactly f).is_one s n t b e).1 end) (append-nil (take t s))

-- no more bytes are written, and where they are as many, the same
pub padded-again : {a b : List ℕ} → Padded a b → Again a b
padded-again end = again-same refl
padded-again (byte x p) = again_behind (x ∷ []) (padded-again p)
padded-again (number f i p) = again_both (integer-again i 5) (padded-again p)
