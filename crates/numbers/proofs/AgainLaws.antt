-- Bytes written again are put together of bytes written again. Assumes nothing.
use Rattle.std.proofs.Common.{◌≡◌, ℕ, List, ◌++◌, length, ap, arith, length-append}
use Rattle.numbers.specs.Again.{Again}

-- the bytes themselves
pub again-same : {a b : List ℕ} → b ≡ a → Again a b
again-same {a} {b} e =
    let l = ap length e in
    record { no_more = omega arith; same = λ h. e }

-- behind the same bytes
pub again_behind : (s : List ℕ) {a b : List ℕ} → Again a b → Again (s ++ a) (s ++ b)
again_behind s {a} {b} p =
    let n = p.no_more in
    let l = length-append s a in
    let m = length-append s b in
    record { no_more = omega arith; same = λ h. ap (λ l. s ++ l) (p.same (omega arith)) }

-- two parts
pub again_both : {a b c d : List ℕ} → Again a b → Again c d → Again (a ++ c) (b ++ d)
again_both {a} {b} {c} {d} p q =
    let n = p.no_more in
    let m = q.no_more in
    let k = length-append a c in
    let l = length-append b d in
    record { no_more = omega arith; same = λ h i. p.same (omega arith) i ++ q.same (omega arith) i }
