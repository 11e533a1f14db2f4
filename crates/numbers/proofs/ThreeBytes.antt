-- Numbers of at most three bytes, stored without a branch: three stores that overlap where there are fewer bytes.
use Rattle.std.proofs.Common.{◌≡◌, ℕ, ◌+◌, ◌*◌, ◌/◌, ◌%◌, ◌<◌, ◌≤◌, Bool, true, false, cond, ltb, List, [], ◌∷◌, length, set, refl, add-zero, add-one, arith, set-set, ltb-false, ltb-true, le-ltb, lt-ltb}
use lib.Seq.{sets}
use Rattle.numbers.specs.Leb.{bytes_of}
use Rattle.numbers.specs.inside.Over.{over}
use Rattle.numbers.proofs.Shortest.{bytes-last, bytes-more}

-- the bytes of a number of two, and of one of three
two_bytes : (end n : ℕ) → end ≤ n → n < end * 128 → bytes_of end 5 n ≡ (n % 128 + 128) ∷ (n / 128) ∷ []
two_bytes end n p q = rw (bytes-more end 4 n p, bytes-last end 3 (n / 128) (omega arith))

three-bytes : (end n : ℕ) → end * 128 ≤ n → n < end * 16384
    → bytes_of end 5 n ≡ (n % 128 + 128) ∷ (n / 128 % 128 + 128) ∷ (n / 16384) ∷ []
three-bytes end n p q =
    let d : n / 128 / 128 ≡ n / 16384 = omega arith in
    rw (bytes-more end 4 n (omega arith), bytes-more end 3 (n / 128) (omega arith), bytes-last end 2 (n / 128 / 128) (omega arith), d)

-- the last byte
abbrev pub last_of : ℕ → ℕ → ℕ
last_of end n = cond (ltb n (end * 128)) (cond (ltb n end) n (n / 128)) (n / 16384)

-- its size, its last byte, and the three stores
pub record Short (end n : ℕ) : Type 0 where
  pub size : length (bytes_of end 5 n) ≡ 1 + over end n + over (end * 128) n
  pub last : last_of end n < end
  pub stores :
      (l : List ℕ) (at : ℕ)
      → set (set (set l at (n % 128 + 128)) (at + over end n) (n / 128 % 128 + 128)) (at + over end n + over (end * 128) n) (last_of end n)
      ≡ sets l at (bytes_of end 5 n)

pub short : (end n : ℕ) → n < end * 16384 → Short end n
short end n h = go (ltb n end) refl (ltb n (end * 128)) refl
  where
    one : n < end → Short end n
    one p =
        let a = lt-ltb n end p in
        let b = lt-ltb n (end * 128) (omega arith) in
        let e = bytes-last end 4 n p in
        record { size = simp (a, b, e); last = simp (a, b) p; stores = λ l at. simp (a, b, e, add-zero, set-set) }

    two : end ≤ n → n < end * 128 → Short end n
    two p q =
        let a = le-ltb n end p in
        let b = lt-ltb n (end * 128) q in
        let e = two_bytes end n p q in
        let s : n / 128 < end = omega arith in
        record { size = simp (a, b, e); last = simp (a, b) s; stores = λ l at. simp (a, b, e, add-zero, add-one, set-set) }

    three : end * 128 ≤ n → Short end n
    three q =
        let a = le-ltb n end (omega arith) in
        let b = le-ltb n (end * 128) q in
        let e = three-bytes end n q h in
        let s : n / 16384 < end = omega arith in
        record { size = simp (a, b, e); last = simp (a, b) s; stores = λ l at. simp (a, b, e, add-one) }

    go : (t : Bool) → ltb n end ≡ t → (u : Bool) → ltb n (end * 128) ≡ u → Short end n
    go true p u q = one (ltb-true n end p)
    go false p true q = two (ltb-false n end p) (ltb-true n (end * 128) q)
    go false p false q = three (ltb-false n (end * 128) q)
