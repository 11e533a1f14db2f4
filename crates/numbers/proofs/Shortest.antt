-- The laws of `specs/Leb.antt` that the proofs of the functions cite. Assumes nothing.
use Rattle.std.proofs.Common.{◌≡◌, ℕ, zero, suc, ◌+◌, ◌*◌, ◌/◌, ◌%◌, ◌<◌, ◌≤◌, Bool, true, false, cond, ltb, [], ◌∷◌, length, refl, arith, ltb-false, ltb-true, le-ltb, lt-ltb}
use Rattle.numbers.specs.Leb.{bytes_of}
use Rattle.numbers.specs.inside.Over.{over}

-- every number below it takes at most k + 1 bytes
abbrev pub room : ℕ → ℕ → ℕ
room end zero = end
room end (suc k) = 128 * room end k

pub bytes-last : (end k n : ℕ) → n < end → bytes_of end (suc k) n ≡ n ∷ []
unfolding bytes_of
bytes-last end k n h = simp (lt-ltb n end h)

pub bytes-more : (end k n : ℕ) → end ≤ n → bytes_of end (suc k) n ≡ (n % 128 + 128) ∷ bytes_of end k (n / 128)
unfolding bytes_of
bytes-more end k n h = simp (le-ltb n end h)

pub at_most : (end k n : ℕ) → length (bytes_of end k n) ≤ k
unfolding bytes_of
at_most end zero n = omega arith
at_most end (suc k) n = go (ltb n end) (at_most end k (n / 128))
  where
    go : (t : Bool) → length (bytes_of end k (n / 128)) ≤ k → length (cond t (n ∷ []) ((n % 128 + 128) ∷ bytes_of end k (n / 128))) ≤ suc k
    go true h = omega arith
    go false h = omega arith

-- what a round of a loop that writes or counts does: one byte less is due
pub record Round (end k n : ℕ) : Type 0 where
  pub due : ℕ
  pub fits : n / 128 < room end due
  pub step : bytes_of end (suc k) n ≡ (n % 128 + 128) ∷ bytes_of end (suc due) (n / 128)

pub round : (end k n : ℕ) → end ≤ n → n < room end k → Round end k n
round end zero n h r = absurd (omega arith)
round end (suc k) n h r = record { due = k; fits = omega arith; step = bytes-more end (suc k) n h }

-- how many of the bounds m, 128 m, .. (k of them) n has passed
abbrev pub overs : ℕ → ℕ → ℕ → ℕ
overs zero m n = 0
overs (suc k) m n = over m n + overs k (m * 128) n

-- a number below the first bound has passed none
none_passed : (k m n : ℕ) → n < m → overs k m n ≡ 0
none_passed zero m n h = refl
none_passed (suc k) m n h = simp (lt-ltb n m h, none_passed k (m * 128) n (omega arith))

-- a number without its lowest seven bits passes a bound where the number passes 128 times the bound
passed_less : (k m n : ℕ) → overs k m (n / 128) ≡ overs k (m * 128) n
passed_less zero m n = refl
passed_less (suc k) m n = go (ltb n (m * 128)) refl (passed_less k (m * 128) n)
  where
    go : (t : Bool) → ltb n (m * 128) ≡ t → overs k (m * 128) (n / 128) ≡ overs k (m * 128 * 128) n
        → over m (n / 128) + overs k (m * 128) (n / 128) ≡ over (m * 128) n + overs k (m * 128 * 128) n
    go true e ih = simp (e, lt-ltb (n / 128) m (omega (arith, ltb-true n (m * 128) e)), ih)
    go false e ih = simp (e, le-ltb (n / 128) m (omega (arith, ltb-false n (m * 128) e)), ih)

-- a byte, and one more for each bound passed
pub size_by_bounds : (k end n : ℕ) → length (bytes_of end (suc k) n) ≡ 1 + overs k end n
unfolding bytes_of
size_by_bounds zero end n = go (ltb n end)
  where
    go : (t : Bool) → length (cond t (n ∷ []) ((n % 128 + 128) ∷ [])) ≡ 1 + 0
    go true = refl
    go false = refl
size_by_bounds (suc k) end n = go (ltb n end) refl (size_by_bounds k end (n / 128))
  where
    go : (t : Bool) → ltb n end ≡ t → length (bytes_of end (suc k) (n / 128)) ≡ 1 + overs k end (n / 128)
        → length (bytes_of end (suc (suc k)) n) ≡ 1 + overs (suc k) end n
    go true e ih = simp (e, none_passed k (end * 128) n (omega (arith, ltb-true n end e)))
    go false e ih = rw (bytes-more end (suc k) n (ltb-false n end e)) (simp e (omega (arith, passed_less k end n)))

pub over-small : (m n : ℕ) → over m n ≤ 1
over-small m n = go (ltb n m)
  where
    go : (t : Bool) → cond t 0 1 ≤ 1
    go true = omega arith
    go false = omega arith
