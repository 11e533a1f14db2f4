-- The laws of `specs/Trying.antt`: a place more that is filled, and what is kept, part by part. Assumes nothing.
use Rattle.std.proofs.Common.{◌≡◌, ℕ, zero, suc, ◌+◌, ◌<◌, ◌≤◌, Bool, true, false, List, ◌++◌, length, take, drop, set, refl, append_assoc, append-nil, arith, min, ◌^◌, ltb, ltb-true, ltb-false, length-append, drop_of_length-le, drop-cons}
use lib.Seq.{set_at}
use Rattle.telling.specs.Lines.{starts}
use Rattle.telling.specs.Trying.{pattern_at, filled, kept}

length-filled : (turned : Bool) (n : ℕ) → length (filled turned n) ≡ n
unfolding filled
length-filled turned zero = refl
length-filled turned (suc n) = simp (length-append, length-filled turned n) (omega arith)

pub fill_on :
    (turned : Bool) (n : ℕ) (out : List ℕ) → n < length out
    → set (filled turned n ++ drop n out) n (pattern_at turned n) ≡ filled turned (suc n) ++ drop (suc n) out
unfolding filled
fill_on turned n out h =
    rw (drop-cons out n 0, set_at (filled turned n) _ _ _ n (length-filled turned n), append_assoc)

pub fill_end : (turned : Bool) (n : ℕ) (out : List ℕ) → length out ≤ n → filled turned n ++ drop n out ≡ filled turned n
fill_end turned n out h = rw (drop_of_length-le out h, append-nil)

-- ---- what is kept

-- a place that is cut at the largest one lies behind every slice
pub drop_capped : (m n : ℕ) (s : List ℕ) → m ≡ min n 18446744073709551615 → length s < 2 ^ 64 → drop m s ≡ drop n s
drop_capped m n s e h = go (ltb n 18446744073709551616) refl
  where
    go : (t : Bool) → ltb n 18446744073709551616 ≡ t → drop m s ≡ drop n s
    go true k = let i : m ≡ n = omega (arith, ltb-true _ _ k) in rw i
    go false k =
        rw (drop_of_length-le s {i = m} (omega (arith, ltb-false _ _ k)), drop_of_length-le s {i = n} (omega (arith, ltb-false _ _ k)))

-- ---- what is kept, by where the `size` bytes from `at` on lie

module _ (old out : List ℕ) (at size : ℕ) where
  pub kept_not : starts old (take at out) ≡ false → kept old out at size ≡ false
  unfolding kept
  kept_not e = rw e

  pub kept-both :
      starts old (take at out) ≡ true → kept old out at size ≡ starts (drop (at + size) old) (drop (at + size) out)
  unfolding kept
  kept-both e = rw e
