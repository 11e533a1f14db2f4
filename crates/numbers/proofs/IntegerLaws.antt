-- The bytes that are put are the core document's, no others of its are fewer, and none that are as many are others.
use Rattle.std.proofs.Common.{◌≡◌, ℕ, zero, suc, ◌+◌, ◌-◌, ◌*◌, ◌/◌, ◌%◌, ◌^◌, ◌<◌, ◌≤◌, Bool, true, false, ltb, List, ◌∷◌, length, sym, refl, ap, ◌∙◌, subst, arith, pow-add, ltb-false, ltb-true}
use Rattle.numbers.specs.Again.{Again}
use Rattle.numbers.specs.Bytes.{Bytes}
use Rattle.numbers.specs.Integers.{Integer, last, more, Form, u32, s33}
use Rattle.numbers.specs.Leb.{bytes_of}
use Rattle.numbers.proofs.Shortest.{bytes-last, bytes-more}

-- the bits of value that have room in j + 1 bytes: 32 in five
abbrev pub bits : ℕ → ℕ
bits zero = 4
bits (suc j) = 7 + bits j

module _ (end sign : ℕ) (low : 63 < end) where
  -- the last byte, and a byte before others
  ends : (k b n : ℕ) → n < end → n < 2 ^ b → Integer end sign (b + sign) (bytes_of end (suc k) n) n
  ends k b n l h =
      let e : b + sign - sign ≡ b = omega arith in
      rw (bytes-last end k n l) (last l (subst (λ m. n < 2 ^ m) (sym e) h))

  goes_on : (k b n : ℕ) → end ≤ n → 0 < b → Integer end sign (b + sign) (bytes_of end k (n / 128)) (n / 128)
      → Integer end sign (7 + b + sign) (bytes_of end (suc k) n) n
  goes_on k b n l p i =
      let e : 7 + b + sign - 7 ≡ b + sign = omega arith in
      let v : 2 ^ 7 * (n / 128) + (n % 128 + 128 - 2 ^ 7) ≡ n = omega arith in
      rw (bytes-more end k n l)
      (subst (λ m. Integer end sign (7 + b + sign) ((n % 128 + 128) ∷ bytes_of end k (n / 128)) m) v
      (more (omega arith) (omega arith) (omega arith) (subst (λ m. Integer end sign m (bytes_of end k (n / 128)) (n / 128)) (sym e) i)))

  some : (j : ℕ) → 0 < bits j
  some zero = omega arith
  some (suc j) = omega arith

  in_bits : (j n : ℕ) → n < 2 ^ bits j → Integer end sign (bits j + sign) (bytes_of end (suc j) n) n
  in_bits zero n h = ends 0 4 n (omega arith) h
  in_bits (suc j) n h = go (ltb n end) refl (λ l. in_bits j (n / 128) l)
    where
      go : (t : Bool) → ltb n end ≡ t
          → (n / 128 < 2 ^ bits j → Integer end sign (bits j + sign) (bytes_of end (suc j) (n / 128)) (n / 128))
          → Integer end sign (7 + bits j + sign) (bytes_of end (suc (suc j)) n) n
      go true e ih = ends (suc j) (7 + bits j) n (ltb-true n end e) h
      go false e ih = goes_on (suc j) (bits j) n (ltb-false n end e) (some j) (ih (omega (arith, pow-add 2 7 (bits j))))

-- what is put is the core document's integer
pub put_is : {end sign : ℕ} → Form end sign → (n : ℕ) → n < 2 ^ 32 → Integer end sign (32 + sign) (bytes_of end 5 n) n
put_is u32 n h = in_bits 128 0 (omega arith) 4 n h
put_is s33 n h = in_bits 64 1 (omega arith) 4 n h

-- no bytes that stand for a number are fewer than its shortest form
pub shortest : {end sign N : ℕ} {bytes : List ℕ} {n : ℕ} → Integer end sign N bytes n → (k : ℕ) → length (bytes_of end k n) ≤ length bytes
unfolding bytes_of
shortest (last l h) zero = omega arith
shortest {end} (last {N} {n} l h) (suc k) = rw (bytes-last end k n l) (omega arith)
shortest (more l h p i) zero = omega arith
shortest {end} (more {N} {n} {m} {bytes} l h p i) (suc k) = go (ltb (2 ^ 7 * m + (n - 2 ^ 7)) end) refl (shortest i k)
  where
    go : (t : Bool) → ltb (2 ^ 7 * m + (n - 2 ^ 7)) end ≡ t → length (bytes_of end k m) ≤ length bytes
        → length (bytes_of end (suc k) (2 ^ 7 * m + (n - 2 ^ 7))) ≤ suc (length bytes)
    go true e ih = rw (bytes-last end k (2 ^ 7 * m + (n - 2 ^ 7)) (ltb-true _ _ e)) (omega arith)
    go false e ih =
        let d : (2 ^ 7 * m + (n - 2 ^ 7)) / 128 ≡ m = omega arith in
        rw (bytes-more end k (2 ^ 7 * m + (n - 2 ^ 7)) (ltb-false _ _ e)) (rw d (omega arith))

-- an integer has a byte
integer-some : {end sign N : ℕ} {bytes : List ℕ} {n : ℕ} → Integer end sign N bytes n → 0 < length bytes
integer-some (last l h) = omega arith
integer-some (more l h p i) = omega arith

-- and as many bytes as the shortest form only where it is that form
same_size : {end sign N : ℕ} {bytes : List ℕ} {n : ℕ} → Integer end sign N bytes n → (k : ℕ)
    → length (bytes_of end k n) ≡ length bytes → bytes_of end k n ≡ bytes
unfolding bytes_of
same_size (last l h) zero e = absurd (omega arith)
same_size {end} (last {N} {n} l h) (suc k) e = bytes-last end k n l
same_size (more l h p i) zero e = absurd (omega arith)
same_size {end} (more {N} {n} {m} {bytes} l h p i) (suc k) e = go (ltb v end) refl (λ q. same_size i k q)
  where
    v : ℕ
    v = 2 ^ 7 * m + (n - 2 ^ 7)

    go : (t : Bool) → ltb v end ≡ t → (length (bytes_of end k m) ≡ length bytes → bytes_of end k m ≡ bytes) → bytes_of end (suc k) v ≡ n ∷ bytes
    go true q ih =
        let one : length (bytes_of end (suc k) v) ≡ 1 = ap length (bytes-last end k v (ltb-true v end q)) in
        absurd (omega (arith, e, integer-some i))
    go false q ih =
        let d : v / 128 ≡ m = omega arith in
        let b : v % 128 + 128 ≡ n = omega arith in
        let two : bytes_of end (suc k) v ≡ n ∷ bytes_of end k m = bytes-more end k v (ltb-false v end q) ∙ (λ x. b x ∷ bytes_of end k (d x)) in
        let long : length (bytes_of end (suc k) v) ≡ suc (length (bytes_of end k m)) = ap length two in
        two ∙ ap (λ l. n ∷ l) (ih (omega (arith, e)))

-- so the shortest form is written again for it
pub integer-again : {end sign N : ℕ} {bytes : List ℕ} {n : ℕ} → Integer end sign N bytes n → (k : ℕ) → Again bytes (bytes_of end k n)
integer-again i k = record { no_more = shortest i k; same = λ e. same_size i k e }

-- it has at most j + 1 bytes
pub integer-size : {end sign : ℕ} (j : ℕ) {N : ℕ} {bytes : List ℕ} {n : ℕ} → N ≡ bits j + sign → sign ≤ 1 → Integer end sign N bytes n → length bytes ≤ suc j
integer-size j e s (last l h) = omega arith
integer-size zero e s (more l h p i) = absurd (omega arith)
integer-size {sign = sign} (suc j) e s (more {N} l h p i) =
    let d : N - 7 ≡ bits j + sign = omega arith in
    omega (arith, integer-size j d s i)

-- an integer is bytes
pub integer-bytes : {end sign N : ℕ} {bytes : List ℕ} {n : ℕ} → Form end sign → Integer end sign N bytes n → Bytes bytes
integer-bytes f (last l h) zero = small f l
  where
    small : {end sign n : ℕ} → Form end sign → n < end → n < 2 ^ 8
    small u32 l = omega arith
    small s33 l = omega arith
integer-bytes f (last l h) (suc i) = omega arith
integer-bytes f (more l h p i) zero = h
integer-bytes f (more l h p i) (suc j) = integer-bytes f i j
