-- What storing bytes leaves: bytes stored one after the other are one run, and the room of the whole is the room of each.
use Prim.Native.Nat.{ℕ, ◌+◌, ◌≤◌}
use native.Mathlib.Omega.{arith}
use mathlib.Core.Path.{◌≡◌, refl, ap, ◌∙◌}
use mathlib.Core.List.{List, [], ◌∷◌, ◌++◌}
use lib.ListN.{length, length-append}
use lib.Seq.{length-sets}
use Rattle.numbers.proofs.BytesLaws.{sets_append, store-fits, size-value}
use Rattle.numbers.specs.Bytes.{Left, left, store}
use Rattle.numbers.specs.Numbers.{value_of}
use Rattle.numbers.specs.Stored.{Stored}
use Rattle.writing.specs.inside.Wrote.{Wrote}

pub nothing : (l : List ℕ) (i : ℕ) → Wrote l i [] i l
nothing l i = record { place = omega arith; content = refl }

pub then : {l m n : List ℕ} {i j k : ℕ} {a b : List ℕ} → Wrote l i a j m → Wrote m j b k n → Wrote l i (a ++ b) k n
then {l} {m} {n} {i} {j} {k} {a} {b} v w =
    record {
      place = omega (arith, v.place, w.place, length-append a b);
      content = w.content ∙ rw (v.content, v.place) (sets_append a b l i);
    }

-- a byte and then bytes
pub then-byte :
    {l m n : List ℕ} {i j k x : ℕ} {b : List ℕ} → Wrote l i (x ∷ []) j m → Wrote m j b k n → Wrote l i (x ∷ b) k n
then-byte v w = then v w

pub same_size : {l m : List ℕ} {i j : ℕ} {a : List ℕ} → Wrote l i a j m → length m ≡ length l
same_size {l} {m} {i} {j} {a} w = ap length w.content ∙ length-sets l i a

-- the room of the first part, and of the second where the first is stored
pub room-first : (a b : List ℕ) (i n : ℕ) → i + length (a ++ b) ≤ n → i + length a ≤ n
room-first a b i n h = omega (arith, length-append a b)

pub room-then :
    {l m : List ℕ} {i j : ℕ} {a : List ℕ} → Wrote l i a j m → (b : List ℕ) → i + length (a ++ b) ≤ length l
    → j + length b ≤ length m
room-then {l} {m} {i} {j} {a} w b h = omega (arith, w.place, same_size w, length-append a b)

-- what storing bytes leaves where there is room for them; s is what storing came to
pub of-store :
    {l m : List ℕ} {i : ℕ} {a : List ℕ} {r : Stored} {s : ℕ} → left r m ≡ store a i l → s ≡ value_of r
    → i + length a ≤ length l → Wrote l i a (i + s) m
of-store {l} {m} {i} {a} {r} {s} e v h =
    let f = e ∙ store-fits a i l h in
    record {
      place = ap (λ (n : ℕ). i + n) (v ∙ ap (λ (x : Left). value_of x.answer) f ∙ size-value (length a));
      content = ap (λ (x : Left). x.buffer) f;
    }

-- one after the other
pub of-stores :
    (a b : List ℕ) {l m n : List ℕ} {i : ℕ} {r q : Stored} {s t : ℕ} → left r m ≡ store a i l → s ≡ value_of r
    → left q n ≡ store b (i + s) m → t ≡ value_of q → i + length (a ++ b) ≤ length l → Wrote l i (a ++ b) (i + s + t) n
of-stores a b {l} {m} {n} {i} e v d w h =
    let one = of-store e v (room-first a b i (length l) h) in
    then one (of-store d w (room-then one b h))
