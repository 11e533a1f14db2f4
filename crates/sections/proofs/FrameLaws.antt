-- The frame of a finished section: how long it is, that its parts stored one after the other are the whole, and what finishing
-- comes to for each way out of the code. Assumes nothing.
use Rattle.std.specs.Prelude.{Ok}
use Prim.Native.Nat.{ℕ, ◌+◌, ◌-◌, ◌≤◌, ◌<◌}
use native.Mathlib.Omega.{arith}
use mathlib.Core.Path.{◌≡◌, refl, sym, ap, subst, ◌∙◌}
use mathlib.Core.List.{List, ◌++◌}
use borrow.Author.Tests.{lt-ltb, le-ltb, le-leb, lt-leb}
use lib.ListN.{length, set, length-append, length-set}
use lib.Seq.{sets}
use Rattle.numbers.specs.Bytes as bytes
use Rattle.numbers.specs.Bytes.{Left, store}
use Rattle.numbers.specs.Leb.{unsigned}
use Rattle.numbers.specs.Numbers.{value_of}
use Rattle.numbers.specs.Stored.{Stored}
use Rattle.numbers.proofs.BytesLaws.{store-either, size-value, room-value}
use Rattle.numbers.proofs.LebLaws.{size_bounds}
use Rattle.fields.specs.declared.Refusal.TheVariants as refusal
use Rattle.fields.specs.Answers.{left, refuse}
use Rattle.writing.specs.Write.{stored}
use Rattle.writing.proofs.WroteLaws.{then, of-store, of-stores, room-first, room-then}
use Rattle.sections.specs.Finish.{framed, framing}

-- the size and the count have at most 5 bytes each
pub number_size : (n : ℕ) → length (unsigned n) ≤ 5
number_size n = (size_bounds 128 n).1

-- and so has what storing one came to, whether there was room or not
pub stored-small : (n at : ℕ) (out : List ℕ) {after : List ℕ} {r : Stored} {s : ℕ} → bytes.left r after ≡ store (unsigned n) at out
    → s ≡ value_of r → s ≤ 5
stored-small n at out e v =
    rw v
    (subst (λ (x : Left). value_of x.answer ≤ 5) (sym e)
    (store-either (λ (x : Left). value_of x.answer ≤ 5) (unsigned n) at out (rw (size-value (length (unsigned n))) (number_size n))
    (rw (room-value (length (unsigned n))) (number_size n))))

pub frame_size : (family size count : ℕ) (body : List ℕ)
    → length (framed family size count body) ≡ 1 + length (unsigned size) + (length (unsigned count) + length body)
frame_size family size count body =
    omega (arith, length-append (unsigned size) (unsigned count ++ body), length-append (unsigned count) body)

-- the size, the count and the body stored after the id, where there is room for the whole
pub frame_stored : (family size count : ℕ) (body out : List ℕ) {one two three : List ℕ} {q r t : Stored} {n m : ℕ}
    → length (framed family size count body) ≤ length out
    → bytes.left q one ≡ store (unsigned size) 1 (set out 0 family) → n ≡ value_of q
    → bytes.left r two ≡ store (unsigned count) (1 + n) one → m ≡ value_of r
    → bytes.left t three ≡ store body (1 + n + m) two
    → three ≡ sets out 0 (framed family size count body)
frame_stored family size count body out room first n second m third =
    let whole : 1 + length (unsigned size ++ (unsigned count ++ body)) ≤ length (set out 0 family) = simp length-set (omega arith) in
    let sized = of-store first n (room-first (unsigned size) (unsigned count ++ body) 1 _ whole) in
    (then sized (of-stores (unsigned count) body second m third refl (room-then sized (unsigned count ++ body) whole))).content

-- the ways out: n is the count's size, m that of count and body
module _ (family count : ℕ) (body out : List ℕ) {n : ℕ} (counted : n ≡ length (unsigned count)) where
  pub frame_too_big : 4294967295 - n < length body → framing family count body out ≡ refuse refusal.TooBig 0 out
  unfolding framing
  frame_too_big h = rw (lt-ltb 4294967295 (length (unsigned count) + length body) (omega (arith, number_size count)))

  module _ (small : length body ≤ 4294967295 - n) {m : ℕ} (sized : m ≡ length (unsigned (n + length body))) where
    as_stored : framing family count body out
        ≡ stored (Ok (1 + m + (n + length body))) (framed family (n + length body) count body) out 0
    unfolding framing
    as_stored =
        rw (← counted, le-ltb 4294967295 (n + length body) (omega (arith, number_size count)))
        (ap (λ k. stored (Ok k) (framed family (n + length body) count body) out 0)
        (omega (arith, frame_size family (n + length body) count body)))

    pub frame_no_room : length out < 1 + m + (n + length body)
        → framing family count body out ≡ refuse refusal.Room (1 + m + (n + length body)) out
    unfolding stored
    frame_no_room h = as_stored ∙ rw (lt-leb (0 + (1 + m + (n + length body))) (length out) (omega arith))

    pub frame_fits : 1 + m + (n + length body) ≤ length out
        → framing family count body out ≡ left (Ok (1 + m + (n + length body))) (sets out 0 (framed family (n + length body) count body))
    unfolding stored
    frame_fits h = as_stored ∙ rw (le-leb (0 + (1 + m + (n + length body))) (length out) (omega arith))
