-- A lift: one that was seen to be right has its size, one that has a size is right, and its parts stored one after the other are the lift written.
use Rattle.std.specs.Prelude.{Option, Some, None, IfSome, Ok}
use Rattle.std.proofs.lemmas.Option.{IfSome_then}
use Rattle.numbers.proofs.Impossible.{impossible}
use Prim.Native.Nat.{ℕ, ◌+◌, ◌*◌, ◌≤◌, ◌<◌}
use native.Mathlib.Omega.{arith}
use mathlib.Core.Path.{◌≡◌, refl, sym, ap, subst, ◌∙◌}
use mathlib.Core.Bool.{Bool, true, false}
use mathlib.Core.List.{List, [], ◌∷◌, ◌++◌}
use borrow.Author.Tests.{le-leb, lt-leb, leb-true, leb-false}
use lib.Dec.{leb}
use lib.ListN.{length, drop, set, length-append}
use lib.Seq.{sets}
use Rattle.numbers.specs.Bytes as bytes
use Rattle.numbers.specs.Bytes.{store}
use Rattle.numbers.specs.Leb.{unsigned}
use Rattle.numbers.specs.Stored.{Stored}
use Rattle.fields.specs.Answer.{Refused}
use Rattle.fields.specs.declared.Field.TheVariants as field
use Rattle.fields.specs.declared.Refusal.TheVariants.{Room}
use Rattle.writing.specs.Binary as binary
use Rattle.fields.specs.Words.{word, wide}
use Rattle.writing.specs.Judge.{flaw}
use Rattle.writing.specs.inside.Wrote.{Wrote}
use Rattle.writing.specs.Row.{measured_row}
use Rattle.fields.specs.Shape.{repeated, widths, row_width}
use Rattle.fields.specs.Answers.{left}
use Rattle.writing.specs.Write.{stored}
use Rattle.writing.proofs.PutLaws.{all_fields}
use Rattle.writing.proofs.TableLaws.{strings}
use Rattle.writing.proofs.WroteLaws.{then, same_size}
use Rattle.writing.specs.Sizes.{within}
use Rattle.writing.specs.inside.Rows.{Rights}
use Rattle.writing.proofs.GroupLaws.{choice_element, bytes-wrote, number_wrote}
use Rattle.writing.proofs.RowLaws.{within-fits, within_not, rights-first, rights_join, only-groups, Held, row-known, row_held}
use Rattle.canonicals.specs.inside.Class.{Choices, choices, Chosen, Lifted, counted_bytes, counted_size, lifted_size, LiftTried}
use Rattle.canonicals.specs.Table.{lift_shape, lift}
use Rattle.canonicals.proofs.ClassLaws.{one, element, choices-rights, rights-choices}

pub lifted-known : (row pool : List ℕ) {a b c : ℕ} (o : Option ℕ) → length pool ≤ 65536 → length row ≤ 16384 → length row ≡ 4 + word row 3 * 2
    → a ≡ length (unsigned (word row 1)) → b ≡ length (unsigned (word row 2)) → c ≡ length (unsigned (word row 3))
    → IfSome o (λ r. Chosen (word row 3) (drop 4 row) (2 + a + b + c) r) → IfSome o (λ r. Lifted row pool × (r ≡ 2 + lifted_size row))
lifted-known row pool {a} {b} {c} o small short width ea eb ec s =
    IfSome_then o s (λ r k. (record { small = small; short = short; width = width; right = k.right }, omega (arith, k.size)))

-- ---- a lift that is right has its size, and one that has a size is right

four_words : (row : List ℕ) → 4 ≤ length row → row ≡ word row 0 ∷ word row 1 ∷ word row 2 ∷ word row 3 ∷ drop 4 row
four_words [] h = absurd (omega arith)
four_words (a ∷ []) h = absurd (omega arith)
four_words (a ∷ b ∷ []) h = absurd (omega arith)
four_words (a ∷ b ∷ c ∷ []) h = absurd (omega arith)
four_words (a ∷ b ∷ c ∷ d ∷ l) h = refl

lift-length : (pool : List ℕ) (k f t n : ℕ) (os : List ℕ)
    → length (strings pool (all_fields lift_shape (k ∷ f ∷ t ∷ n ∷ os) 1) (f ∷ t ∷ n ∷ os)) ≡ 2 + lifted_size (k ∷ f ∷ t ∷ n ∷ os)
unfolding strings binary.bytes widths wide
lift-length pool k f t n os =
    omega (
      arith,
      length-append (unsigned f) (unsigned t ++ (unsigned n ++ rest)),
      length-append (unsigned t) (unsigned n ++ rest),
      length-append (unsigned n) rest,
      ap length same,
    )
  where
    rest : List ℕ
    rest = strings pool (repeated n one ++ field.Nothing ∷ []) os

    same : rest ≡ choices n os
    same = only-groups pool one element (choice_element pool) n os

lift-right : (k f t n : ℕ) (os pool : List ℕ) → Lifted (k ∷ f ∷ t ∷ n ∷ os) pool
    → measured_row (Some lift_shape) (k ∷ f ∷ t ∷ n ∷ os) pool ≡ Ok (2 + lifted_size (k ∷ f ∷ t ∷ n ∷ os))
unfolding row_width widths wide Rights flaw
lift-right k f t n os pool h =
    row-known lift_shape pool (k ∷ f ∷ t ∷ n ∷ os) h.small h.short (omega (arith, h.width))
    (refl, (refl, (refl, (refl, (refl, rights_join pool (repeated n one) (field.Nothing ∷ []) os (choices-rights pool n os h.right) (refl, tt))))))
    (sym (lift-length pool k f t n os))

pub lift-sized : (row pool : List ℕ) → Lifted row pool → measured_row (Some lift_shape) row pool ≡ Ok (2 + lifted_size row)
lift-sized row pool h =
    let e = four_words row (omega (arith, h.width)) in
    subst (λ r. measured_row (Some lift_shape) r pool ≡ Ok (2 + lifted_size r)) (sym e)
    (lift-right (word row 0) (word row 1) (word row 2) (word row 3) (drop 4 row) pool (subst (λ r. Lifted r pool) e h))

lift-held : (row pool : List ℕ) {n : ℕ} → measured_row (Some lift_shape) row pool ≡ Ok n → Lifted row pool × (n ≡ 2 + lifted_size row)
unfolding row_width widths wide Rights
lift-held row pool {n} e = go row (row_held lift_shape row pool e)
  where
    go : (row : List ℕ) → Held lift_shape row pool n → Lifted row pool × (n ≡ 2 + lifted_size row)
    go [] h = absurd (omega (arith, h.width))
    go (k ∷ []) h = absurd (omega (arith, h.width))
    go (k ∷ f ∷ []) h = absurd (omega (arith, h.width))
    go (k ∷ f ∷ t ∷ []) h = absurd (omega (arith, h.width))
    go (k ∷ f ∷ t ∷ m ∷ os) h = (
      record {
        small = h.small;
        short = h.short;
        width = omega (arith, h.width);
        right = rights-choices pool m os (rights-first pool (repeated m one) (field.Nothing ∷ []) os h.right.1.1.1.1.1);
      },
      h.size ∙ lift-length pool k f t m os,
    )

-- ---- storing

pub counted-wrote : (row out : List ℕ) (to : ℕ) {one new : List ℕ} {n : ℕ} {q : Stored} {j : ℕ} → to + counted_size row ≤ length out
    → bytes.left q one ≡ store (unsigned (word row 3)) to out → n ≡ length (unsigned (word row 3))
    → Wrote one (to + n) (choices (word row 3) (drop 4 row)) j new → Wrote out to (counted_bytes row) j new
counted-wrote row out to {one} {new} {n} {q} {j} h e en w =
    then (number_wrote e (omega arith)) (subst (λ k. Wrote one (to + k) (choices (word row 3) (drop 4 row)) j new) en w)

lift-bytes : (row : List ℕ) → 4 ≤ length row
    → lift (drop 1 row) ≡ 0x00 ∷ 0x00 ∷ (unsigned (word row 1) ++ (counted_bytes row ++ unsigned (word row 2)))
unfolding lift
lift-bytes row h = ap (λ r. lift (drop 1 r)) (four_words row h)

-- two bytes 00 and the function, the options, the type
module _ (row out : List ℕ) (to : ℕ) {one : List ℕ} {n : ℕ} {q : Stored} (h : to + (2 + lifted_size row) ≤ length out)
    (e : bytes.left q one ≡ store (unsigned (word row 1)) (to + 2) (set (set out to 0x00) (to + 1) 0x00))
    (en : n ≡ length (unsigned (word row 1))) where
  pub function_wrote : Wrote out to (0x00 ∷ 0x00 ∷ unsigned (word row 1)) (to + 2 + n) one
  function_wrote =
      let w = bytes-wrote out to 0x00 0x00 in
      subst (λ k. Wrote out to (0x00 ∷ 0x00 ∷ unsigned (word row 1)) (to + 2 + k) one) (sym en) (then w (number_wrote e (omega (arith, same_size w))))

  module _ {two : List ℕ} {j : ℕ} (w : Wrote one (to + 2 + n) (counted_bytes row) j two) where
    pub lift_wrote : 4 ≤ length row → {new : List ℕ} {t : Stored} → bytes.left t new ≡ store (unsigned (word row 2)) j two
        → Wrote out to (lift (drop 1 row)) (j + length (unsigned (word row 2))) new
    lift_wrote long {new} d =
        let l = length-append (unsigned (word row 3)) (choices (word row 3) (drop 4 row)) in
        let s = same_size w in
        let z = same_size function_wrote in
        subst (λ b. Wrote out to b (j + length (unsigned (word row 2))) new) (sym (lift-bytes row long))
        (then function_wrote (then w (number_wrote d (omega (arith, w.place)))))

-- ---- what straight code answers

pub lift_none : {row pool out : List ℕ} {at : ℕ} → LiftTried row pool out at None out
lift_none = record { none = λ e. refl; some = λ n e. impossible cc }

-- a lift that was seen to be right, where its bytes have room
module _ (out : List ℕ) (at : ℕ) {row pool : List ℕ} {r : ℕ} (known : Lifted row pool × (r ≡ 2 + lifted_size row))
    {b : Bool} (e : b ≡ within r at (length out)) (t : b ≡ true) where
  fit : at + r ≤ length out
  fit = (within-fits r at (length out) (sym e ∙ t)).1

  pub lift_room : (length row ≡ 4 + word row 3 * 2) × Choices (word row 3) (drop 4 row) × (at + (2 + lifted_size row) ≤ length out)
  lift_room = (known.0.width, known.0.right, omega (arith, known.1, fit))

  lift_left : {new : List ℕ} → new ≡ sets out at (lift (drop 1 row))
      → left (Ok r) new ≡ stored (measured_row (Some lift_shape) row pool) (lift (drop 1 row)) out at
  unfolding stored
  lift_left p = rw (lift-sized row pool known.0 ∙ ap Ok (sym known.1)) (simp (le-leb _ _ fit) (ap (left (Ok r)) p))

  pub lift_tried : {new : List ℕ} → new ≡ sets out at (lift (drop 1 row)) → LiftTried row pool out at (Some r) new
  lift_tried {new} p = record {
    none = λ z. impossible cc;
    some = λ n q.
        let same : r ≡ n = cc in
        subst (λ k. left (Ok k) new ≡ stored (measured_row (Some lift_shape) row pool) (lift (drop 1 row)) out at) same (lift_left p);
  }

-- a lift that the walk found right, where its bytes have room and where not
module _ (row pool out : List ℕ) (at : ℕ) {n : ℕ} (e : measured_row (Some lift_shape) row pool ≡ Ok n) {b : Bool}
    (f : b ≡ within n at (length out)) where
  held : Lifted row pool × (n ≡ 2 + lifted_size row)
  held = lift-held row pool e

  pub held_room : b ≡ true → (length row ≡ 4 + word row 3 * 2) × Choices (word row 3) (drop 4 row) × (at + (2 + lifted_size row) ≤ length out)
  held_room t = (held.0.width, held.0.right, omega (arith, held.1, (within-fits n at (length out) (sym f ∙ t)).1))

  pub held_written : b ≡ true → {new : List ℕ} → new ≡ sets out at (lift (drop 1 row))
      → left (Ok n) new ≡ stored (measured_row (Some lift_shape) row pool) (lift (drop 1 row)) out at
  unfolding stored
  held_written t p = rw e (simp (le-leb _ _ (within-fits n at (length out) (sym f ∙ t)).1) (ap (left (Ok n)) p))

  pub held_roomless : b ≡ false → left (Refused Room n) out ≡ stored (measured_row (Some lift_shape) row pool) (lift (drop 1 row)) out at
  unfolding stored
  held_roomless t = rw e (simp (lt-leb _ _ (go (leb (at + n) (length out)) refl)))
    where
      go : (k : Bool) → leb (at + n) (length out) ≡ k → length out < at + n
      go true p = absurd (within_not n at (length out) (sym f ∙ t) (omega (arith, held.1)) (leb-true (at + n) (length out) p))
      go false p = leb-false (at + n) (length out) p
