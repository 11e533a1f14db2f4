-- An extern name in straight code: its size by the tests of its words, and what is stored of it.
use Rattle.std.specs.Prelude.{Some, None, IfSome, Option, is_some}
use Rattle.std.specs.Prelude.{Ok}
use Rattle.std.specs.Prelude.{Err}
use Prim.Native.Nat.{ℕ, suc, ◌+◌, ◌-◌, ◌≤◌, ◌<◌}
use native.Mathlib.Omega.{arith}
use mathlib.Core.Path.{◌≡◌, refl, sym, ap, ◌∙◌}
use mathlib.Core.Bool.{Bool, true, false, cond}
use mathlib.Core.List.{List, [], ◌∷◌, ◌++◌}
use borrow.Author.Tests.{eq-eqb, ne_eqb, eqb-false, le-leb, lt-leb, leb-true}
use lib.Dec.{eqb, leb}
use lib.ListN.{length, take, drop, set, length-append}
use lib.Seq.{sets, length-sets}
use Rattle.numbers.specs.Bytes.{Left, left, store, part_of}
use Rattle.numbers.specs.Leb.{unsigned}
use Rattle.numbers.specs.Numbers.{value_of}
use Rattle.numbers.specs.Text.{text}
use Rattle.numbers.specs.Stored.{Stored}
use Rattle.numbers.specs.Stored.{Room}
use Rattle.numbers.proofs.BytesLaws.{store-fits, store-room, to_end}
use Rattle.numbers.proofs.LebLaws.{size_bounds}
use Rattle.fields.specs.declared.Field.TheVariants as field
use Rattle.fields.specs.Flaw.{Flaw}
use Rattle.fields.specs.Flaw.{Right, Wrong}
use Rattle.fields.specs.declared.Refusal.{Refusal}
use Rattle.fields.specs.declared.Refusal.TheVariants as refusal
use Rattle.fields.specs.Words.{word, chars, wide}
use Rattle.writing.specs.Binary.{name, flag, slot_at, slots_at, slots, externname, slot_inside, extern_inside, extern_part, bytes}
use Rattle.writing.specs.Judge.{then, unused, named, optional_name, flaw}
use Rattle.writing.specs.Sizes.{within, size_if, right_size}
use Rattle.writing.specs.inside.Extern.{option_words, is_right, SlotInside, ExternInside}
use Rattle.writing.specs.inside.Rows.{Known}
use Rattle.writing.specs.inside.Size.{extern_size, size}
use Rattle.writing.specs.inside.Wrote.{Wrote}
use Rattle.writing.proofs.FlawLaws.{name-inside, plain-flaw, extern_inside_lem}
use Rattle.writing.proofs.GroupLaws as group
use Rattle.writing.proofs.LeafLaws.{part_length, store-none, stored-then}
use Rattle.writing.proofs.RowLaws.{within-fits, within_not, known_of}
use Rattle.writing.proofs.SizeLaws.{inside-length, size-right, field_bound, extern_length}
use Rattle.writing.proofs.WroteLaws as wrote
use Rattle.numbers.proofs.Impossible.{impossible}

-- a name has a byte
name-some : (pool : List ℕ) (s n : ℕ) → 1 ≤ length (name pool s n)
unfolding name
name-some pool s n = omega (arith, length-append (unsigned n) (chars pool s n), size_bounds 128 n)

-- and at most five more than its length
pub name-most : (pool : List ℕ) (s n : ℕ) → IfSome (right_size pool field.Name (s ∷ n ∷ [])) (λ r. r ≤ 5 + n)
unfolding right_size bytes flaw
name-most pool s n = go (flaw pool field.Name (s ∷ n ∷ [])) refl
  where
    go : (x : Flaw) → flaw pool field.Name (s ∷ n ∷ []) ≡ x → IfSome (size_if x (length (bytes pool field.Name (s ∷ n ∷ [])))) (λ r. r ≤ 5 + n)
    go Right e = omega (arith, inside-length pool s n (name-inside pool (s ∷ n ∷ []) 0 e), size_bounds 128 n)
    go (Err fault) e = tt

-- the same bytes, with a lead
led_size : (x : Flaw) (n : ℕ) → ((one : ℕ) → Some one ≡ size_if x n → Some (1 + one) ≡ size_if x (suc n)) × (None ≡ size_if x n → None ≡ size_if x (suc n))
led_size Right n = (λ one e. let q : one ≡ n = cc in ap Some (omega arith), λ e. impossible cc)
led_size (Err fault) n = (λ one e. impossible cc, λ e. refl)

-- ---- whether it is right, without a place

right_if : (b : Bool) (w : Refusal) (j : ℕ) → is_right (cond b Right (Wrong w j)) ≡ b
right_if true w j = refl
right_if false w j = refl

right_both : (x y : Flaw) → is_right (then x y) ≡ cond (is_right x) (is_right y) false
right_both Right y = refl
right_both (Err fault) y = refl

right_is : (x : Flaw) → is_right x ≡ true → x ≡ Right
right_is Right e = refl
right_is (Err fault) e = impossible cc

wrong_none : (x : Flaw) (n : ℕ) → is_right x ≡ false → None ≡ size_if x n
wrong_none Right n e = impossible cc
wrong_none (Err fault) n e = refl

some_right : (x : Flaw) (n : ℕ) → is_some (size_if x n) ≡ is_right x
some_right Right n = refl
some_right (Err fault) n = refl

named_right : (pool ws : List ℕ) (k : ℕ)
    → is_right (named pool ws k) ≡ cond (leb (word ws k + word ws (k + 1)) (length pool)) (text (chars pool (word ws k) (word ws (k + 1)))) false
unfolding named
named_right pool ws k =
    go (leb (word ws k + word ws (k + 1)) (length pool)) (text (chars pool (word ws k) (word ws (k + 1)))) _
  where
    go : (a b : Bool) (w : Refusal) → is_right (cond a (cond b Right (Wrong w k)) (Wrong refusal.Range k)) ≡ cond a b false
    go true true w = refl
    go true false w = refl
    go false b w = refl

-- a name that has a size is right
pub name_test : (pool ws : List ℕ) (k : ℕ) {s n : ℕ} {r : Option ℕ} → s ≡ word ws k → n ≡ word ws (k + 1) → r ≡ right_size pool field.Name (s ∷ n ∷ [])
    → is_some r ≡ is_right (named pool ws k)
unfolding right_size flaw bytes
name_test pool ws k {s} {n} es en eo =
    ap is_some eo ∙ some_right (named pool (s ∷ n ∷ []) 0) _ ∙ named_right pool (s ∷ n ∷ []) 0
    ∙ (λ i. cond (leb (es i + en i) (length pool)) (text (chars pool (es i) (en i))) false) ∙ sym (named_right pool ws k)

-- an option: absent, and its other words unused; present, and its name right; neither
module _ (pool ws : List ℕ) (i : ℕ) {p : ℕ} (ep : p ≡ word ws i) where
  pub absent_test : p ≡ 0 → {s n : ℕ} → s ≡ word ws (i + 1) → n ≡ word ws (i + 2)
      → cond (eqb s 0) (eqb n 0) false ≡ is_right (optional_name pool ws i)
  unfolding optional_name
  absent_test z es en =
      simp (eq-eqb _ _ (sym ep ∙ z), right_both (unused ws (i + 1)) (unused ws (i + 2)), right_if, es, en)

  pub present_test : p ≡ 1 → {s n : ℕ} {r : Option ℕ} → s ≡ word ws (i + 1) → n ≡ word ws (i + 2) → r ≡ right_size pool field.Name (s ∷ n ∷ [])
      → is_some r ≡ is_right (optional_name pool ws i)
  unfolding optional_name
  present_test z es en eo =
      let next : i + 2 ≡ i + 1 + 1 = omega arith in
      name_test pool ws (i + 1) es (en ∙ ap (λ k. word ws k) next) eo
      ∙ simp (eq-eqb _ _ (sym ep ∙ z), ne_eqb (word ws i) 0 (λ e. absurd (omega arith)))

  pub neither_test : (p ≡ 0 → ⊥) → (p ≡ 1 → ⊥) → false ≡ is_right (optional_name pool ws i)
  unfolding optional_name
  neither_test a b = simp (ne_eqb _ _ (λ e. a (ep ∙ e)), ne_eqb _ _ (λ e. b (ep ∙ e)))

-- the name and its options
pub extern_test : (pool ws : List ℕ)
    → is_right (flaw pool field.ExternName ws)
    ≡ cond (is_right (named pool ws 0)) (cond (is_right (optional_name pool ws 2)) (cond (is_right (optional_name pool ws 5)) (is_right (optional_name pool ws 8)) false) false) false
unfolding flaw
extern_test pool ws =
    simp (
      right_both (named pool ws 0) (then (optional_name pool ws 2) (then (optional_name pool ws 5) (optional_name pool ws 8))),
      right_both (optional_name pool ws 2) (then (optional_name pool ws 5) (optional_name pool ws 8)),
      right_both (optional_name pool ws 5) (optional_name pool ws 8),
    )

both_true : (a b : Bool) → cond a b false ≡ true → (a ≡ true) × (b ≡ true)
both_true true b e = (refl, e)
both_true false b e = impossible cc

no_bytes : (l : List ℕ) → length l ≡ 0 → l ≡ []
no_bytes [] e = refl
no_bytes (a ∷ l) e = absurd (omega arith)

module _ (pool ws : List ℕ) where
  -- ---- the bytes: without options, and with one

  slots_absent : option_words ws ≡ 0 → slots ws ≡ 0
  unfolding slots flag
  slots_absent e =
      let x2 : word ws 2 ≡ 0 = omega arith in
      let x5 : word ws 5 ≡ 0 = omega arith in
      let x8 : word ws 8 ≡ 0 = omega arith in
      rw (x2, x5, x8)

  module _ {k s n : ℕ} (ek : k ≡ slots ws) (es : s ≡ word ws 0) (en : n ≡ word ws 1) where
    pub plain_bytes : k ≡ 0 → externname pool ws ≡ 0x00 ∷ name pool s n
    unfolding externname
    plain_bytes e = simp (eq-eqb _ _ (sym ek ∙ e), es, en)

    pub optioned_bytes_lem : (k ≡ 0 → ⊥) → externname pool ws ≡ (0x02 ∷ name pool s n) ++ (k ∷ slots_at pool ws)
    unfolding externname
    optioned_bytes_lem z = simp (ne_eqb _ _ (λ e. z (ek ∙ e)), ek, es, en)

    pub optioned_length : (k ≡ 0 → ⊥) → length (externname pool ws) ≡ 2 + length (name pool s n) + length (slots_at pool ws)
    optioned_length z = omega (arith, ap length (optioned_bytes_lem z), length-append (0x02 ∷ name pool s n) (k ∷ slots_at pool ws))

  pub slots_length : length (slots_at pool ws) ≡ length (slot_at pool ws 0x00 2) + (length (slot_at pool ws 0x01 5) + length (slot_at pool ws 0x02 8))
  unfolding slots_at
  slots_length = simp length-append

  pub slots_wrote : {l m n o : List ℕ} {i j k p : ℕ} → Wrote l i (slot_at pool ws 0x00 2) j m → Wrote m j (slot_at pool ws 0x01 5) k n
      → Wrote n k (slot_at pool ws 0x02 8) p o → Wrote l i (slots_at pool ws) p o
  unfolding slots_at
  slots_wrote x y z = wrote.then x (wrote.then y z)

  -- an option: absent, and present
  module _ (i : ℕ) {p : ℕ} (ep : p ≡ word ws i) where
    pub slot_none : p ≡ 0 → (k : ℕ) → slot_at pool ws k i ≡ []
    unfolding slot_at
    slot_none e k = simp (eq-eqb _ _ (sym ep ∙ e))

    pub slot_some : (p ≡ 0 → ⊥) → {s n : ℕ} → s ≡ word ws (i + 1) → n ≡ word ws (i + 2) → (k : ℕ) → slot_at pool ws k i ≡ k ∷ name pool s n
    unfolding slot_at
    slot_some z es en k = simp (ne_eqb _ _ (λ e. z (ep ∙ e)), es, en)

  -- ---- its size: without options that of the name and a lead; else by its flaw

  pub plain_size : option_words ws ≡ 0 → {s n : ℕ} → s ≡ word ws 0 → n ≡ word ws 1
      → ((one : ℕ) → Some one ≡ right_size pool field.Name (s ∷ n ∷ []) → Some (1 + one) ≡ right_size pool field.ExternName ws)
      × (None ≡ right_size pool field.Name (s ∷ n ∷ []) → None ≡ right_size pool field.ExternName ws)
  unfolding right_size flaw named bytes
  plain_size e {s} {n} es en =
      let whole : right_size pool field.ExternName ws ≡ size_if (named pool ws 0) (suc (length (name pool (word ws 0) (word ws 1)))) =
      (λ i. size_if (plain-flaw pool ws e i) (length (plain_bytes (sym (slots_absent e)) refl refl refl i))) in
      let p = led_size (named pool ws 0) (length (name pool (word ws 0) (word ws 1))) in
      let same : right_size pool field.Name (s ∷ n ∷ []) ≡ right_size pool field.Name (word ws 0 ∷ word ws 1 ∷ []) =
      (λ i. right_size pool field.Name (es i ∷ en i ∷ [])) in
      (λ one h. p.0 one (h ∙ same) ∙ sym whole, λ h. p.1 (h ∙ same) ∙ sym whole)

  pub right_size_lem : is_right (flaw pool field.ExternName ws) ≡ true → {r : ℕ} → r ≡ extern_size ws → Some r ≡ right_size pool field.ExternName ws
  unfolding right_size size
  right_size_lem t er = let e = right_is (flaw pool field.ExternName ws) t in ap Some er ∙ sym (rw e (ap Some (size-right pool field.ExternName ws e)))

  pub wrong_size : is_right (flaw pool field.ExternName ws) ≡ false → None ≡ right_size pool field.ExternName ws
  unfolding right_size
  wrong_size e = wrong_none (flaw pool field.ExternName ws) _ e

  pub extern_bound : length pool ≤ 65536 → IfSome (right_size pool field.ExternName ws) (λ r. r ≤ 360471)
  unfolding right_size wide
  extern_bound few = go (flaw pool field.ExternName ws) refl
    where
      go : (x : Flaw) → flaw pool field.ExternName ws ≡ x → IfSome (size_if x (length (bytes pool field.ExternName ws))) (λ r. r ≤ 360471)
      go Right e = field_bound pool field.ExternName ws few e
      go (Err fault) e = tt

  -- ---- its names end within the pool

  slot_ends : (i : ℕ) → slot_inside pool ws i ≡ true → SlotInside pool ws i
  unfolding slot_inside
  slot_ends i e z = leb-true _ _ (simp (ne_eqb _ _ z) at e)

  slot_end : (i : ℕ) → SlotInside pool ws i → slot_inside pool ws i ≡ true
  unfolding slot_inside
  slot_end i h = go (eqb (word ws i) 0) refl
    where
      go : (b : Bool) → eqb (word ws i) 0 ≡ b → cond b true (leb (word ws (i + 1) + word ws (i + 2)) (length pool)) ≡ true
      go true e = refl
      go false e = le-leb _ _ (h (eqb-false _ _ e))

  inside_is : extern_inside pool ws ≡ true → ExternInside pool ws
  unfolding extern_inside
  inside_is e =
      let a = both_true (leb (word ws 0 + word ws 1) (length pool)) _ e in
      let b = both_true (slot_inside pool ws 2) _ a.1 in
      let c = both_true (slot_inside pool ws 5) _ b.1 in
      record { itself = leb-true _ _ a.0; implements = slot_ends 2 b.0; suffix = slot_ends 5 c.0; id = slot_ends 8 c.1 }

  is_inside_lem : ExternInside pool ws → extern_inside pool ws ≡ true
  unfolding extern_inside
  is_inside_lem h = rw (le-leb _ _ h.itself, slot_end 2 h.implements, slot_end 5 h.suffix, slot_end 8 h.id)

  part_name : extern_inside pool ws ≡ true → extern_part pool ws ≡ externname pool ws
  unfolding extern_part
  part_name e = rw e

  part_none : extern_inside pool ws ≡ false → extern_part pool ws ≡ []
  unfolding extern_part
  part_none e = rw e

  pub inside_size : extern_inside pool ws ≡ true → {r : ℕ} → r ≡ extern_size ws → r ≡ length (extern_part pool ws)
  inside_size e er = er ∙ sym (ap length (part_name e) ∙ extern_length pool ws (inside_is e))

  pub outside_size : extern_inside pool ws ≡ false → 0 ≡ length (extern_part pool ws)
  outside_size e = sym (ap length (part_none e))

  -- a name that is right is put whole
  pub extern_part_lem : flaw pool field.ExternName ws ≡ Right → extern_part pool ws ≡ externname pool ws
  extern_part_lem e = part_name (is_inside_lem (extern_inside_lem pool ws e))

  -- without options it is that of the name's two words
  pub bare_part : option_words ws ≡ 0 → {s n : ℕ} → s ≡ word ws 0 → n ≡ word ws 1 → extern_part pool (s ∷ n ∷ []) ≡ extern_part pool ws
  unfolding extern_part extern_inside slot_inside externname slots flag
  bare_part e es en =
      let x2 : word ws 2 ≡ 0 = omega arith in
      let x5 : word ws 5 ≡ 0 = omega arith in
      let x8 : word ws 8 ≡ 0 = omega arith in
      rw (es, en, x2, x5, x8)

  -- ---- it is stored

  some_inside : 0 < length (extern_part pool ws) → extern_inside pool ws ≡ true
  some_inside h = go (extern_inside pool ws) refl
    where
      go : (b : Bool) → extern_inside pool ws ≡ b → b ≡ true
      go true e = refl
      go false e = absurd (omega (arith, ap length (part_none e)))

  module _ (old : List ℕ) (at : ℕ) {all : ℕ} (ea : all ≡ length (extern_part pool ws)) where
    pub put_room : within all at (length old) ≡ true → ExternInside pool ws × (at + length (externname pool ws) ≤ length old)
    put_room t =
        let f = within-fits all at (length old) t in
        let e = some_inside (omega (arith, f.0)) in
        (inside_is e, omega (arith, f.1, ap length (part_name e)))

    pub put_stored : within all at (length old) ≡ true → {next : ℕ} {new : List ℕ} → Wrote old at (externname pool ws) next new
        → left (Ok all) new ≡ store (extern_part pool ws) at old
    put_stored t {next} {new} w =
        let f = within-fits all at (length old) t in
        let e = some_inside (omega (arith, f.0)) in
        (λ i. left (Ok (ea i)) ((w.content ∙ ap (λ l. sets old at l) (sym (part_name e))) i))
        ∙ sym (store-fits (extern_part pool ws) at old (omega (arith, f.1)))

    pub put_nothing_lem : all ≡ 0 → at ≤ length old → left (Ok 0) old ≡ store (extern_part pool ws) at old
    put_nothing_lem z h = rw (no_bytes (extern_part pool ws) (sym ea ∙ z)) (sym (store-fits [] at old (omega arith)))

    pub put_past : all ≡ 0 → length old < at → left (Room all) old ≡ store (extern_part pool ws) at old
    put_past z h = ap (λ n. left (Room n) old) ea ∙ sym (store-room (extern_part pool ws) at old (omega arith))

    pub put_none : within all at (length old) ≡ false → (all ≡ 0 → ⊥) → left (Room all) old ≡ store (extern_part pool ws) at old
    put_none t z =
        let n = within_not all at (length old) t (omega arith) in
        ap (λ k. left (Room k) old) ea ∙ sym (store-room (extern_part pool ws) at old (past (at + all) (length old) n (omega arith)))
      where
        past : (a b : ℕ) → (a ≤ b → ⊥) → {c : ℕ} → c ≡ a → b < c
        past a b n e = omega arith

-- ---- an extern name whose words stand at a place of a row

module _ (pool row : List ℕ) (at : ℕ) where
  pub extern_known : {r : ℕ} → Some r ≡ right_size pool field.ExternName (take (length row - at) (drop at row))
      → Known pool field.ExternName (drop at row) r
  extern_known e = known_of (e ∙ ap (λ l. right_size pool field.ExternName l) (to_end row at))

  pub extern_wrote : flaw pool field.ExternName (drop at row) ≡ Right
      → {old new : List ℕ} {to s : ℕ} {q : Stored} → left q new ≡ store (extern_part pool (take (length row - at) (drop at row))) to old
      → s ≡ value_of q → to + length (externname pool (drop at row)) ≤ length old
      → Wrote old to (externname pool (drop at row)) (to + s) new
  extern_wrote e {old} {new} {to} {s} d v room =
      let same = ap (λ l. extern_part pool l) (to_end row at) ∙ extern_part_lem pool (drop at row) e in
      wrote.of-store (d ∙ ap (λ l. store l to old) same) v room

-- ---- an extern name without options, by itself

module _ (pool : List ℕ) (s n : ℕ) where
  pub bare_past : length pool < s + n → extern_part pool (s ∷ n ∷ []) ≡ []
  unfolding extern_part extern_inside
  bare_past h = rw (lt-leb _ _ h)

  pub bare_inside : s + n ≤ length pool → extern_part pool (s ∷ n ∷ []) ≡ (0x00 ∷ unsigned n) ++ part_of pool s n
  unfolding extern_part extern_inside slot_inside externname slots flag
  bare_inside h = rw (le-leb _ _ h) (ap (λ l. 0x00 ∷ l) (sym (group.part_name pool s n h)))

  -- a byte, the length and the part, stored one after the other
  pub bare_stored : s + n ≤ length pool → (at : ℕ) (old : List ℕ) → at + (1 + length (unsigned n) + n) ≤ length old
      → {r q : Stored} {mid new : List ℕ} → left r mid ≡ store (unsigned n) (at + 1) (set old at 0x00)
      → left q new ≡ store (part_of pool s n) (at + (1 + length (unsigned n))) mid
      → (left (Ok (1 + length (unsigned n) + n)) new ≡ store (extern_part pool (s ∷ n ∷ [])) at old) × (length new ≡ length old)
  bare_stored h at old room {q = q} {mid = mid} {new = new} e d =
      let a : List ℕ = 0x00 ∷ unsigned n in
      let b = part_of pool s n in
      let more : length a ≡ 1 + length (unsigned n) = omega arith in
      let size : length b ≡ n = part_length pool s n h in
      let all : length (a ++ b) ≡ length a + n = length-append a b ∙ ap (λ k. length a + k) size in
      let one : mid ≡ sets old at a = group.byte_then old at 0x00 (unsigned n) {all = a} refl (omega arith) e in
      let first : left (Ok (length a)) mid ≡ store a at old = ap (λ l. left (Ok (length a)) l) one ∙ sym (store-fits a at old (omega arith)) in
      let behind : left q new ≡ store b (at + length a) mid = d ∙ ap (λ k. store b (at + k) mid) (sym more) in
      let whole : left (Ok (length a + n)) new ≡ store (a ++ b) at old = stored-then a b at old size (omega arith) first behind in
      let last : new ≡ sets old at (a ++ b) = ap (λ (x : Left). x.buffer) (whole ∙ store-fits (a ++ b) at old (omega (arith, all))) in (
        ap (λ k. left (Ok (k + n)) new) (sym more) ∙ whole ∙ ap (λ l. store l at old) (sym (bare_inside h)),
        ap length last ∙ length-sets old at (a ++ b),
      )

  -- and no room for them
  pub bare_none : s + n ≤ length pool → (at : ℕ) (old : List ℕ) → length old < at + (1 + length (unsigned n) + n)
      → left (Room (1 + length (unsigned n) + n)) old ≡ store (extern_part pool (s ∷ n ∷ [])) at old
  bare_none h at old room =
      let a : List ℕ = 0x00 ∷ unsigned n in
      let more : length a ≡ 1 + length (unsigned n) = omega arith in
      ap (λ k. left (Room (k + n)) old) (sym more) ∙ sym (store-none a (part_of pool s n) at old (part_length pool s n h) (omega arith))
      ∙ ap (λ l. store l at old) (sym (bare_inside h))
