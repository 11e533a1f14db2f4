-- Loops of straight reading that store the words of groups: what is due of the groups, stored where the loop stands, leaves what the
-- whole leaves; the words of a group, stored one by one; and the words of a name whose bytes were seen to be right.
use Rattle.std.specs.Prelude.{Err, Ok, Some, IsSome}
use Rattle.numbers.specs.declared.leb.Number.{Number}
use Prim.Native.Nat.{ℕ, suc, ◌+◌, ◌-◌, ◌*◌, ◌≤◌, ◌<◌, ◌^◌}
use native.Mathlib.Nat.{suc-mul}
use native.Mathlib.Numerals.{add-one}
use native.Mathlib.Omega.{arith}
use mathlib.Core.Path.{◌≡◌, refl, sym, ap, ◌∙◌, subst}
use mathlib.Core.Bool.{Bool, true, false, cond}
use mathlib.Core.List.{List, [], ◌∷◌, ◌++◌, append_assoc, append-nil}
use lib.Dec.{leb}
use lib.ListN.{length, take, drop, set, length-append, length-drop}
use lib.Seq.{sets, length-sets, drop-drop}
use Rattle.numbers.specs.Taken.{Taken}
use Rattle.numbers.specs.Taken as taken
use Rattle.numbers.specs.Integers.{u32}
use Rattle.numbers.specs.Leb.{take_unsigned}
use Rattle.numbers.specs.Seen.{seen}
use Rattle.numbers.specs.Text.{text, stop}
use Rattle.numbers.proofs.LebLaws.{taken-inside}
use Rattle.numbers.proofs.BytesLaws.{sets_append}
use Rattle.numbers.proofs.SeenLaws.{index-small}
use Rattle.fields.specs.declared.Field.{Field}
use Rattle.fields.specs.declared.Field.TheVariants as field
use Rattle.fields.specs.Leaf.{Leaf, Fine, Bad}
use Rattle.fields.specs.declared.Refusal.TheVariants.{Text}
use Rattle.reading.specs.Fill.{value_in, size_in, fill_name, fill}
use Rattle.fields.specs.Answers.{offset_of}
use Rattle.fields.specs.Words.{wide}
use Rattle.fields.specs.inside.Run.{along, makes}
use Rattle.reading.specs.Scan.{cut, named, scan_name, scan}
use Rattle.fields.specs.Shape.{repeated, widths}
use Rattle.fields.specs.Walk.{next, took}
use Rattle.reading.proofs.FilledLaws.{fill-length}
use Rattle.reading.proofs.ScanLaws.{Within, scan-within}
use Rattle.reading.specs.inside.Steps.{scans, fills, end_of}
use Rattle.fields.proofs.OutcomeLaws.{fine-same}
use Rattle.numbers.proofs.Impossible.{impossible}

-- ---- words stored

-- the same under another name
stored_as : (old : List ℕ) (to : ℕ) {a b new : List ℕ} → new ≡ sets old to a → a ≡ b → new ≡ sets old to b
stored_as old to e h = e ∙ ap (λ l. sets old to l) h

-- one run after another
stored-then : (old : List ℕ) (to next : ℕ) (a b : List ℕ) {mid new : List ℕ} → next ≡ to + length a → mid ≡ sets old to a
    → new ≡ sets mid next b → new ≡ sets old to (a ++ b)
stored-then old to next a b {mid} {new} en em eb = rw (sym (sets_append a b old to), sym en, sym em) eb

-- ---- a run of fields, one by one

-- a field that is right at `at` of the input: it takes t bytes, which are there, and makes m words
pub record Stands (g : ℕ) (input : List ℕ) (f : Field) (at : ℕ) : Type 0 where
  pub t : ℕ
  pub m : ℕ
  pub is : scan 1 g f (drop at input) ≡ Fine t m
  pub within : t ≤ length (drop at input)
  pub ends : at + t ≤ length input

module _ (g : ℕ) (input : List ℕ) where
  -- past a field that is right stands the rest of the run, and its words
  scans_step : (f : Field) (fs : List Field) (at made t m : ℕ) → scan 1 g f (drop at input) ≡ Fine t m
      → scans g input (f ∷ fs) at made ≡ scans g input fs (at + t) (made + m)
  unfolding along
  scans_step f fs at made t m e =
      ap (λ l. next l (λ t m. along (scan 1 g) fs (drop t (drop at input)) (at + t) (made + m)) at) e
      ∙ ap (λ l. along (scan 1 g) fs l (at + t) (made + m)) (drop-drop t at input)

  fills_step : (f : Field) (fs : List Field) (at t m : ℕ) → scan 1 g f (drop at input) ≡ Fine t m
      → fills g input (f ∷ fs) at ≡ fill g f at (drop at input) ++ fills g input fs (at + t)
  unfolding makes
  fills_step f fs at t m e =
      ap (λ l. fill g f at (drop at input) ++ makes (scan 1 g) (fill g) fs (at + took l) (drop (took l) (drop at input))) e
      ∙ ap (λ l. fill g f at (drop at input) ++ makes (scan 1 g) (fill g) fs (at + t) l) (drop-drop t at input)

  -- where a run ends does not hang on the words made before it
  end_same : (fs : List Field) (at a b : ℕ) → end_of (scans g input fs at a) ≡ end_of (scans g input fs at b)
  unfolding along end_of
  end_same [] at a b = refl
  end_same (f ∷ fs) at a b = go (scan 1 g f (drop at input)) (λ t m. end_same fs (at + t) (a + m) (b + m))
    where
      go : (l : Leaf)
          → ((t m : ℕ) → end_of (along (scan 1 g) fs (drop (at + t) input) (at + t) (a + m))
          ≡ end_of (along (scan 1 g) fs (drop (at + t) input) (at + t) (b + m)))
          → end_of (next l (λ t m. along (scan 1 g) fs (drop t (drop at input)) (at + t) (a + m)) at)
          ≡ end_of (next l (λ t m. along (scan 1 g) fs (drop t (drop at input)) (at + t) (b + m)) at)
      go (Ok span) ih = rw (drop-drop span.took at input) (ih span.took span.made)
      go (Err fault) ih = refl

  -- past a field that is right the rest is right
  right_step : (f : Field) (fs : List Field) (at t m : ℕ) → IsSome (end_of (scans g input (f ∷ fs) at 0)) → scan 1 g f (drop at input) ≡ Fine t m
      → IsSome (end_of (scans g input fs (at + t) 0))
  right_step f fs at t m h e =
      let same : end_of (scans g input (f ∷ fs) at 0) ≡ end_of (scans g input fs (at + t) 0) =
      ap end_of (scans_step f fs at 0 t m e) ∙ end_same fs (at + t) (0 + m) 0 in
      subst (λ k. IsSome k) same h

  -- the first field of a run that is right is right
  right_first : (f : Field) (fs : List Field) (at : ℕ) → IsSome (end_of (scans g input (f ∷ fs) at 0)) → at ≤ length input → Stands g input f at
  unfolding along end_of
  right_first f fs at h b = go (scan 1 g f (drop at input)) refl (scan-within 1 g f (drop at input)) h
    where
      go : (l : Leaf) → scan 1 g f (drop at input) ≡ l → Within l (length (drop at input)) (wide f)
          → IsSome (end_of (next l (λ t m. along (scan 1 g) fs (drop t (drop at input)) (at + t) (0 + m)) at)) → Stands g input f at
      go (Ok span) e w h =
          record { t = span.took; m = span.made; is = e; within = w.0; ends = omega (arith, w.0, length-drop at input) }
      go (Err fault) e b h = impossible cc

-- ---- groups that a loop stores: `due` are still to be stored, from `at` of the input on, at `to` of the row

pub record Filling (g : ℕ) (input : List ℕ) (gs : List Field) (n from : ℕ) (first : List ℕ) (base due at to : ℕ) (row : List ℕ)
    : Type 0 where
  pub right : IsSome (end_of (scans g input (repeated due gs) at 0))
  pub inside : at ≤ length input
  pub room : to + due * widths gs ≤ length row
  pub same_size : length row ≡ length first
  pub whole : (last : List ℕ) → last ≡ sets row to (fills g input (repeated due gs) at)
      → last ≡ sets first base (fills g input (repeated n gs) from)

module _ {g : ℕ} {input : List ℕ} {gs : List Field} {n from : ℕ} {first : List ℕ} {base : ℕ} where
  -- before the first group
  pub filling_start : from ≤ length input → base + n * widths gs ≤ length first → IsSome (end_of (scans g input (repeated n gs) from 0))
      → Filling g input gs n from first base n from base first
  filling_start h b r = record { right = r; inside = h; room = b; same_size = refl; whole = λ last w. w }

  -- past the last group
  pub filling_end : {due at to : ℕ} {row : List ℕ} → Filling g input gs n from first base due at to row → due ≤ 0
      → row ≡ sets first base (fills g input (repeated n gs) from)
  unfolding repeated makes
  filling_end {due} {at} {to} {row} k h =
      let e : 0 ≡ due = omega arith in
      k.whole row (ap (λ j. sets row to (fills g input (repeated j gs) at)) e)

  -- the same count under another name
  pub filling_due : {due due' at to : ℕ} {row : List ℕ} → Filling g input gs n from first base due at to row → due ≡ due'
      → Filling g input gs n from first base due' at to row
  filling_due {at = at} {to} {row} k e = subst (λ d. Filling g input gs n from first base d at to row) e k

  -- the same places under other names
  pub filling_as : {due at to at' to' : ℕ} {row : List ℕ} → Filling g input gs n from first base due at to row → at ≡ at' → to ≡ to'
      → Filling g input gs n from first base due at' to' row
  filling_as {due} {at} {to} {at'} {to'} {row} k ea et =
      subst (λ j. Filling g input gs n from first base due at' j row) et
      (subst (λ j. Filling g input gs n from first base due j to row) ea k)

module _ {g : ℕ} {input : List ℕ} {f h : Field} {n from : ℕ} {first : List ℕ} {base : ℕ} where
  -- the groups that are due, the first of them by its fields
  left_right : {due at to : ℕ} {row : List ℕ} → Filling g input (f ∷ h ∷ []) n from first base due at to row → 0 < due
      → IsSome (end_of (scans g input (f ∷ (h ∷ repeated (due - 1) (f ∷ h ∷ []))) at 0))
  unfolding repeated
  left_right {due} {at} k some =
      let p : due ≡ suc (due - 1) = omega arith in
      subst (λ j. IsSome (end_of (scans g input (repeated j (f ∷ h ∷ [])) at 0))) p k.right

  -- the first field of the next group is right
  pub filling_first : {due at to : ℕ} {row : List ℕ} → Filling g input (f ∷ h ∷ []) n from first base due at to row → 0 < due
      → Stands g input f at
  filling_first {due} {at} k some = right_first g input f (h ∷ repeated (due - 1) (f ∷ h ∷ [])) at (left_right k some) k.inside

  -- and the second
  pub filling_second : {due at to t m : ℕ} {row : List ℕ} → Filling g input (f ∷ h ∷ []) n from first base due at to row → 0 < due
      → scan 1 g f (drop at input) ≡ Fine t m → Stands g input h (at + t)
  filling_second {due} {at} {to} {t} {m} k some e =
      right_first g input h (repeated (due - 1) (f ∷ h ∷ [])) (at + t)
      (right_step g input f (h ∷ repeated (due - 1) (f ∷ h ∷ [])) at t m (left_right k some) e) inside
    where
      inside : at + t ≤ length input
      inside =
          let w = subst (λ l. Within l (length (drop at input)) (wide f)) e (scan-within 1 g f (drop at input)) in
          omega (arith, w.0, length-drop at input, k.inside)

  -- past a group of two fields: its words are stored, and the rest is due
  filling_on : (j : ℕ) {at to t m u v : ℕ} {row : List ℕ} → Filling g input (f ∷ h ∷ []) n from first base (suc j) at to row
      → scan 1 g f (drop at input) ≡ Fine t m → scan 1 g h (drop (at + t) input) ≡ Fine u v → at + t + u ≤ length input → (new : List ℕ)
      → new ≡ sets row to (fill g f at (drop at input) ++ fill g h (at + t) (drop (at + t) input))
      → Filling g input (f ∷ h ∷ []) n from first base j (at + t + u) (to + widths (f ∷ h ∷ [])) new
  unfolding repeated widths
  filling_on j {at} {to} {t} {m} {u} {v} {row} k e d b new w =
      record {
        right = right_step g input h rest (at + t) u v (right_step g input f (h ∷ rest) at t m k.right e) d;
        inside = b;
        room = omega (arith, k.room, same, suc-mul j (widths (f ∷ h ∷ [])));
        same_size = same ∙ k.same_size;
        whole = λ last q. k.whole last (stored_as row to (stored-then row to _ (one ++ two) more place w q) joins);
      }
    where
      rest : List Field
      rest = repeated j (f ∷ h ∷ [])

      one : List ℕ
      one = fill g f at (drop at input)

      two : List ℕ
      two = fill g h (at + t) (drop (at + t) input)

      more : List ℕ
      more = fills g input rest (at + t + u)

      same : length new ≡ length row
      same = ap length w ∙ length-sets row to (one ++ two)

      place : to + widths (f ∷ h ∷ []) ≡ to + length (one ++ two)
      place = omega (arith, length-append one two, fill-length g f at (drop at input), fill-length g h (at + t) (drop (at + t) input))

      joins : (one ++ two) ++ more ≡ fills g input (f ∷ (h ∷ rest)) at
      joins =
          append_assoc one two more ∙ ap (λ l. one ++ l) (sym (fills_step g input h rest (at + t) u v d))
          ∙ sym (fills_step g input f (h ∷ rest) at t m e)

  pub filling_next : {due at to t m u k : ℕ} {row : List ℕ} → Filling g input (f ∷ h ∷ []) n from first base due at to row → 0 < due
      → scan 1 g f (drop at input) ≡ Fine t m → scan 1 g h (drop (at + t) input) ≡ Fine u k → (new : List ℕ)
      → new ≡ sets row to (fill g f at (drop at input) ++ fill g h (at + t) (drop (at + t) input))
      → Filling g input (f ∷ h ∷ []) n from first base (due - 1) (at + t + u) (to + widths (f ∷ h ∷ [])) new
  filling_next {due} {at} {to} {t} {m} {u} {k} {row} c some e d new w =
      let p : due ≡ suc (due - 1) = omega arith in
      filling_on (due - 1) (subst (λ j. Filling g input (f ∷ h ∷ []) n from first base j at to row) p c) e d inside new w
    where
      inside : at + t + u ≤ length input
      inside =
          let x = subst (λ l. Within l (length (drop (at + t) input)) (wide h)) d (scan-within 1 g h (drop (at + t) input)) in
          omega (arith, x.0, length-drop (at + t) input, (filling_second c some e).ends)

-- past a group of one field
pub filling_alone : {g : ℕ} {input : List ℕ} {f : Field} {n from : ℕ} {first : List ℕ} {base due at to t m : ℕ} {row : List ℕ}
    → Filling g input (f ∷ field.Nothing ∷ []) n from first base due at to row → 0 < due → scan 1 g f (drop at input) ≡ Fine t m
    → (new : List ℕ) → new ≡ sets row to (fill g f at (drop at input))
    → Filling g input (f ∷ field.Nothing ∷ []) n from first base (due - 1) (at + t) (to + widths (f ∷ field.Nothing ∷ [])) new
unfolding scan fill
filling_alone {g} {input} {f} {at = at} {to} {t} {m} {row} k some e new w =
    let here : at + t + 0 ≡ at + t = omega arith in
    let stored = stored_as row to w (sym (append-nil (fill g f at (drop at input)))) in
    filling_as (filling_next {u = 0} {k = 0} k some e refl new stored) here refl

-- ---- words stored one by one

pub set-two : (row : List ℕ) (to a b : ℕ) → set (set row to a) (to + 1) b ≡ sets row to (a ∷ b ∷ [])
set-two row to a b = rw add-one

pub set_four : (row : List ℕ) (to a b c d : ℕ)
    → set (set (set (set row to a) (to + 1) b) (to + 2) c) (to + 3) d ≡ sets row to (a ∷ b ∷ c ∷ d ∷ [])
set_four row to a b c d =
    let two : to + 2 ≡ suc (suc to) = omega arith in
    let three : to + 3 ≡ suc (suc (suc to)) = omega arith in
    rw (add-one, two, three)

-- ---- a name that is right: its length is seen

pub name_seen : (g : ℕ) (bs : List ℕ) (t m : ℕ) → scan 1 g field.Name bs ≡ Fine t m → IsSome (seen (take_unsigned bs))
unfolding scan scan_name
name_seen g bs t m e = go (take_unsigned bs) e
  where
    go : (x : Taken) → named bs x ≡ Fine t m → IsSome (seen x)
    go (Ok got) e = refl
    go taken.Cut e = impossible cc
    go taken.Bad e = impossible cc

-- it has 1 to 5 bytes, and the name's words are its start and its length
pub name_words : (g at : ℕ) (bs : List ℕ) (t m : ℕ) → scan 1 g field.Name bs ≡ Fine t m → (r : Number) → seen (take_unsigned bs) ≡ Some r
    → (0 < r.took) × (r.took ≤ 5) × (r.value < 2 ^ 32) × (t ≡ r.took + r.value)
    × (fill g field.Name at bs ≡ (at + r.took) ∷ r.value ∷ [])
unfolding scan scan_name fill fill_name
name_words g at bs t m e r d = go (take_unsigned bs) refl e d
  where
    fits : (n k byte : ℕ) (p q : Bool) → cond p (cond q (Fine (k + n) 2) (Bad (Text (offset_of byte)) k)) (cut bs) ≡ Fine t m → t ≡ k + n
    fits n k byte true true e = sym (fine-same e).0
    fits n k byte true false e = impossible cc
    fits n k byte false q e = impossible cc

    go : (x : Taken) → take_unsigned bs ≡ x → named bs x ≡ Fine t m → seen x ≡ Some r
        → (0 < r.took) × (r.took ≤ 5) × (r.value < 2 ^ 32) × (t ≡ r.took + r.value)
        × ((at + (0 + size_in x)) ∷ value_in x ∷ [] ≡ (at + r.took) ∷ r.value ∷ [])
    go (Ok got) x e d =
        let b = taken-inside u32 bs got.value got.took x in
        let start : at + (0 + got.took) ≡ at + got.took = omega arith in
        let same : got ≡ r = cc in
        subst (λ (y : Number). (0 < y.took) × (y.took ≤ 5) × (y.value < 2 ^ 32) × (t ≡ y.took + y.value)
        × ((at + (0 + got.took)) ∷ got.value ∷ [] ≡ (at + y.took) ∷ y.value ∷ [])) same
        (b.0, b.1, index-small bs got.value got.took x, fits got.value got.took (stop (take got.value (drop got.took bs))) (leb (got.took + got.value) (length bs)) (text (take got.value (drop got.took bs))) e, ap (λ j. j ∷ got.value ∷ []) start)
    go taken.Cut x e d = impossible cc
    go taken.Bad x e d = impossible cc
