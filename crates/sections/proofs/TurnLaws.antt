-- What a turn leaves: a refusal changes nothing, and an accepted turn stores its bytes behind the used part and grows the state by them.
use Rattle.std.specs.Prelude.{Ok, Err}
use Prim.Native.Nat.{ℕ, ◌+◌, ◌≤◌}
use native.Mathlib.Omega.{arith}
use mathlib.Core.Path.{◌≡◌, refl, sym, ap, ◌∙◌, subst}
use mathlib.Core.Bool.{Bool, true, false, cond}
use mathlib.Core.List.{List, [], ◌∷◌, ◌++◌}
use borrow.Author.Tests.{ltb-false, leb-true, eqb-true}
use lib.Dec.{eqb, ltb, leb}
use lib.ListN.{length, length-append}
use lib.Seq.{sets, length-sets}
use Rattle.numbers.proofs.BytesLaws.{sets_append}
use Rattle.fields.specs.Answer.{Answer, Refused}
use Rattle.fields.specs.declared.Refusal.{Refusal}
use Rattle.fields.specs.declared.Refusal.TheVariants as refusal
use Rattle.fields.specs.declared.Shape.{Shape}
use Rattle.fields.specs.Answers.{left}
use Rattle.writing.specs.Write.{written, measured, stored, write_shape}
use Rattle.writing.proofs.AnswerLaws.{measured_sized}
use Rattle.writing.proofs.WholeLaws.{size_is_length}
use Rattle.types.specs.Write.{head_shape, result_shape}
use Rattle.sections.specs.declared.Phase.{Phase}
use Rattle.sections.specs.declared.Phase.TheVariants.{Closed, Opened, Headed}
use Rattle.sections.specs.declared.Section.{Section}
use Rattle.sections.specs.Section.{family_bytes, measured_family, opened, holds, sounds}
use Rattle.sections.specs.Steps.{Turn, turned, refused, refuse, taken, wrote, head_in, result_in, rowing, opening, heading, resulting}
use Rattle.sections.specs.Runs.{Accepted}
use Rattle.sections.proofs.FamilyLaws.{family-stored, family-size}

-- ---- one turn

-- a turn refuses and changes nothing, or stores bytes behind the used part; r is the size that was found for them
pub data Turns (s : Section) (body : List ℕ) (r : Answer) (bs : List ℕ) (count : ℕ) (phase : Phase) : Turn → Type 0 where
  refuses : (w : Refusal) (n : ℕ) → Turns s body r bs count phase (turned (refused s w n) body)
  stores : r ≡ Ok (length bs) → s.used + length bs ≤ length body
      → Turns s body r bs count phase (turned (taken s (Ok (length bs)) count phase) (sets body s.used bs))

-- the section t over `new` is the section s over `body` with bytes behind the used part, and with that count and phase
pub record Grows (s : Section) (body bs : List ℕ) (count : ℕ) (phase : Phase) (t : Section) (new : List ℕ) : Type 0 where
  pub room : s.used + length bs ≤ length body
  pub family : t.family ≡ s.family
  pub used : t.used ≡ s.used + length bs
  pub counts : t.count ≡ count
  pub stands : t.phase ≡ phase
  pub content : new ≡ sets body s.used bs

module _ {s : Section} {body : List ℕ} {r : Answer} {bs : List ℕ} {count : ℕ} {phase : Phase} where
  pub accepted_size : {t : Turn} → Turns s body r bs count phase t → Accepted t → r ≡ Ok (length bs)
  accepted_size (refuses w n) a = absurd a
  accepted_size (stores e h) a = e

  pub accepted_grows : {t : Turn} → Turns s body r bs count phase t → Accepted t → Grows s body bs count phase t.gave.section t.body
  accepted_grows (refuses w n) a = absurd a
  accepted_grows (stores e h) a =
      record { room = h; family = refl; used = refl; counts = refl; stands = refl; content = refl }

-- bytes and then bytes
pub grows_then : {s t u : Section} {body new end front back : List ℕ} {c d : ℕ} {p q : Phase}
    → Grows s body front c p t new → Grows t new back d q u end → Grows s body (front ++ back) d q u end
grows_then {s} {t} {u} {body} {new} {end} {front} {back} g h =
    record {
      room = omega (arith, h.room, g.used, ap length g.content ∙ length-sets body s.used front, length-append front back);
      family = h.family ∙ g.family;
      used = omega (arith, h.used, g.used, length-append front back);
      counts = h.counts;
      stands = h.stands;
      content = h.content ∙ rw (g.content, g.used) (sets_append front back body s.used);
    }

-- ---- what each step does

-- what holds both ways holds of a test
pub either : (P : Turn → Type 0) (b : Bool) (x y : Turn) → P x → P y → P (cond b x y)
either P true x y h k = h
either P false x y h k = k

module _ {s : Section} {body : List ℕ} {r : Answer} {bs : List ℕ} {count : ℕ} {phase : Phase} where
  -- a test that refuses, and one that lets through
  unless : (b : Bool) (w : Refusal) {t : Turn} → Turns s body r bs count phase t → Turns s body r bs count phase (cond b (refuse s w body) t)
  unless b w {t} k = either (Turns s body r bs count phase) b (refuse s w body) t (refuses w 0) k

  when : (b : Bool) (w : Refusal) {t : Turn} → Turns s body r bs count phase t → Turns s body r bs count phase (cond b t (refuse s w body))
  when b w {t} k = either (Turns s body r bs count phase) b t (refuse s w body) k (refuses w 0)

  -- the state can stand over the body, so its used part is no longer
  when_sound : {t : Turn} → (s.used ≤ length body → Turns s body r bs count phase t)
      → Turns s body r bs count phase (cond (sounds s (length body)) t (refuse s refusal.Limit body))
  unfolding sounds
  when_sound {t} k = go (ltb (length body) s.used) refl
    where
      go : (b : Bool) → ltb (length body) s.used ≡ b
          → Turns s body r bs count phase (cond (cond b false (holds s.phase s)) t (refuse s refusal.Limit body))
      go true e = refuses refusal.Limit 0
      go false e = when (holds s.phase s) refusal.Limit (k (ltb-false _ _ e))

wrote-turns : (s : Section) (body : List ℕ) (r : Answer) (bs : List ℕ) (count : ℕ) (phase : Phase) → ((size : ℕ) → r ≡ Ok size → size ≡ length bs)
    → Turns s body r bs count phase (wrote s count phase (stored r bs body s.used))
unfolding stored
wrote-turns s body (Ok m) bs count phase same = go (leb (s.used + m) (length body)) refl
  where
    go : (b : Bool) → leb (s.used + m) (length body) ≡ b
        → Turns s body (Ok m) bs count phase (wrote s count phase (cond b (left (Ok m) (sets body s.used bs)) (left (Refused refusal.Room m) body)))
    go true e =
        let n : length bs ≡ m = sym (same m refl) in
        let h : s.used + m ≤ length body = leb-true _ _ e in
        subst (λ k. Turns s body (Ok m) bs count phase (turned (taken s (Ok k) count phase) (sets body s.used bs))) n
        (stores (ap Ok (sym n)) (omega arith))
    go false e = refuses refusal.Room m
wrote-turns s body (Err fault) bs count phase same = refuses fault.why fault.value

-- the words of a shape
pub shape_turns : (s : Section) (body : List ℕ) (count : ℕ) (phase : Phase) (shape : Shape) (words pool : List ℕ)
    → Turns s body (measured shape words 0 pool) (written shape pool words 0) count phase
    (wrote s count phase (write_shape shape words 0 pool body s.used))
unfolding write_shape
shape_turns s body count phase shape words pool =
    wrote-turns s body (measured shape words 0 pool) (written shape pool words 0) count phase
    (λ size e. size_is_length (measured_sized shape words 0 pool refl size e))

module _ (s : Section) (body : List ℕ) where
  pub row_turns : (row pool : List ℕ)
      → Turns s body (measured_family s.family row pool) (family_bytes s.family pool row) (s.count + 1) Closed (rowing s row pool body)
  unfolding rowing
  row_turns row pool =
      when_sound
      (λ h. unless (ltb 16384 (length row)) refusal.Limit
      (unless (ltb 65536 (length pool)) refusal.Limit
      (unless (opened s.phase) refusal.Order
      (unless (eqb s.count 4294967295) refusal.Count
      (rw family-stored
      (wrote-turns s body (measured_family s.family row pool) (family_bytes s.family pool row) (s.count + 1) Closed
      (family-size s.family row pool)))))))

  pub open_turns : Turns s body (Ok 0) [] (s.count + 1) (Opened s.used) (opening s body)
  unfolding opening
  open_turns =
      when_sound
      (λ h. unless (opened s.phase) refusal.Order
      (unless (eqb s.count 4294967295) refusal.Count
      (when (eqb s.family 7) refusal.Kind (stores refl (omega arith)))))

  -- only a section of types opens an entry
  pub open_family : Accepted (opening s body) → s.family ≡ 7
  unfolding opening
  open_family a =
      go (sounds s (length body)) (opened s.phase) (eqb s.count 4294967295) (eqb s.family 7) refl a
    where
      go : (b c d e : Bool) → eqb s.family 7 ≡ e
          → Accepted (cond b
          (cond c (refuse s refusal.Order body)
          (cond d (refuse s refusal.Count body)
          (cond e (turned (taken s (Ok 0) (s.count + 1) (Opened s.used)) body) (refuse s refusal.Kind body))))
          (refuse s refusal.Limit body))
          → s.family ≡ 7
      go true false false true p a = eqb-true _ _ p
      go true false false false p a = absurd a
      go true false true e p a = absurd a
      go true true d e p a = absurd a
      go false c d e p a = absurd a

  -- the steps of an open entry, each in its turn
  module _ {start : ℕ} where
    pub head_turns : s.phase ≡ Opened start → (words pool : List ℕ)
        → Turns s body (measured head_shape words 0 pool) (written head_shape pool words 0) s.count (Headed start) (heading s words pool body)
    unfolding heading
    head_turns p words pool =
        rw (ap (λ q. head_in q s words pool body) p)
        (when_sound
        (λ h. unless (ltb 16384 (length words)) refusal.Limit
        (unless (ltb 65536 (length pool)) refusal.Limit (shape_turns s body s.count (Headed start) head_shape words pool))))

    pub result_turns : s.phase ≡ Headed start → (tag x : ℕ)
        → Turns s body (measured result_shape (tag ∷ x ∷ []) 0 []) (written result_shape [] (tag ∷ x ∷ []) 0) s.count Closed (resulting s tag x body)
    unfolding resulting
    result_turns p tag x = rw (ap (λ q. result_in q s tag x body) p) (when_sound (λ h. shape_turns s body s.count Closed result_shape (tag ∷ x ∷ []) []))
