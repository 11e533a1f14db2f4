-- A step that was refused for room left all as it was, and is accepted over a body that has the room that it named.
use Rattle.std.specs.Prelude.{Ok, Err}
use Prim.Native.Nat.{ℕ, ◌+◌, ◌≤◌}
use native.Mathlib.Omega.{arith}
use mathlib.Core.Path.{◌≡◌, sym, ap, ◌∙◌, subst}
use mathlib.Core.Bool.{Bool, true, false, cond}
use mathlib.Core.List.{List, [], ◌∷◌}
use borrow.Author.Tests.{le-ltb, le-leb}
use lib.Dec.{eqb, ltb, leb}
use lib.ListN.{length}
use lib.Seq.{sets}
use Rattle.fields.specs.Answer.{Answer, Refused}
use Rattle.fields.specs.declared.Refusal.{Refusal}
use Rattle.fields.specs.declared.Refusal.TheVariants as refusal
use Rattle.fields.specs.declared.Shape.{Shape}
use Rattle.fields.specs.Answers.{Left, left}
use Rattle.writing.specs.Write.{written, measured, stored, write_shape}
use Rattle.fields.specs.Answers as answers
use Rattle.fields.proofs.OutcomeLaws.{refused-same}
use Rattle.types.specs.Write.{head_shape, result_shape}
use Rattle.sections.specs.declared.Phase.{Phase}
use Rattle.sections.specs.declared.Phase.TheVariants.{Closed, Opened, Headed}
use Rattle.sections.specs.declared.Section.{Section}
use Rattle.sections.specs.Runs.{Step, Row, Open, Head, Result, Abandon, turn}
use Rattle.sections.specs.Section.{family_bytes, measured_family, opened, holds, sounds, write_family}
use Rattle.sections.specs.Steps.{Turn, turned, refused, refuse, taken, wrote, head_in, result_in, abandon_in, rowing, opening, heading, resulting, abandoning}
use Rattle.sections.proofs.FamilyLaws.{family-stored}
use Rattle.claims.proofs.Families.{on_family}
use Rattle.claims.proofs.NumberLaws.{Tells, any_shape, measured_why, measured-row_why}
use Rattle.numbers.proofs.Impossible.{impossible}

-- ---- what is measured is never refused for room

abbrev Other : Refusal → Type 0
Other refusal.Room = ⊥
Other refusal.Limit = Unit {0}
Other refusal.Kind = Unit {0}
Other refusal.Row = Unit {0}
Other refusal.Tag = Unit {0}
Other refusal.Range = Unit {0}
Other (refusal.Text offset) = Unit {0}
Other refusal.TooBig = Unit {0}
Other refusal.Order = Unit {0}
Other refusal.Count = Unit {0}
Other refusal.Cut = Unit {0}
Other refusal.Code = Unit {0}
Other refusal.Number = Unit {0}
Other refusal.Newer = Unit {0}
Other refusal.Sheet = Unit {0}
Other refusal.Frame = Unit {0}

measured-other : (shape : Shape) (row : List ℕ) (start : ℕ) (pool : List ℕ) → Tells Other (measured shape row start pool)
measured-other shape row start pool = measured_why Other shape row start pool (any_shape Other tt tt tt tt (λ byte. tt) shape row start pool)

family-other : (family : ℕ) (row pool : List ℕ) → Tells Other (measured_family family row pool)
family-other family row pool =
    on_family (Tells Other) family row pool
    (λ found.
    measured-row_why Other found row pool
    (record { limit = tt; kind = λ e. tt; empty = tt; shape = λ s e. any_shape Other tt tt tt tt (λ byte. tt) s row 1 pool }))
    tt

-- ---- a step as a function of the body

record Again (s : Section) (body : List ℕ) (t : List ℕ → Turn) : Type 0 where
  tries : (n : ℕ) → (t body).gave.answer ≡ Refused refusal.Room n
      → (t body ≡ turned (refused s refusal.Room n) body) × ((new : List ℕ) → s.used + n ≤ length new → (t new).gave.answer ≡ Ok n)

module _ (s : Section) (body : List ℕ) where
  refuse_again : (w : Refusal) → Other w → Again s body (refuse s w)
  refuse_again w o = record { tries = λ n e. absurd (subst Other (refused-same e).0 o) }

  -- a test that does not look at the body, and refuses; one that says whether the section can stand over it
  unless_again : (b : Bool) (w : Refusal) {t : List ℕ → Turn} → Other w → Again s body t → Again s body (λ x. cond b (refuse s w x) (t x))
  unless_again true w o k = refuse_again w o
  unless_again false w o k = k

  sound_again : {t : List ℕ → Turn} → Again s body t → Again s body (λ x. cond (sounds s (length x)) (t x) (refuse s refusal.Limit x))
  unfolding sounds
  sound_again {t} k = record { tries = λ n e. go n (ltb (length body) s.used) (holds s.phase s) e }
    where
      over : Bool → Bool → Turn → List ℕ → Turn
      over b c x y = cond (cond b false c) x (refuse s refusal.Limit y)

      go : (n : ℕ) (b c : Bool) → (over b c (t body) body).gave.answer ≡ Refused refusal.Room n
          → (over b c (t body) body ≡ turned (refused s refusal.Room n) body)
          × ((new : List ℕ) → s.used + n ≤ length new → (over (ltb (length new) s.used) c (t new) new).gave.answer ≡ Ok n)
      go n false true e =
          let h = k.tries n e in
          (h.0, λ new room. ap (λ b. (over b true (t new) new).gave.answer) (le-ltb (length new) s.used (omega (arith, room))) ∙ h.1 new room)
      go n false false e = let why = (refused-same e).0 in impossible cc
      go n true c e = let why = (refused-same e).0 in impossible cc

  -- what is stored behind the used part
  stored_again : (r : Answer) (bs : List ℕ) (count : ℕ) (phase : Phase) → Tells Other r
      → Again s body (λ x. wrote s count phase (stored r bs x s.used))
  unfolding stored
  stored_again (Ok m) bs count phase o = record { tries = λ n e. go n (leb (s.used + m) (length body)) e }
    where
      at : Bool → List ℕ → Turn
      at b x = wrote s count phase (cond b (left (Ok m) (sets x s.used bs)) (answers.refuse refusal.Room m x))

      go : (n : ℕ) (b : Bool) → (at b body).gave.answer ≡ Refused refusal.Room n
          → (at b body ≡ turned (refused s refusal.Room n) body)
          × ((new : List ℕ) → s.used + n ≤ length new → (at (leb (s.used + m) (length new)) new).gave.answer ≡ Ok n)
      go n true e = impossible cc
      go n false e =
          let q = (refused-same e).1 in (
            ap (λ k. turned (refused s refusal.Room k) body) q,
            λ new room. ap (λ b. (at b new).gave.answer) (le-leb (s.used + m) (length new) (omega (arith, room, q))) ∙ ap Ok q,
          )
  stored_again (Err fault) bs count phase o = record { tries = λ n e. absurd (subst Other (refused-same e).0 o) }

  wrote_again : (r : Answer) (bs : List ℕ) (l : List ℕ → Left) (count : ℕ) (phase : Phase) → Tells Other r
      → ((x : List ℕ) → l x ≡ stored r bs x s.used) → Again s body (λ x. wrote s count phase (l x))
  wrote_again r bs l count phase o e =
      subst (Again s body) (λ i x. wrote s count phase (sym (e x) i)) (stored_again r bs count phase o)

  shape_again : (shape : Shape) (words pool : List ℕ) (count : ℕ) (phase : Phase)
      → Again s body (λ x. wrote s count phase (write_shape shape words 0 pool x s.used))
  unfolding write_shape
  shape_again shape words pool count phase =
      stored_again (measured shape words 0 pool) (written shape pool words 0) count phase (measured-other shape words 0 pool)

  -- ---- each step

  head_again : (words pool : List ℕ) (p : Phase) → Again s body (head_in p s words pool)
  head_again words pool Closed = refuse_again refusal.Order tt
  head_again words pool (Opened start) = shape_again head_shape words pool s.count (Headed start)
  head_again words pool (Headed start) = refuse_again refusal.Order tt

  result_again : (tag x : ℕ) (p : Phase) → Again s body (result_in p s tag x)
  result_again tag x Closed = refuse_again refusal.Order tt
  result_again tag x (Opened start) = refuse_again refusal.Order tt
  result_again tag x (Headed start) = shape_again result_shape (tag ∷ x ∷ []) [] s.count Closed

  abandon_again : (p : Phase) → Again s body (abandon_in p s)
  abandon_again Closed = refuse_again refusal.Order tt
  abandon_again (Opened start) = record { tries = λ n e. impossible cc }
  abandon_again (Headed start) = record { tries = λ n e. impossible cc }

  types_again : (b : Bool) → Again s body (λ x. cond b (turned (taken s (Ok 0) (s.count + 1) (Opened s.used)) x) (refuse s refusal.Kind x))
  types_again true = record { tries = λ n e. impossible cc }
  types_again false = refuse_again refusal.Kind tt

  turn_again : (k : Step) → Again s body (turn k s)
  unfolding rowing opening heading resulting abandoning
  turn_again (Row row pool) =
      sound_again
      (unless_again (ltb 16384 (length row)) refusal.Limit tt
      (unless_again (ltb 65536 (length pool)) refusal.Limit tt
      (unless_again (opened s.phase) refusal.Order tt
      (unless_again (eqb s.count 4294967295) refusal.Count tt
      (wrote_again (measured_family s.family row pool) (family_bytes s.family pool row) (λ x. write_family s.family row pool x s.used)
      (s.count + 1) Closed (family-other s.family row pool) (λ x. family-stored s.family row pool x s.used))))))
  turn_again Open =
      sound_again
      (unless_again (opened s.phase) refusal.Order tt
      (unless_again (eqb s.count 4294967295) refusal.Count tt (types_again (eqb s.family 7))))
  turn_again (Head words pool) =
      sound_again
      (unless_again (ltb 16384 (length words)) refusal.Limit tt
      (unless_again (ltb 65536 (length pool)) refusal.Limit tt (head_again words pool s.phase)))
  turn_again (Result tag x) = sound_again (result_again tag x s.phase)
  turn_again Abandon = sound_again (abandon_again s.phase)

pub tried_again : (k : Step) (s : Section) (body : List ℕ) (n : ℕ) → (turn k s body).gave.answer ≡ Refused refusal.Room n
    → (turn k s body ≡ turned (refused s refusal.Room n) body)
    × ((new : List ℕ) → s.used + n ≤ length new → (turn k s new).gave.answer ≡ Ok n)
tried_again k s body n e = (turn_again s body k).tries n e
