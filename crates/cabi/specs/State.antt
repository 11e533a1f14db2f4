-- A section's state as five numbers: family, used, count, phase (0 closed, 1 opened, 2 headed), start.
use Rattle.std.specs.Prelude.{None, Some, Option, ℕ, ◌^◌, cond, List, [], ◌∷◌, eqb, ltb, get_or}
use Rattle.fields.specs.Answers.{Left}
use Rattle.sections.specs.declared.Phase.{Phase}
use Rattle.sections.specs.declared.Phase.TheVariants.{Closed, Opened, Headed}
use Rattle.sections.specs.declared.Section.{Section}
use Rattle.sections.specs.Steps.{Turn}
use Rattle.sections.specs.Finish.{finishing}
use Rattle.cabi.specs.declared.Reply.{Reply}
use Rattle.cabi.specs.Reply.{reply_of, limit}

-- a closed state has start 0; there is no phase above 2
abbrev pub phase_of : ℕ → ℕ → (Phase → Option Section) → Option Section
phase_of phase start k =
    cond (eqb phase 0) (cond (eqb start 0) (k Closed) None)
    (cond (eqb phase 1) (k (Opened start)) (cond (eqb phase 2) (k (Headed start)) None))

abbrev pub section_of : ℕ → ℕ → ℕ → Phase → Option Section
section_of family used count phase = Some (record { family = family; used = used; count = count; phase = phase })

-- the state that five numbers are, if family and count fit 32 bits
unfoldable pub given : List ℕ → Option Section
given s =
    cond (ltb (get_or s 0 0) (2 ^ 32))
    (cond (ltb (get_or s 2 0) (2 ^ 32))
    (phase_of (get_or s 3 0) (get_or s 4 0) (section_of (get_or s 0 0) (get_or s 1 0) (get_or s 2 0))) None) None

-- the five numbers of a state
abbrev pub phase_number : Phase → ℕ
phase_number Closed = 0
phase_number (Opened start) = 1
phase_number (Headed start) = 2

abbrev pub start_number : Phase → ℕ
start_number Closed = 0
start_number (Opened start) = start
start_number (Headed start) = start

abbrev pub numbers_of : Section → List ℕ
numbers_of s = s.family ∷ s.used ∷ s.count ∷ phase_number s.phase ∷ start_number s.phase ∷ []

-- what a step leaves: its reply, the state's numbers and the body
pub record Stepped : Type 0 where
  pub reply : Reply
  pub state : List ℕ
  pub body : List ℕ

abbrev pub stepped : Reply → List ℕ → List ℕ → Stepped
stepped r state body = record { reply = r; state = state; body = body }

abbrev pub of_turn : Turn → Stepped
of_turn t = stepped (reply_of t.gave.answer) (numbers_of t.gave.section) t.body

-- a step of sections over the numbers: what is no state is LIMIT
abbrev pub step : Option Section → (Section → Turn) → List ℕ → List ℕ → Stepped
step (Some s) f state body = of_turn (f s)
step None f state body = stepped limit state body

-- what finishing leaves: its reply and the output
pub record Finished : Type 0 where
  pub reply : Reply
  pub out : List ℕ

abbrev pub finished : Reply → List ℕ → Finished
finished r out = record { reply = r; out = out }

abbrev pub of_left : Left → Finished
of_left l = finished (reply_of l.answer) l.buffer

-- finishing over the numbers
abbrev pub finishes : Option Section → List ℕ → List ℕ → Finished
finishes (Some s) body out = of_left (finishing s body out)
finishes None body out = finished limit out
