-- Steps: a function in steps is accepted exactly when its row is, and is then the same; what is opened can be abandoned; a step that
-- was refused for room can be tried again.
use Rattle.std.specs.Prelude.{ℕ, ◌+◌, ◌≤◌, ◌<◌, ◌≡◌, ◌↔◌, true, List, [], ◌∷◌, ◌++◌, length, get_or, Ok}
use Rattle.fields.specs.Answer.{Refused}
use Rattle.fields.specs.declared.Refusal.TheVariants as refusal
use Rattle.sections.specs.declared.Section.{Section}
use Rattle.sections.specs.Runs.{Step, Row, Open, Head, Result, Abandon, turn, runs, Accepted, AllAccepted}
use Rattle.sections.specs.Section.{opened}
use Rattle.sections.specs.Steps.{turned, refused, refuse}

-- the row of a function, whose head is `words`: a, a count and as many of (N,V)
abbrev pub function_row : List ℕ → ℕ → ℕ → List ℕ
function_row words tag x = 15 ∷ (words ++ tag ∷ x ∷ [])

abbrev pub by_row : List ℕ → List ℕ → ℕ → ℕ → List Step
by_row words pool tag x = Row (function_row words tag x) pool ∷ []

-- the same in steps
abbrev pub by_steps : List ℕ → List ℕ → ℕ → ℕ → List Step
by_steps words pool tag x = Open ∷ Head words pool ∷ Result tag x ∷ []

-- an entry is open before each of the steps and behind the last
abbrev pub StaysOpen : List Step → Section → List ℕ → Type 0
StaysOpen [] s body = opened s.phase ≡ true
StaysOpen (x ∷ xs) s body = (opened s.phase ≡ true) × StaysOpen xs (turn x s body).gave.section (turn x s body).body

-- an entry that was opened, whatever the steps, and then abandoned: the state is as it was, and so is the used part of the body
pub record Restored (s : Section) (body : List ℕ) (steps : List Step) : Type 0 where
  pub accepted : Accepted (turn Abandon (runs (Open ∷ steps) s body).section (runs (Open ∷ steps) s body).body)
  pub state : (turn Abandon (runs (Open ∷ steps) s body).section (runs (Open ∷ steps) s body).body).gave.section ≡ s
  pub used_part : (i : ℕ) → i < s.used
      → get_or (turn Abandon (runs (Open ∷ steps) s body).section (runs (Open ∷ steps) s body).body).body i 0 ≡ get_or body i 0

pub record StepsAreRows : Type 0 where
  -- in order and with room, exactly when the row is, where both keep within the limit on words
  pub steps_accepted : (s : Section) (words pool : List ℕ) (tag x : ℕ) (body : List ℕ) → length words ≤ 16381
      → AllAccepted (by_steps words pool tag x) s body ↔ AllAccepted (by_row words pool tag x) s body
  -- past that limit, which is of 4,095 parameters, the row is LIMIT
  pub row_too_long : (s : Section) (words pool : List ℕ) (tag x : ℕ) (body : List ℕ) → 16381 < length words
      → turn (Row (function_row words tag x) pool) s body ≡ refuse s refusal.Limit body
  -- then state and body are the same
  pub steps_are_row : (s : Section) (words pool : List ℕ) (tag x : ℕ) (body : List ℕ)
      → AllAccepted (by_steps words pool tag x) s body → AllAccepted (by_row words pool tag x) s body
      → runs (by_steps words pool tag x) s body ≡ runs (by_row words pool tag x) s body
  -- open, any steps while the entry is open, abandon: state and used part as before
  pub abandoned : (s : Section) (body : List ℕ) (steps : List Step) → Accepted (turn Open s body)
      → StaysOpen steps (turn Open s body).gave.section (turn Open s body).body → Restored s body steps
  -- a step that was refused for room left all as it was, and over a body that has the room that it named it is accepted
  pub tried_again : (k : Step) (s : Section) (body : List ℕ) (n : ℕ) → (turn k s body).gave.answer ≡ Refused refusal.Room n
      → (turn k s body ≡ turned (refused s refusal.Room n) body)
      × ((new : List ℕ) → s.used + n ≤ length new → (turn k s new).gave.answer ≡ Ok n)
