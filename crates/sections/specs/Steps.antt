-- What each step answers, and the state and the body it leaves: LIMIT, ORDER, COUNT, KIND, then what the fields say.
use Rattle.std.specs.Prelude.{Ok, Err, ℕ, ◌+◌, ◌-◌, cond, List, [], ◌∷◌, eqb, ltb, length}
use Rattle.fields.specs.Answer.{Answer, Refused}
use Rattle.fields.specs.declared.Refusal.{Refusal}
use Rattle.fields.specs.declared.Refusal.TheVariants as refusal
use Rattle.fields.specs.Answers.{Left}
use Rattle.writing.specs.Write.{write_shape}
use Rattle.types.specs.Write.{head_shape, result_shape}
use Rattle.sections.specs.declared.Phase.{Phase}
use Rattle.sections.specs.declared.Phase.TheVariants.{Closed, Opened, Headed}
use Rattle.sections.specs.declared.Section.{Section}
use Rattle.sections.specs.declared.Turned.{Turned}
use Rattle.sections.specs.Section.{opened, sounds, write_family}
use Rattle.fields.specs.Limits.{row_words, pool_bytes}

-- what a step leaves: what it hands back, and the body
pub record Turn : Type 0 where
  pub gave : Turned
  pub body : List ℕ

abbrev pub turned : Turned → List ℕ → Turn
turned r b = record { gave = r; body = b }

abbrev pub gives : Section → Answer → Turned
gives s a = record { section = s; answer = a }

-- a refusal changes neither state nor body
abbrev pub refused : Section → Refusal → ℕ → Turned
refused s w n = gives s (Refused w n)

abbrev pub refuse : Section → Refusal → List ℕ → Turn
refuse s w b = turned (refused s w 0) b

-- the state after an answer: grown by the bytes that were added, with that count and phase; or as it was
abbrev pub taken : Section → Answer → ℕ → Phase → Turned
taken s (Ok n) count phase =
    gives (record { family = s.family; used = s.used + n; count = count; phase = phase }) (Ok n)
taken s (Err fault) count phase = refused s fault.why fault.value

-- the answer and the buffer that a writer leaves, as a step
abbrev pub wrote : Section → ℕ → Phase → Left → Turn
wrote s count phase l = turned (taken s l.answer count phase) l.buffer

-- a row adds its bytes and 1
unfoldable pub rowing : Section → List ℕ → List ℕ → List ℕ → Turn
rowing s row pool body =
    cond (sounds s (length body))
    (cond (ltb row_words (length row)) (refuse s refusal.Limit body)
    (cond (ltb pool_bytes (length pool)) (refuse s refusal.Limit body)
    (cond (opened s.phase) (refuse s refusal.Order body)
    (cond (eqb s.count 4294967295) (refuse s refusal.Count body)
    (wrote s (s.count + 1) Closed (write_family s.family row pool body s.used))))))
    (refuse s refusal.Limit body)

-- opening adds 1 to the count
unfoldable pub opening : Section → List ℕ → Turn
opening s body =
    cond (sounds s (length body))
    (cond (opened s.phase) (refuse s refusal.Order body)
    (cond (eqb s.count 4294967295) (refuse s refusal.Count body)
    (cond (eqb s.family 7) (turned (taken s (Ok 0) (s.count + 1) (Opened s.used)) body) (refuse s refusal.Kind body))))
    (refuse s refusal.Limit body)

-- head: a, n and n of (N,V), as in a function's row
abbrev pub head_in : Phase → Section → List ℕ → List ℕ → List ℕ → Turn
head_in (Opened start) s words pool body = wrote s s.count (Headed start) (write_shape head_shape words 0 pool body s.used)
head_in Closed s words pool body = refuse s refusal.Order body
head_in (Headed start) s words pool body = refuse s refusal.Order body

unfoldable pub heading : Section → List ℕ → List ℕ → List ℕ → Turn
heading s words pool body =
    cond (sounds s (length body))
    (cond (ltb row_words (length words)) (refuse s refusal.Limit body)
    (cond (ltb pool_bytes (length pool)) (refuse s refusal.Limit body) (head_in s.phase s words pool body)))
    (refuse s refusal.Limit body)

-- result: an O, which closes the entry
abbrev pub result_in : Phase → Section → ℕ → ℕ → List ℕ → Turn
result_in (Headed start) s tag x body = wrote s s.count Closed (write_shape result_shape (tag ∷ x ∷ []) 0 [] body s.used)
result_in Closed s tag x body = refuse s refusal.Order body
result_in (Opened start) s tag x body = refuse s refusal.Order body

unfoldable pub resulting : Section → ℕ → ℕ → List ℕ → Turn
resulting s tag x body = cond (sounds s (length body)) (result_in s.phase s tag x body) (refuse s refusal.Limit body)

-- abandon: used and count from before the opening
abbrev pub withdrawn : Section → ℕ → Turned
withdrawn s start = gives (record { family = s.family; used = start; count = s.count - 1; phase = Closed }) (Ok 0)

abbrev pub abandon_in : Phase → Section → List ℕ → Turn
abandon_in Closed s body = refuse s refusal.Order body
abandon_in (Opened start) s body = turned (withdrawn s start) body
abandon_in (Headed start) s body = turned (withdrawn s start) body

unfoldable pub abandoning : Section → List ℕ → Turn
abandoning s body = cond (sounds s (length body)) (abandon_in s.phase s body) (refuse s refusal.Limit body)
