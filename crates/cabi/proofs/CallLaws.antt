-- What an exported call leaves, from what the step by value handed back: by the state that the numbers are, or because they are none.
-- Assumes nothing.
use Rattle.std.specs.Prelude.{None, Some, Option}
use Prim.Native.Nat.{ℕ}
use mathlib.Core.Path.{◌≡◌, sym, ◌∙◌}
use mathlib.Core.List.{List}
use Rattle.fields.specs.Answer.{Answer}
use Rattle.fields.specs.Answers.{left}
use Rattle.sections.specs.declared.Section.{Section}
use Rattle.sections.specs.declared.Turned.{Turned}
use Rattle.sections.specs.Steps.{Turn, turned}
use Rattle.sections.specs.Finish.{finishing}
use Rattle.cabi.specs.declared.Reply.{Reply}
use Rattle.cabi.specs.Reply.{reply_of, limit}
use Rattle.cabi.specs.State.{stepped, step, finished, finishes}
use Rattle.cabi.specs.inside.Settled.{Settled}

-- a step that a state took
pub step-taken : {g h : Option Section} {s : Section} (f : Section → Turn) (state body : List ℕ) {t : Turned} {r : Reply} {state' body' : List ℕ}
    → g ≡ h → g ≡ Some s → turned t body' ≡ f s → Settled t r state' → stepped r state' body' ≡ step h f state body
step-taken f state body e i p k = simp (sym e ∙ i, ← p, k.says, k.keeps)

-- numbers that are no state stay, and so does the body
pub step-refused : {g h : Option Section} (f : Section → Turn) {r : Reply} {state body : List ℕ}
    → g ≡ h → g ≡ None → r ≡ limit → stepped r state body ≡ step h f state body
step-refused f e n l = simp (sym e ∙ n, l)

-- the same of finishing
pub finish_taken : {g h : Option Section} {s : Section} (body out : List ℕ) {a : Answer} {r : Reply} {out' : List ℕ}
    → g ≡ h → g ≡ Some s → left a out' ≡ finishing s body out → r ≡ reply_of a → finished r out' ≡ finishes h body out
finish_taken body out e i p k = simp (sym e ∙ i, ← p, k)

pub finish_refused : {g h : Option Section} (body : List ℕ) {r : Reply} {out : List ℕ}
    → g ≡ h → g ≡ None → r ≡ limit → finished r out ≡ finishes h body out
finish_refused body e n l = simp (sym e ∙ n, l)
