-- Functions in steps are rows, what is opened can be abandoned, and a step that was refused for room can be tried again.
use Prim.Native.Nat.{ℕ, ◌<◌}
use native.Mathlib.Omega.{arith}
use mathlib.Core.Path.{◌≡◌, refl}
use mathlib.Core.Bool.{Bool, true, false, cond}
use mathlib.Core.List.{List, [], ◌∷◌}
use borrow.Author.Tests.{lt-ltb}
use lib.Dec.{ltb}
use lib.ListN.{length, length-append}
use Rattle.fields.specs.declared.Refusal.TheVariants as refusal
use Rattle.sections.specs.declared.Section.{Section}
use Rattle.sections.specs.Runs.{Row, turn}
use Rattle.sections.specs.Section.{sounds}
use Rattle.sections.specs.Steps.{Turn, refuse, rowing}
use Rattle.sections.proofs.StepsAreRow as steps
use Rattle.claims.specs.Steps.{function_row, StepsAreRows}
use Rattle.claims.proofs.StepsAccepted.{steps_accepted}
use Rattle.claims.proofs.StepsAgain.{tried_again}
use Rattle.claims.proofs.StepsOpen.{abandoned}
use Rattle.numbers.proofs.Impossible.{impossible}

-- the row has three words more than the head
row_too_long : (s : Section) (words pool : List ℕ) (tag x : ℕ) (body : List ℕ) → 16381 < length words
    → turn (Row (function_row words tag x) pool) s body ≡ refuse s refusal.Limit body
unfolding rowing
row_too_long s words pool tag x body h =
    go (sounds s (length body)) (ltb 16384 (length (function_row words tag x))) _
    (lt-ltb 16384 (length (function_row words tag x)) (omega (arith, h, length-append words (tag ∷ x ∷ []))))
  where
    go : (b c : Bool) (t : Turn) → c ≡ true
        → cond b (cond c (refuse s refusal.Limit body) t) (refuse s refusal.Limit body) ≡ refuse s refusal.Limit body
    go true true t e = refl
    go true false t e = impossible cc
    go false c t e = refl

pub steps_are_rows : StepsAreRows
steps_are_rows =
    record {
      steps_accepted = λ s words pool tag x body h. steps_accepted s body words pool tag x h;
      row_too_long = row_too_long;
      steps_are_row = λ s words pool tag x body k r. (steps.steps_are_row s words pool tag x body k r).same;
      abandoned = abandoned;
      tried_again = tried_again;
    }
