-- The program's steps, one after the other, as the definitions of the steps by value say them.
use Rattle.std.specs.Prelude.{Ok, ℕ, List, [], ◌∷◌}
use Rattle.fields.specs.Answers.{Left}
use Rattle.sections.specs.declared.Section.{Section}
use Rattle.sections.specs.Section.{fresh}
use Rattle.sections.specs.Steps.{Turn, turned, gives, rowing, opening, heading, resulting, abandoning}
use Rattle.sections.specs.Finish.{finishing}

-- a step goes on from the state and the body that the one before it left
unfoldable pub after : (Section → List ℕ → Turn) → Turn → Turn
after step t = step t.gave.section t.body

abbrev pub played : Turn → List (Section → List ℕ → Turn) → Turn
played t [] = t
played t (step ∷ steps) = played (after step t) steps

-- a row, a row that is refused, and a function in steps with an opening and a result out of turn; then a function that is abandoned
abbrev pub scripted : List ℕ → List ℕ → List ℕ → List ℕ → Turn
scripted row words pool body =
    played (turned (gives (fresh 7) (Ok 0)) body)
    ((λ s b. rowing s row pool b) ∷ (λ s b. rowing s words pool b) ∷
    opening ∷ opening ∷ (λ s b. resulting s 0 12 b) ∷ (λ s b. heading s words pool b) ∷ (λ s b. resulting s 0 12 b) ∷
    opening ∷ (λ s b. heading s words pool b) ∷ abandoning ∷ [])

-- and what finishing makes of it
abbrev pub closed : Turn → List ℕ → Left
closed t out = finishing t.gave.section t.body out
