-- What a row leaves where the state is ready: the row is written behind the used part, and used and count grow, or the same refusal.
use Rattle.std.specs.Prelude.{Ok, Some}
use Prim.Native.Nat.{ℕ, ◌+◌, ◌<◌, ◌^◌}
use native.Mathlib.Omega.{arith}
use mathlib.Core.Path.{◌≡◌, sym, ap, subst, ◌∙◌}
use mathlib.Core.Bool.{true, false}
use mathlib.Core.List.{List, [], ◌∷◌}
use borrow.Author.Tests.{lt-ltb, le-ltb, ne_eqb}
use lib.ListN.{length, get_or}
use Rattle.fields.specs.Answer.{Answer, Refused}
use Rattle.fields.specs.declared.Refusal.{Refusal}
use Rattle.fields.specs.Answers.{left, number_of, value_of, byte_of}
use Rattle.sections.specs.declared.Phase.TheVariants.{Closed}
use Rattle.sections.specs.declared.Section.{Section}
use Rattle.sections.specs.Section.{sounds, write_family}
use Rattle.sections.specs.inside.Bounded.{Bounded}
use Rattle.sections.specs.Steps.{wrote, rowing}
use Rattle.sections.proofs.FamilyLaws.{wrote-limited}
use Rattle.sections.proofs.StepLaws.{family-small, family-writer, written-fits}
use Rattle.cabi.specs.declared.Reply.{Reply}
use Rattle.cabi.specs.Reply.{reply_of}
use Rattle.cabi.specs.State.{given, numbers_of, stepped, of_turn, step}
use Rattle.cabi.specs.inside.Ready.{Ready}
use Rattle.numbers.proofs.Impossible.{impossible}

-- five numbers as a closed section
abbrev pub standing : List ℕ → Section
standing state = record { family = get_or state 0 0; used = get_or state 1 0; count = get_or state 2 0; phase = Closed }

-- a test that failed says nothing of the numbers
pub not_ready : {X : Type 0} → false ≡ true → X
not_ready e = impossible cc

module _ {state : List ℕ} {n : ℕ} (k : Ready state n) where
  ready_sound : sounds (standing state) n ≡ true
  unfolding sounds
  ready_sound = simp (le-ltb _ _ k.within, k.known)

  pub ready_small : get_or state 0 0 < 2 ^ 32
  ready_small = omega (arith, family-small (standing state) n ready_sound)

  ready_given : given state ≡ Some (standing state)
  unfolding given
  ready_given = simp (lt-ltb _ _ ready_small, lt-ltb (get_or state 2 0) (2 ^ 32) (omega (arith, k.counts)), k.closed, k.start)

-- what was written lies within the body, so the grown part still has a length
pub ready-fits : (state row pool body : List ℕ) {a : Answer} {m : ℕ} {new : List ℕ}
    → left a new ≡ write_family (get_or state 0 0) row pool body (get_or state 1 0) → a ≡ Ok m → length body < 2 ^ 64 → get_or state 1 0 + m < 2 ^ 64
ready-fits state row pool body e i h = subst (Bounded (standing state)) i (written-fits (family-writer (standing state) row pool body) e h)

-- the step of a ready state is the row as its writer leaves it, which tests for LIMIT too
module _ {state : List ℕ} (row pool body : List ℕ) (k : Ready state (length body)) where
  ready_row : rowing (standing state) row pool body
      ≡ wrote (standing state) (get_or state 2 0 + 1) Closed (write_family (get_or state 0 0) row pool body (get_or state 1 0))
  unfolding rowing
  ready_row =
      simp (ready_sound k, ne_eqb (get_or state 2 0) 4294967295 (omega (arith, k.counts)))
      (wrote-limited (standing state) (get_or state 2 0 + 1) Closed row pool body)

  ready_step : {a : Answer} {new : List ℕ} → left a new ≡ write_family (get_or state 0 0) row pool body (get_or state 1 0)
      → of_turn (wrote (standing state) (get_or state 2 0 + 1) Closed (left a new)) ≡ step (given state) (λ s. rowing s row pool body) state body
  ready_step e = simp (ready_given k, ready_row, ← e)

  -- used and count grow
  pub row_written : {a : Answer} {m : ℕ} {new : List ℕ} → left a new ≡ write_family (get_or state 0 0) row pool body (get_or state 1 0) → a ≡ Ok m
      → stepped (record { number = 0; also = 0; value = m }) (get_or state 0 0 ∷ (get_or state 1 0 + m) ∷ (get_or state 2 0 + 1) ∷ 0 ∷ 0 ∷ []) new
      ≡ step (given state) (λ s. rowing s row pool body) state body
  unfolding number_of value_of byte_of
  row_written {new = new} e i = ready_step (ap (λ x. left x new) (sym i) ∙ e)

  -- or the state stays
  pub row_refused : {a : Answer} {w : Refusal} {m : ℕ} {r : Reply} {new : List ℕ}
      → left a new ≡ write_family (get_or state 0 0) row pool body (get_or state 1 0) → a ≡ Refused w m → r ≡ reply_of (Refused w m)
      → stepped r (numbers_of (standing state)) new ≡ step (given state) (λ s. rowing s row pool body) state body
  row_refused {new = new} e i p =
      ap (λ x. stepped x (numbers_of (standing state)) new) p ∙ ready_step (ap (λ x. left x new) (sym i) ∙ e)
