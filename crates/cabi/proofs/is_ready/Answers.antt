-- `cabi::is_ready` meets its contract: past its tests the numbers are ready.
use borrow.Author.Tests.{eqb-true}
use mathlib.Core.Bool.{true}
use Prim.Native.Nat.{ℕ}
use mathlib.Core.Path.{◌≡◌, refl, ap, ◌∙◌}
use lib.ListN.{get_or}
use Rattle.sections.specs.Section.{known_family}
use Rattle.cabi.specs.inside.Ready.{Ready}
use Rattle.cabi.proofs.ReadyLaws.{not_ready}
use Rattle.cabi.proofs.is_ready.Goals as goal
use Rattle.cabi.proofs.is_ready.Goals.{Then-state-n}

-- past the first four tests only the family is to be tested
ready_at : (family : ℕ) → known_family family ≡ true → (c : Then-state-n)
    → let a = c.args in
    get_or a.state.now 0 0 ≡ family → Ready a.state.now a.n
ready_at family k c f =
    record {
      known = ap known_family f ∙ k;
      within = c.if-state-n.true;
      counts = c.if-state-lt4294967295.true;
      closed = c.if-state-eq0.true;
      start = c.if-state-eq0-2.true;
    }

pub returns-then-state-eq7 : goal.returns-then-state-eq7
unfolding known_family
returns-then-state-eq7 c = λ e. ready_at 7 refl (goal.at.returns-then-state-eq7 c).Then-state-n c.if-state-eq7.true

pub returns-then-state-eq8 : goal.returns-then-state-eq8
unfolding known_family
returns-then-state-eq8 c = λ e. ready_at 8 refl (goal.at.returns-then-state-eq8 c).Then-state-n c.if-state-eq8.true

pub returns-then-state-eq10 : goal.returns-then-state-eq10
unfolding known_family
returns-then-state-eq10 c = λ e. ready_at 10 refl (goal.at.returns-then-state-eq10 c).Then-state-n c.if-state-eq10.true

pub returns-then-state-eq2 : goal.returns-then-state-eq2
unfolding known_family
returns-then-state-eq2 c = λ e. ready_at 2 refl (goal.at.returns-then-state-eq2 c).Then-state-n c.if-state-eq2.true

pub returns-then-state-n : goal.returns-then-state-n
unfolding known_family
returns-then-state-n c = λ e. ready_at 5 refl (goal.at.returns-then-state-n c).Then-state-n (eqb-true _ _ e)

pub returns-else-state-n : goal.returns-else-state-n
returns-else-state-n c = not_ready

pub returns-else-state-lt4294967295 : goal.returns-else-state-lt4294967295
returns-else-state-lt4294967295 c = not_ready

pub returns-else-state-eq0-2 : goal.returns-else-state-eq0-2
returns-else-state-eq0-2 c = not_ready

pub returns-else-state-eq0 : goal.returns-else-state-eq0
returns-else-state-eq0 c = not_ready
