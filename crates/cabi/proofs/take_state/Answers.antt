-- `cabi::take_state` meets its contract: its tests are those of `given`.
use borrow.Author.Tests.{lt-ltb, le-ltb}
use Rattle.cabi.specs.State.{given}
use Rattle.cabi.proofs.take_state.Goals as goal

pub returns-then-count-lt4294967296 : goal.returns-then-count-lt4294967296
unfolding given
returns-then-count-lt4294967296 c = simp (lt-ltb _ _ c.if-family-lt4294967296.true, lt-ltb _ _ c.if-count-lt4294967296.true) c.with_phase.ensures

pub returns-then-family-lt4294967296 : goal.returns-then-family-lt4294967296
unfolding given
returns-then-family-lt4294967296 c = simp (lt-ltb _ _ c.if-family-lt4294967296.true, le-ltb _ _ c.if-count-lt4294967296.false)

pub returns : goal.returns
unfolding given
returns c = simp (le-ltb _ _ c.if-family-lt4294967296.false)
