-- `is_option` meets its contract: the tests are those of `is_option`.
use borrow.Author.Tests.{lt-ltb, le-ltb}
use Rattle.canonical_items.specs.inside.Short.{is_option}
use Rattle.canonical_items.proofs.options.is_option.Goals as goal

pub returns-then-k-lt10 : goal.returns-then-k-lt10
unfolding is_option
returns-then-k-lt10 c = simp (lt-ltb _ _ c.if-k-lt10.true, c.grade_of.ensures)

pub returns : goal.returns
unfolding is_option
returns c = simp (le-ltb _ _ c.if-k-lt10.false)
