-- `reading::scan::asked_at` meets its contract: the test on the grade is that of `asked`.
use borrow.Author.Tests.{lt-ltb, le-ltb}
use Rattle.reading.proofs.scan.asked_at.Goals as goal

pub returns-then-grade-n : goal.returns-then-grade-n
returns-then-grade-n c = simp (lt-ltb _ _ c.if-grade-n.true)

pub returns : goal.returns
returns c = simp (le-ltb _ _ c.if-grade-n.false)
