-- `reading::scan::scan_primitive` meets its contract: the test is that of `there`, and `primitive_or` judges the byte.
use mathlib.Core.Path.{sym, ◌∙◌}
use borrow.Author.Tests.{le-leb, lt-leb}
use Rattle.reading.proofs.scan.scan_primitive.Goals as goal

pub returns-then-bs-le0 : goal.returns-then-bs-le0
returns-then-bs-le0 c = c.cut_short.ensures ∙ simp (le-leb _ _ c.if-bs-le0.true)

pub returns : goal.returns
returns c = c.primitive_or.ensures ∙ simp (lt-leb _ _ c.if-bs-le0.false, sym c.byte_at.ensures)
