-- `reading::scan::zero_at` meets its contract: the tests on the byte are those of `zero_at`.
use mathlib.Core.Path.{sym, ◌∙◌}
use borrow.Author.Tests.{le-leb, lt-leb, eq-eqb, ne_eqb}
use Rattle.reading.proofs.scan.zero_at.Goals as goal

pub returns-then-bs-i : goal.returns-then-bs-i
returns-then-bs-i c = c.cut_short.ensures ∙ simp (le-leb _ _ c.if-bs-i.true)

pub returns-then-byte_at-eq0 : goal.returns-then-byte_at-eq0
returns-then-byte_at-eq0 c = simp (lt-leb _ _ c.if-bs-i.false, sym c.byte_at.ensures, eq-eqb _ _ c.if-byte_at-eq0.true)

pub returns : goal.returns
returns c = simp (lt-leb _ _ c.if-bs-i.false, sym c.byte_at.ensures, ne_eqb _ _ c.if-byte_at-eq0.false)
