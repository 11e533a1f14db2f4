-- `bound` meets its contract: its tests are those of `scan_bound`, and an index has at most five bytes (`index_taken`).
use Rattle.std.specs.Prelude.{ℕ, List}
use native.Mathlib.Omega.{arith}
use mathlib.Core.Path.{sym, ap, ◌∙◌}
use Rattle.numbers.proofs.BytesLaws.{to_end}
use Rattle.numbers.specs.Leb.{take_unsigned}
use Rattle.numbers.specs.Seen.{seen}
use Rattle.items.proofs.ReferenceLaws.{index_taken, bound_short, bound_some, bound_none, bound_free, bound_other}
use Rattle.items.proofs.import.bound.Goals as goal

pub returns-in_err-n : goal.returns-in_err-n
returns-in_err-n c = λ g.
    let bs = c.args.bs.now in
    let is = c.seen_unsigned.ensures ∙ ap (λ (s : List ℕ). seen (take_unsigned s)) (to_end bs 2) in
    c.from_residual.ensures
    ∙ bound_none g bs c.requires.0 c.requires.1 c.if-bs-gt1.true c.if-bs-eq0.true (sym c.in_err-n.was ∙ is)

pub overflow_add-result : goal.overflow_add-result
overflow_add-result c = let size = (index_taken _ _ (sym c.in_ok-n.was ∙ c.seen_unsigned.ensures)).1 in omega arith

pub returns-then-bs-eq0 : goal.returns-then-bs-eq0
returns-then-bs-eq0 c = λ g.
    let bs = c.args.bs.now in
    let is = c.seen_unsigned.ensures ∙ ap (λ (s : List ℕ). seen (take_unsigned s)) (to_end bs 2) in
    bound_some g bs c.requires.0 c.requires.1 c.if-bs-gt1.true c.if-bs-eq0.true _ (sym c.in_ok-n.was ∙ is)

pub returns-then-bs-eq1 : goal.returns-then-bs-eq1
returns-then-bs-eq1 c = λ g.
    bound_free g c.args.bs.now c.requires.0 c.requires.1 c.if-bs-gt1.true c.if-bs-eq1.true

pub returns-else-bs-eq1 : goal.returns-else-bs-eq1
returns-else-bs-eq1 c = λ g.
    bound_other g c.args.bs.now c.requires.0 c.requires.1 c.if-bs-gt1.true c.if-bs-eq0.false c.if-bs-eq1.false

pub returns-else-bs-gt1 : goal.returns-else-bs-gt1
returns-else-bs-gt1 c = λ g. bound_short g c.args.bs.now c.requires.0 c.requires.1 c.if-bs-gt1.false
