-- `indexed` meets its contract: an index is what is seen behind k bytes, and has at most five (`index_taken`).
use Rattle.std.specs.Prelude.{ℕ, List}
use native.Mathlib.Omega.{arith}
use mathlib.Core.Path.{sym, ap, ◌∙◌}
use Rattle.numbers.proofs.BytesLaws.{to_end}
use Rattle.numbers.specs.Leb.{take_unsigned}
use Rattle.numbers.specs.Seen.{seen}
use Rattle.items.proofs.ReferenceLaws.{index_taken, indexed_some, indexed_none}
use Rattle.items.proofs.import.indexed.Goals as goal

pub returns-in_err-n : goal.returns-in_err-n
returns-in_err-n c =
    let bs = c.args.bs.now in
    let is = c.seen_unsigned.ensures ∙ ap (λ (s : List ℕ). seen (take_unsigned s)) (to_end bs c.args.k) in
    c.from_residual.ensures ∙ indexed_none c.args.sort c.args.k bs (sym c.in_err-n.was ∙ is)

pub overflow_add-result : goal.overflow_add-result
overflow_add-result c =
    let size = (index_taken _ _ (sym c.in_ok-n.was ∙ c.seen_unsigned.ensures)).1 in
    omega arith

pub returns : goal.returns
returns c =
    let bs = c.args.bs.now in
    let is = c.seen_unsigned.ensures ∙ ap (λ (s : List ℕ). seen (take_unsigned s)) (to_end bs c.args.k) in
    indexed_some c.args.sort c.args.k bs _ (sym c.in_ok-n.was ∙ is)
