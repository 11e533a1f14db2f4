-- `numbers::bytes::part` meets its contract: at each `return` the tests that led there say whether the part lies inside, and
-- `part-inside` or `part-past` what it then is. Assumes nothing.
use Rattle.std.proofs.Common.{ℕ, take, drop, sym, ap, ◌∙◌, rules}
use native.Mathlib.Nat.{add-sub_cancel_left}
use Rattle.numbers.proofs.BytesLaws.{part-inside, part-past}
use Rattle.numbers.proofs.bytes.part.Goals as goal

pub returns-then-size-input : goal.returns-then-size-input
returns-then-size-input c =
    let a = c.args in
    ap (λ (k : ℕ). take k (drop a.start a.input.now)) (add-sub_cancel_left a.start a.size)
    ∙ sym (part-inside a.input.now a.start a.size (search rules))

pub returns-else-size-input : goal.returns-else-size-input
returns-else-size-input c =
    let a = c.args in
    sym (part-past a.input.now a.start a.size (search rules))

pub returns-else-start-input : goal.returns-else-start-input
returns-else-start-input c =
    let a = c.args in
    sym (part-past a.input.now a.start a.size (search rules))
