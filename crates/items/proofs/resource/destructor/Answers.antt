-- `destructor` meets its contract: the ways out are those of a destructor's first byte (`StoreLaws`), and the index behind it has few
-- bytes (`seen_few`). Assumes nothing.
use Prim.Native.Nat.{ℕ}
use native.Mathlib.Omega.{arith}
use mathlib.Core.Path.{sym, ap, ◌∙◌}
use mathlib.Core.List.{List}
use Rattle.numbers.specs.Leb.{take_unsigned}
use Rattle.numbers.specs.Seen.{seen}
use Rattle.numbers.proofs.BytesLaws.{to_end}
use Rattle.items.proofs.StoreLaws.{dtor_none, dtor_some, dtor_wrong, dtor_other, dtor_empty, seen_few}
use Rattle.items.proofs.resource.destructor.Goals as goal

pub returns-then-bs-eq0 : goal.returns-then-bs-eq0
returns-then-bs-eq0 c = λ g. dtor_none g c.args.bs.now c.if-bs-gt0.true c.if-bs-eq0.true

pub returns-in_err-n : goal.returns-in_err-n
returns-in_err-n c = λ g.
    let bs = c.args.bs.now in
    c.from_residual.ensures
    ∙ dtor_wrong g bs c.if-bs-gt0.true c.if-bs-eq1.true
    (sym c.in_err-n.was ∙ c.seen_unsigned.ensures ∙ ap (λ (s : List ℕ). seen (take_unsigned s)) (to_end bs 1))

pub overflow_add-result : goal.overflow_add-result
overflow_add-result c = let few = seen_few _ (sym c.in_ok-n.was ∙ c.seen_unsigned.ensures) in omega (arith, few)

pub returns-then-bs-eq1 : goal.returns-then-bs-eq1
returns-then-bs-eq1 c = λ g.
    let bs = c.args.bs.now in
    dtor_some g bs c.if-bs-gt0.true c.if-bs-eq1.true
    (sym c.in_ok-n.was ∙ c.seen_unsigned.ensures ∙ ap (λ (s : List ℕ). seen (take_unsigned s)) (to_end bs 1))

pub returns-else-bs-eq1 : goal.returns-else-bs-eq1
returns-else-bs-eq1 c = λ g. dtor_other g c.args.bs.now c.if-bs-gt0.true c.if-bs-eq0.false c.if-bs-eq1.false

pub returns-else-bs-gt0 : goal.returns-else-bs-gt0
returns-else-bs-gt0 c = λ g. dtor_empty g c.args.bs.now c.if-bs-gt0.false
