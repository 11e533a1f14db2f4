-- `numbers::text::two` meets its contract: its second byte follows, or breaks the sequence.
use Rattle.std.specs.Prelude.{Ok}
use Rattle.std.proofs.Common.{◌+◌, [], sym, refl, ◌∙◌, arith}
use Rattle.numbers.proofs.TextRows.{took, broke, whole, follow_within}
use Rattle.numbers.proofs.text.two.Goals as goal

pub overflow_add-i : goal.overflow_add-i
overflow_add-i c = omega arith

pub returns-then-follows : goal.returns-then-follows
returns-then-follows c =
    let a = c.args in
    let s = a.name.now in
    let e = sym c.follows.ensures ∙ c.if-follows.true in
    took a.low2 a.high2 [] s (a.i + 1) (a.i + 2) a.i (Ok 2) e (omega arith)
    (whole s (a.i + 2) a.i 2 refl (omega (arith, follow_within a.low2 a.high2 s (a.i + 1) e)) (omega arith))

pub returns : goal.returns
returns c =
    let a = c.args in
    broke a.low2 a.high2 [] a.name.now (a.i + 1) a.i 1 (sym c.follows.ensures ∙ c.if-follows.false) refl
