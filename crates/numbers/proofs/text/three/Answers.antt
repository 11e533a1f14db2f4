-- `numbers::text::three` meets its contract: its second and third byte follow, or one of them breaks the sequence.
use Rattle.std.specs.Prelude.{Ok}
use Rattle.std.proofs.Common.{◌+◌, [], ◌∷◌, sym, refl, ◌∙◌, arith}
use Rattle.numbers.specs.Text.{◌to◌}
use Rattle.numbers.specs.inside.Sequence.{Breaks}
use Rattle.numbers.proofs.TextRows.{took, broke, whole, follow_within}
use Rattle.numbers.proofs.text.three.Goals as goal

pub overflow_add-i : goal.overflow_add-i
overflow_add-i c = omega arith

pub overflow_add-i-then-follows : goal.overflow_add-i-then-follows
overflow_add-i-then-follows c = omega arith

pub returns-then-follows-2 : goal.returns-then-follows-2
returns-then-follows-2 c =
    let a = c.args in
    let s = a.name.now in
    let e₂ = sym c.follows.ensures ∙ c.if-follows.true in
    let e₃ = sym c.follows-then-follows.ensures ∙ c.if-follows-2.true in
    took a.low2 a.high2 (a.low3 to a.high3 ∷ []) s (a.i + 1) (a.i + 2) a.i (Ok 3) e₂ (omega arith)
    (took a.low3 a.high3 [] s (a.i + 2) (a.i + 3) a.i (Ok 3) e₃ (omega arith)
    (whole s (a.i + 3) a.i 3 refl (omega (arith, follow_within a.low3 a.high3 s (a.i + 2) e₃)) (omega arith)))

pub returns-then-follows : goal.returns-then-follows
returns-then-follows c =
    let a = c.args in
    let s = a.name.now in
    let e₂ = sym c.follows.ensures ∙ c.if-follows.true in
    took a.low2 a.high2 (a.low3 to a.high3 ∷ []) s (a.i + 1) (a.i + 2) a.i (Breaks 2) e₂ (omega arith)
    (broke a.low3 a.high3 [] s (a.i + 2) a.i 2 (sym c.follows-then-follows.ensures ∙ c.if-follows-2.false) refl)

pub returns : goal.returns
returns c =
    let a = c.args in
    broke a.low2 a.high2 (a.low3 to a.high3 ∷ []) a.name.now (a.i + 1) a.i 1
    (sym c.follows.ensures ∙ c.if-follows.false) refl
