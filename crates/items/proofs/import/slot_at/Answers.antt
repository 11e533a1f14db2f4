-- `imports::slot_at` meets its contract: the ways out are those of `slot_done`, `slot_cut`, `slot_wrong`, `slot_right` and `slot_other`; a
-- string that is right ends inside the input (`string_inside`), and its start is that of a short number on (`string_start`).
use Prim.Native.Nat.{◌+◌}
use native.Mathlib.Omega.{arith}
use mathlib.Core.Path.{sym, ◌∙◌}
use Rattle.items.proofs.NameLaws.{part-string, string_inside, string_start, slot_done, slot_cut, slot_other, slot_wrong, slot_right}
use Rattle.items.proofs.import.slot_at.Goals as goal

pub returns-then-due-eq0 : goal.returns-then-due-eq0
returns-then-due-eq0 c =
    let a = c.args in
    slot_done a.k a.input.now a.at a.due c.requires.1 c.if-due-eq0.true c.no_slot.ensures

pub returns-then-input-at : goal.returns-then-input-at
returns-then-input-at c =
    let a = c.args in
    slot_cut a.k a.input.now a.at a.due c.if-due-eq0.false c.if-input-at.true

pub returns-in_err-n : goal.returns-in_err-n
returns-in_err-n c =
    let a = c.args in
    slot_wrong a.k a.input.now a.at a.due c.if-due-eq0.false c.if-input-at.false c.if-input-at-2.true
    (sym c.in_err-n.was ∙ part-string a.input.now (a.at + 1) c.name.ensures) c.from_residual.ensures

pub overflow_add-result : goal.overflow_add-result
overflow_add-result c =
    let a = c.args in
    let n = sym c.in_ok-n.was ∙ part-string a.input.now (a.at + 1) c.name.ensures in
    omega (arith, string_inside a.input.now (a.at + 1) _ n (omega arith), c.requires.0)

pub overflow_add-result-then-input-at-2 : goal.overflow_add-result-then-input-at-2
overflow_add-result-then-input-at-2 c =
    let a = c.args in
    let n = sym c.in_ok-n.was ∙ part-string a.input.now (a.at + 1) c.name.ensures in
    omega (arith, string_start a.input.now (a.at + 1) _ n, string_inside a.input.now (a.at + 1) _ n (omega arith), c.requires.0)

pub returns-then-input-at-2 : goal.returns-then-input-at-2
returns-then-input-at-2 c =
    let a = c.args in
    slot_right a.k a.input.now a.at a.due c.if-due-eq0.false c.if-input-at.false c.if-input-at-2.true _
    (sym c.in_ok-n.was ∙ part-string a.input.now (a.at + 1) c.name.ensures)

pub returns : goal.returns
returns c =
    let a = c.args in
    slot_other a.k a.input.now a.at a.due c.if-due-eq0.false c.if-input-at.false c.requires.1 c.if-input-at-2.false c.no_slot-2.ensures
