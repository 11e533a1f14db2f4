-- `is_framed` meets its contract. The loop's invariant: the rows from here are whole where those from the start are. The measure is how
-- many bytes are due.
use native.Mathlib.Omega.{arith}
use mathlib.Core.Path.{refl, sym, ap, ◌∙◌}
use Rattle.sheets.specs.inside.Steps.{whole}
use Rattle.sheets.proofs.FrameLaws.{rest_done, rest_short, rest_long, whole-one}
use Rattle.sheets.proofs.is_framed.Goals as goal

pub loop-at-init : goal.loop-at-init
loop-at-init c = (c.requires, refl)

pub overflow_sub-input : goal.overflow_sub-input
overflow_sub-input c = omega arith

pub returns-then-input-at-lt4 : goal.returns-then-input-at-lt4
returns-then-input-at-lt4 c =
    let input = c.args.input.now in
    sym (c.loop-at.invariant.1 ∙ ap whole (rest_short input c.loop-at.at (omega arith) (omega arith)))

pub number_at-n-requires : goal.number_at-n-requires
number_at-n-requires c = omega arith

pub overflow_sub-input-in-loop-at : goal.overflow_sub-input-in-loop-at
overflow_sub-input-in-loop-at c = omega arith

pub overflow_sub-input-in-loop-at-2 : goal.overflow_sub-input-in-loop-at-2
overflow_sub-input-in-loop-at-2 c = omega arith

pub returns-then-input-at : goal.returns-then-input-at
returns-then-input-at c =
    let input = c.args.input.now in
    sym (c.loop-at.invariant.1 ∙ ap whole (rest_long input c.loop-at.at (omega arith) (omega arith)))

pub overflow_mul-at : goal.overflow_mul-at
overflow_mul-at c = omega arith

pub overflow_add-at : goal.overflow_add-at
overflow_add-at c = omega arith

pub overflow_add-at-in-loop-at : goal.overflow_add-at-in-loop-at
overflow_add-at-in-loop-at c = omega arith

pub loop-at-smaller : goal.loop-at-smaller
loop-at-smaller c = omega arith

pub loop-at-preserved : goal.loop-at-preserved
loop-at-preserved c =
    let input = c.args.input.now in
    (omega arith, c.loop-at.invariant.1 ∙ whole-one input c.loop-at.at _ (omega arith) (omega arith))

pub returns : goal.returns
returns c =
    let input = c.args.input.now in
    sym (c.loop-at.invariant.1 ∙ ap whole (rest_done input c.loop-at.at (omega arith)))
