-- `labels_end` meets its contract: the labels that are due end where all of them do (`Going`), and each step says whether its label is
-- right (`name-some`, `name_none`).
use native.Mathlib.Omega.{arith}
use mathlib.Core.Path.{sym, ◌∙◌}
use Rattle.reading.proofs.StepLaws.{going_end, going_first, going_alone}
use Rattle.items.proofs.EndLaws.{name-some, name_none, going_on}
use Rattle.items.proofs.groups.labels_end.Goals as goal

pub returns-in_err-one : goal.returns-in_err-one
returns-in_err-one c =
    let wrong = name_none 1 c.args.input.now c.loop.at (sym c.in_err-one.was ∙ c.name.ensures) in
    c.from_residual.ensures ∙ going_first c.loop.invariant (omega arith) wrong

pub overflow_add-at : goal.overflow_add-at
overflow_add-at c =
    let one = name-some 1 c.args.input.now c.loop.at (sym c.in_ok-one.was ∙ c.name.ensures) in
    omega (arith, one.1, c.loop.invariant.inside, c.requires.0)

pub loop-preserved : goal.loop-preserved
loop-preserved c =
    let one = name-some 1 c.args.input.now c.loop.at (sym c.in_ok-one.was ∙ c.name.ensures) in
    going_on _ (going_alone c.loop.invariant (omega arith) one.0)

pub returns : goal.returns
returns c = going_end c.loop.invariant (omega arith)
