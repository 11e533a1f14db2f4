-- `options_end` meets its contract: the options that are due end where all of them do (`Going`).
use native.Mathlib.Omega.{arith}
use mathlib.Core.Path.{◌∙◌}
use Rattle.reading.proofs.StepLaws.{going_end, going_first, going_alone, going_as}
use Rattle.canonical_items.proofs.OptionLaws.{choice_some, choice_none}
use Rattle.canonical_items.proofs.options.options_end.Goals as goal

pub returns-in_err-one : goal.returns-in_err-one
returns-in_err-one c =
    let a = c.args in
    let wrong = choice_none a.grade a.input.now c.loop.at c.option.ensures c.in_err-one.was in
    c.from_residual.ensures ∙ going_first c.loop.invariant (omega (arith, c.loop-test.true)) wrong

pub overflow_add-at : goal.overflow_add-at
overflow_add-at c =
    let a = c.args in
    let one = choice_some a.grade a.input.now c.loop.at c.option.ensures c.in_ok-one.was in
    omega (arith, one.1, c.loop.invariant.inside, c.requires.0)

pub loop-preserved : goal.loop-preserved
loop-preserved c =
    let a = c.args in
    let one = choice_some a.grade a.input.now c.loop.at c.option.ensures c.in_ok-one.was in
    going_as (going_alone c.loop.invariant (omega (arith, c.loop-test.true)) one.0) (omega arith)

pub returns : goal.returns
returns c = going_end c.loop.invariant (omega (arith, c.loop-test.false))
