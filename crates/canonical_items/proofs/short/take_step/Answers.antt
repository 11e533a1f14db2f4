-- `take_step` meets its contract: each arm is the step of its field.
use Rattle.canonical_items.proofs.ShortLaws.{nothing_step, index_step, flag_step, rep_step}
use Rattle.canonical_items.proofs.short.take_step.Goals as goal

pub returns-in-Nothing : goal.returns-in-Nothing
returns-in-Nothing c = λ g low.
    let a = c.args in
    nothing_step g a.at a.input.now c.in-Nothing.is

pub returns-in-Index : goal.returns-in-Index
returns-in-Index c = λ g low.
    let a = c.args in
    index_step g a.at a.input.now c.in-Index.is c.index.result (c.index.ensures g)

pub returns-in-Flag : goal.returns-in-Flag
returns-in-Flag c = λ g low.
    let a = c.args in
    flag_step g a.at a.input.now low c.in-Flag.is c.either.ensures

pub returns-in-Rep : goal.returns-in-Rep
returns-in-Rep c = λ g low.
    let a = c.args in
    rep_step g a.at a.input.now low c.in-Rep.is c.either-in-Rep.ensures
