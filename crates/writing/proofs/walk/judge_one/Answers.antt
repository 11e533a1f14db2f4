-- `writing::walk::judge_one` meets its contract: `one_right` and `one_wrong` say what one field answers, `wrong-near` and `wide_at_most`
-- that the places fit.
use native.Mathlib.Omega.{arith}
use mathlib.Core.Path.{sym, ◌∙◌}
use Rattle.fields.proofs.WidthLaws.{wide_at_most}
use Rattle.writing.proofs.JudgedLaws.{one_right, one_wrong, wrong-near}
use Rattle.writing.proofs.walk.judge_one.Goals as goal

pub overflow_add-next : goal.overflow_add-next
overflow_add-next c = let small = wide_at_most _ _ c.wide_of.ensures in omega arith

pub overflow_add-place : goal.overflow_add-place
overflow_add-place c =
    let a = c.args in
    omega (arith, wrong-near a.pool.now a.f c.rest_of-ws.result.now _ _ (sym c.flaw_of.ensures ∙ c.in-Err.is))

pub returns-in-Ok : goal.returns-in-Ok
returns-in-Ok c =
    let a = c.args in
    one_right a.pool.now a.row.now a.f a.at a.made _ c.rest_of-ws.ensures (sym c.flaw_of.ensures ∙ c.in-Ok.is)
    _ _ c.wide_of.ensures c.size_of.ensures.0

pub returns-in-Err : goal.returns-in-Err
returns-in-Err c =
    let a = c.args in
    one_wrong a.pool.now a.row.now a.f a.at a.made _ c.rest_of-ws.ensures _ _ (sym c.flaw_of.ensures ∙ c.in-Err.is)
