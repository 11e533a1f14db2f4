-- `values_end` meets its contract: the Vs that are due end where all of them do (`Going`); a V is right where a short number is seen
-- (`value-short`) or its step answers (`value-some`).
use native.Mathlib.Omega.{arith}
use mathlib.Core.Path.{sym, ◌∙◌}
use Rattle.fields.specs.declared.Field.TheVariants as field
use Rattle.reading.proofs.StepLaws.{going_end, going_first}
use Rattle.items.proofs.EndLaws.{value-some, value-short, step_none, going_past}
use Rattle.items.proofs.groups.values_end.Goals as goal
use Rattle.items.proofs.groups.values_end.Goals.{in-Some, in_default+in_ok-one}

pub returns-in_err-one : goal.returns-in_err-one
returns-in_err-one c =
    let wrong = step_none c.args.grade field.Value c.args.input.now c.loop.at (sym c.in_err-one.was ∙ c.value.ensures) in
    c.from_residual.ensures ∙ going_first c.loop.invariant (omega arith) wrong

pub overflow_add-at : goal.overflow_add-at
overflow_add-at c =
    let one = value-short c.args.grade c.args.input.now c.loop.at (sym c.in-Some.is ∙ c.short_signed.ensures) in
    omega (arith, one.1, c.loop.invariant.inside, c.requires.0)

pub overflow_add-at-in_default : goal.overflow_add-at-in_default
overflow_add-at-in_default c =
    let one = value-some c.args.grade c.args.input.now c.loop.at (sym c.in_ok-one.was ∙ c.value.ensures) in
    omega (arith, one.1, c.loop.invariant.inside, c.requires.0)

pub loop-preserved : goal.loop-preserved
loop-preserved c =
    let g = c.args.grade in
    let input = c.args.input.now in
    elim c.match-short_signed.branch [
      | in-Some w ↦ (
          let one = value-short g input c.loop.at (sym w.in-Some.is ∙ c.short_signed.ensures) in
          going_past _ c.loop.invariant (omega arith) one.0 _ w.at-is)
      | in_default+in_ok-one w ↦ (
          let one = value-some g input c.loop.at (sym w.in_ok-one.was ∙ w.value.ensures) in
          going_past _ c.loop.invariant (omega arith) one.0 _ w.at-is)
    ]

pub returns : goal.returns
returns c = going_end c.loop.invariant (omega arith)
