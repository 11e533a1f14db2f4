-- `fields_end` meets its contract: the groups that are due end where all of them do (`Going`), and each step says whether its field is
-- right (`name-some`, `name_none`, `value-some`, `step_none`).
use Prim.Native.Nat.{◌+◌}
use native.Mathlib.Omega.{arith}
use mathlib.Core.Path.{sym, ◌∙◌}
use Rattle.fields.specs.declared.Field.TheVariants as field
use Rattle.reading.proofs.StepLaws.{going_end, going_first, going_second, going_next}
use Rattle.items.proofs.EndLaws.{name-some, name_none, value-some, step_none, going_on}
use Rattle.items.proofs.groups.fields_end.Goals as goal

pub returns-in_err-one : goal.returns-in_err-one
returns-in_err-one c =
    let wrong = name_none c.args.grade c.args.input.now c.loop.at (sym c.in_err-one.was ∙ c.name.ensures) in
    c.from_residual.ensures ∙ going_first c.loop.invariant (omega arith) wrong

pub overflow_add-at : goal.overflow_add-at
overflow_add-at c =
    let one = name-some c.args.grade c.args.input.now c.loop.at (sym c.in_ok-one.was ∙ c.name.ensures) in
    omega (arith, one.1, c.loop.invariant.inside, c.requires.0)

pub slice_bounds-value-count : goal.slice_bounds-value-count
slice_bounds-value-count c =
    let one = name-some c.args.grade c.args.input.now c.loop.at (sym c.in_ok-one.was ∙ c.name.ensures) in
    omega (arith, one.1, c.loop.invariant.inside)

pub slice_bounds-value-start : goal.slice_bounds-value-start
slice_bounds-value-start c =
    let one = name-some c.args.grade c.args.input.now c.loop.at (sym c.in_ok-one.was ∙ c.name.ensures) in
    omega (arith, one.1, c.loop.invariant.inside)

pub returns-in_err-two : goal.returns-in_err-two
returns-in_err-two c =
    let one = name-some c.args.grade c.args.input.now c.loop.at (sym c.in_ok-one.was ∙ c.name.ensures) in
    let wrong = step_none c.args.grade field.Value c.args.input.now (c.loop.at + c.in_ok-one.one.took) (sym c.in_err-two.was ∙ c.value.ensures) in
    c.from_residual-in_err-two.ensures ∙ going_second c.loop.invariant (omega arith) one.0 wrong

pub overflow_add-at-in-loop : goal.overflow_add-at-in-loop
overflow_add-at-in-loop c =
    let one = name-some c.args.grade c.args.input.now c.loop.at (sym c.in_ok-one.was ∙ c.name.ensures) in
    let two = value-some c.args.grade c.args.input.now (c.loop.at + c.in_ok-one.one.took) (sym c.in_ok-two.was ∙ c.value.ensures) in
    omega (arith, one.1, two.1, c.loop.invariant.inside, c.requires.0)

pub loop-preserved : goal.loop-preserved
loop-preserved c =
    let one = name-some c.args.grade c.args.input.now c.loop.at (sym c.in_ok-one.was ∙ c.name.ensures) in
    let two = value-some c.args.grade c.args.input.now (c.loop.at + c.in_ok-one.one.took) (sym c.in_ok-two.was ∙ c.value.ensures) in
    going_on _ (going_next c.loop.invariant (omega arith) one.0 two.0)

pub returns : goal.returns
returns c = going_end c.loop.invariant (omega arith)
