-- `cases_end` meets its contract: the groups that are due end where all of them do (`Going`), and each step says whether its field is
-- right (`name-some`, `name_none`, `case-some`, `case_never`).
use Prim.Native.Nat.{◌+◌}
use native.Mathlib.Omega.{arith}
use mathlib.Core.Path.{sym, ◌∙◌}
use Rattle.reading.proofs.StepLaws.{going_end, going_first, going_second, going_next}
use Rattle.items.proofs.EndLaws.{name-some, name_none, case-some, case_never, going_on}
use Rattle.items.proofs.groups.cases_end.Goals as goal

pub returns-in_err-one : goal.returns-in_err-one
returns-in_err-one c =
    let wrong = name_none c.args.grade c.args.input.now c.loop.at (sym c.in_err-one.was ∙ c.name.ensures) in
    c.from_residual.ensures ∙ going_first c.loop.invariant (omega arith) wrong

pub overflow_add-at : goal.overflow_add-at
overflow_add-at c =
    let one = name-some c.args.grade c.args.input.now c.loop.at (sym c.in_ok-one.was ∙ c.name.ensures) in
    omega (arith, one.1, c.loop.invariant.inside, c.requires.0)

pub slice_bounds-case_took-count : goal.slice_bounds-case_took-count
slice_bounds-case_took-count c =
    let one = name-some c.args.grade c.args.input.now c.loop.at (sym c.in_ok-one.was ∙ c.name.ensures) in
    omega (arith, one.1, c.loop.invariant.inside)

pub slice_bounds-case_took-start : goal.slice_bounds-case_took-start
slice_bounds-case_took-start c =
    let one = name-some c.args.grade c.args.input.now c.loop.at (sym c.in_ok-one.was ∙ c.name.ensures) in
    omega (arith, one.1, c.loop.invariant.inside)

pub returns-in_err-took : goal.returns-in_err-took
returns-in_err-took c =
    let one = name-some c.args.grade c.args.input.now c.loop.at (sym c.in_ok-one.was ∙ c.name.ensures) in
    let wrong = case_never c.args.grade c.args.input.now (c.loop.at + c.in_ok-one.one.took) (sym c.in_err-took.was ∙ c.case_took.ensures) in
    c.from_residual-in_err-took.ensures ∙ going_second c.loop.invariant (omega arith) one.0 wrong

pub overflow_add-at-in-loop : goal.overflow_add-at-in-loop
overflow_add-at-in-loop c =
    let one = name-some c.args.grade c.args.input.now c.loop.at (sym c.in_ok-one.was ∙ c.name.ensures) in
    let two = case-some c.args.grade c.args.input.now (c.loop.at + c.in_ok-one.one.took) (sym c.in_ok-took.was ∙ c.case_took.ensures) in
    omega (arith, one.1, two.1, c.loop.invariant.inside, c.requires.0)

pub loop-preserved : goal.loop-preserved
loop-preserved c =
    let one = name-some c.args.grade c.args.input.now c.loop.at (sym c.in_ok-one.was ∙ c.name.ensures) in
    let two = case-some c.args.grade c.args.input.now (c.loop.at + c.in_ok-one.one.took) (sym c.in_ok-took.was ∙ c.case_took.ensures) in
    going_on _ (going_next c.loop.invariant (omega arith) one.0 two.0)

pub returns : goal.returns
returns c = going_end c.loop.invariant (omega arith)
