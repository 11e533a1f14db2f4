-- `groups_end` meets its contract: the groups that are due end where all of them do (`Going`), and each step says whether its field is
-- right (`took-some`, `took_none`).
use Prim.Native.Nat.{ℕ, ◌+◌, ◌-◌}
use native.Mathlib.Omega.{arith}
use mathlib.Core.Path.{◌≡◌, ◌∙◌, sym, ap, subst}
use Rattle.instance_items.specs.inside.Group.{group_one, group_two, group_of}
use Rattle.reading.proofs.StepLaws.{Going, going_start, going_end, going_first, going_second, going_next}
use Rattle.instance_items.proofs.FieldLaws.{one-taking, two_taking, took_of, pair-took}
use Rattle.instance_items.proofs.GroupLaws.{part_length, took-some, took_none}
use Rattle.instance_items.proofs.groups.groups_end.Goals as goal

pub loop-init : goal.loop-init
loop-init c =
    let a = c.args in
    let all : a.n ≡ a.n - 0 = omega arith in
    subst (λ (left : ℕ). Going a.grade a.input.now (group_of a.kind) a.n a.from left a.from) all (going_start c.requires.1)

pub first_took-requires : goal.first_took-requires
first_took-requires c = (omega (arith, part_length c.args.input.now c.loop.at, c.requires.0), c.requires.2, c.requires.3)

pub returns-in_err-one : goal.returns-in_err-one
returns-in_err-one c =
    let a = c.args in
    let wrong = took_none a.grade (group_one a.kind) a.input.now c.loop.at (sym c.in_err-one.was ∙ c.first_took.ensures) in
    c.from_residual.ensures ∙ going_first c.loop.invariant (omega arith) wrong

pub overflow_add-at : goal.overflow_add-at
overflow_add-at c =
    let a = c.args in
    let one = took-some a.grade (group_one a.kind) a.input.now c.loop.at (one-taking a.kind) (sym c.in_ok-one.was ∙ c.first_took.ensures) in
    omega (arith, one.1, c.loop.invariant.inside, c.requires.0)

pub slice_bounds-second-count : goal.slice_bounds-second-count
slice_bounds-second-count c =
    let a = c.args in
    let one = took-some a.grade (group_one a.kind) a.input.now c.loop.at (one-taking a.kind) (sym c.in_ok-one.was ∙ c.first_took.ensures) in
    omega (arith, one.1, c.loop.invariant.inside)

pub slice_bounds-second-start : goal.slice_bounds-second-start
slice_bounds-second-start c =
    let a = c.args in
    let one = took-some a.grade (group_one a.kind) a.input.now c.loop.at (one-taking a.kind) (sym c.in_ok-one.was ∙ c.first_took.ensures) in
    omega (arith, one.1, c.loop.invariant.inside)

pub returns-in_err-two : goal.returns-in_err-two
returns-in_err-two c =
    let a = c.args in
    let one = took-some a.grade (group_one a.kind) a.input.now c.loop.at (one-taking a.kind) (sym c.in_ok-one.was ∙ c.first_took.ensures) in
    let ends = ap took_of (sym c.in_err-two.was ∙ c.second.ensures a.grade) ∙ pair-took a.grade (group_two a.kind) _ in
    let wrong = took_none a.grade (group_two a.kind) a.input.now (c.loop.at + c.in_ok-one.one) ends in
    c.from_residual-in_err-two.ensures ∙ going_second c.loop.invariant (omega arith) one.0 wrong

pub overflow_add-at-in-loop : goal.overflow_add-at-in-loop
overflow_add-at-in-loop c =
    let a = c.args in
    let one = took-some a.grade (group_one a.kind) a.input.now c.loop.at (one-taking a.kind) (sym c.in_ok-one.was ∙ c.first_took.ensures) in
    let ends = ap took_of (sym c.in_ok-two.was ∙ c.second.ensures a.grade) ∙ pair-took a.grade (group_two a.kind) _ in
    let two = took-some a.grade (group_two a.kind) a.input.now (c.loop.at + c.in_ok-one.one) (two_taking a.kind) ends in
    omega (arith, one.1, two.1, c.loop.invariant.inside, c.requires.0)

pub loop-preserved : goal.loop-preserved
loop-preserved c =
    let a = c.args in
    let one = took-some a.grade (group_one a.kind) a.input.now c.loop.at (one-taking a.kind) (sym c.in_ok-one.was ∙ c.first_took.ensures) in
    let ends = ap took_of (sym c.in_ok-two.was ∙ c.second.ensures a.grade) ∙ pair-took a.grade (group_two a.kind) _ in
    let two = took-some a.grade (group_two a.kind) a.input.now (c.loop.at + c.in_ok-one.one) (two_taking a.kind) ends in
    let less : a.n - c.loop.counter - 1 ≡ a.n - (c.loop.counter + 1) = omega arith in
    subst (λ (left : ℕ). Going a.grade a.input.now (group_of a.kind) a.n a.from left (c.loop.at + c.in_ok-one.one + c.in_ok-two.two.took)) less
    (going_next c.loop.invariant (omega arith) one.0 two.0)

pub returns : goal.returns
returns c = going_end c.loop.invariant (omega arith)
