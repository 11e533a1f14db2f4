-- `writing::walk::judge_groups` meets its contract. The loop's invariant is `Groups`: the walk over the groups that are due, from here,
-- is the whole.
use Prim.Native.Nat.{◌^◌}
use native.Mathlib.Nat.{mul-le-mul_right}
use native.Mathlib.Omega.{arith}
use mathlib.Core.Path.{refl, subst, ◌∙◌}
use mathlib.Core.List.{[], ◌∷◌}
use Rattle.fields.specs.Leaf.{Fine}
use Rattle.fields.specs.inside.Run.{Under}
use Rattle.fields.specs.Shape.{group, widths}
use Rattle.fields.proofs.OutcomeLaws.{passed-on}
use Rattle.fields.proofs.LoopLaws.{pair_fine, pair_bad, walked_bad, walked_end}
use Rattle.writing.specs.Judge.{judge}
use Rattle.writing.proofs.JudgedLaws.{after_bound, groups_start, groups_next}
use Rattle.writing.proofs.walk.judge_groups.Goals as goal

pub loop-i-init : goal.loop-i-init
loop-i-init c =
    let a = c.args in
    groups_start a.pool.now a.row.now (group a.s) a.n a.from a.base

pub judge_one-requires-clause-at_bound : goal.judge_one-requires-clause-at_bound
judge_one-requires-clause-at_bound c =
    let less = mul-le-mul_right (widths (group c.args.s)) c.loop-i.invariant.walked.count in
    (omega arith, omega arith)

-- the first field is bad
pub returns-in_err-first : goal.returns-in_err-first
returns-in_err-first c =
    let a = c.args in
    passed-on _ c.from_residual.ensures
    ∙ walked_bad (judge a.pool.now) a.row.now (group a.s) a.n a.from a.base c.loop-i.i c.loop-i.at c.loop-i.made c.loop-i.invariant.walked
    c.loop-i-test.true _
    (pair_bad (judge a.pool.now) a.row.now a.s.one a.s.two c.loop-i.at c.loop-i.made c.judge_one.result
    c.judge_one.ensures _ _ c.in_err-first.was) _ _ refl

-- what is judged of the first is small
pub judge_one-requires-in-loop-i-clause-at_bound : goal.judge_one-requires-in-loop-i-clause-at_bound
judge_one-requires-in-loop-i-clause-at_bound c =
    let a = c.args in
    let less = mul-le-mul_right (widths (group a.s)) c.loop-i.invariant.walked.count in
    let u = after_bound a.pool.now a.row.now c.requires.pool_len_bound (Fine c.loop-i.at c.loop-i.made) (a.s.one ∷ []) c.judge_one.result
    c.judge_one.ensures (2 ^ 40) (2 ^ 60) (2 ^ 41) (2 ^ 61) (omega arith, omega arith) (omega arith) (omega arith) in
    subst (λ l. Under l (2 ^ 41) (2 ^ 61)) c.in_ok-first.was u

-- the second field is bad
pub returns-in_err-second : goal.returns-in_err-second
returns-in_err-second c =
    let a = c.args in
    passed-on _ c.from_residual-in_err-second.ensures
    ∙ walked_bad (judge a.pool.now) a.row.now (group a.s) a.n a.from a.base c.loop-i.i c.loop-i.at c.loop-i.made c.loop-i.invariant.walked
    c.loop-i-test.true c.judge_one-in-loop-i.result
    (pair_fine (judge a.pool.now) a.row.now a.s.one a.s.two c.loop-i.at c.loop-i.made c.judge_one.result
    c.judge_one.ensures c.in_ok-first.was c.judge_one-in-loop-i.result c.judge_one-in-loop-i.ensures) _ _ c.in_err-second.was

pub loop-i-preserved : goal.loop-i-preserved
loop-i-preserved c =
    let a = c.args in
    groups_next a.pool.now a.row.now (group a.s) a.n a.from a.base c.loop-i.i c.loop-i.at c.loop-i.made c.loop-i.invariant
    c.loop-i-test.true c.judge_one-in-loop-i.result
    (pair_fine (judge a.pool.now) a.row.now a.s.one a.s.two c.loop-i.at c.loop-i.made c.judge_one.result
    c.judge_one.ensures c.in_ok-first.was c.judge_one-in-loop-i.result c.judge_one-in-loop-i.ensures) _ _ c.requires.pool_len_bound c.in_ok-second.was

pub returns : goal.returns
returns c =
    let a = c.args in
    walked_end (judge a.pool.now) a.row.now (group a.s) a.n a.from a.base c.loop-i.i c.loop-i.at c.loop-i.made c.loop-i.invariant.walked
    c.loop-i-test.false
