-- `writing::walk::judge_shape` meets its contract: the two calls at the start are the opening, by `after_both`, and the laws of the
-- stages say what follows it. The row is as wide as the shape needs, so every place and size is small.
use Prim.Native.Nat.{◌^◌}
use native.Mathlib.Omega.{arith}
use mathlib.Core.Path.{◌≡◌, ◌∙◌}
use mathlib.Core.List.{[], ◌∷◌}
use Rattle.fields.specs.Leaf.{Fine}
use Rattle.fields.specs.inside.Run.{onward}
use Rattle.fields.specs.Shape.{opening}
use Rattle.fields.proofs.LoopLaws.{after_both}
use Rattle.fields.proofs.OutcomeLaws.{passed-on}
use Rattle.fields.proofs.StageLaws.{walk_bad, walk_counted, walk_plain}
use Rattle.writing.specs.Judge.{judge}
use Rattle.writing.proofs.JudgedLaws.{Suits, start_small, start_under, opening_counted}
use Rattle.writing.proofs.StagedLaws.{tells}
use Rattle.writing.proofs.walk.judge_shape.Goals as goal
use Rattle.writing.proofs.walk.judge_shape.Goals.{After-judge_two-opening, Start}

-- what is required
suits : (c : Start) → let a = c.args in Suits a.s a.pool.now a.row.now a.start
suits c = record { small = c.requires.pool_len_bound.0; short = c.requires.pool_len_bound.1; fits = c.requires.start_value }

-- the two calls are the opening
opened : (c : After-judge_two-opening)
    → let a = c.args in
    c.judge_two-opening.result ≡ onward (judge a.pool.now) a.row.now (opening a.s) a.start 0
opened c =
    let a = c.args in
    after_both (judge a.pool.now) a.row.now (Fine a.start 0) _ _ (a.s.lead ∷ a.s.zero ∷ []) (a.s.first ∷ a.s.second ∷ [])
    c.judge_two-leads.ensures c.judge_two-opening.ensures

pub judge_two-leads-requires-clause-under : goal.judge_two-leads-requires-clause-under
judge_two-leads-requires-clause-under c =
    let z = start_small (suits (goal.at.judge_two-leads-requires-clause-under c).Start) in
    (omega arith, omega arith)

pub judge_two-opening-requires-clause-under : goal.judge_two-opening-requires-clause-under
judge_two-opening-requires-clause-under c =
    let s = c.args.s in
    start_under (suits (goal.at.judge_two-opening-requires-clause-under c).Start) (s.lead ∷ s.zero ∷ []) _ c.judge_two-leads.ensures (2 ^ 40) (2 ^ 60) (omega arith) (omega arith)

pub judge_counted-requires-clause-s_bound : goal.judge_counted-requires-clause-s_bound
judge_counted-requires-clause-s_bound c = (opening_counted (suits (goal.at.judge_counted-requires-clause-s_bound c).Start) _ (opened (goal.at.judge_counted-requires-clause-s_bound c).After-judge_two-opening) _ _ c.in_ok-at.was c.if-s.true).0

pub judge_counted-requires-clause-at_bound : goal.judge_counted-requires-clause-at_bound
judge_counted-requires-clause-at_bound c = (opening_counted (suits (goal.at.judge_counted-requires-clause-at_bound c).Start) _ (opened (goal.at.judge_counted-requires-clause-at_bound c).After-judge_two-opening) _ _ c.in_ok-at.was c.if-s.true).1

pub returns-then-s : goal.returns-then-s
returns-then-s c =
    let a = c.args in
    walk_counted (tells a.pool.now a.row.now) a.s a.start 0 _ (opened (goal.at.returns-then-s c).After-judge_two-opening) _ _ c.in_ok-at.was c.if-s.true _
    c.judge_counted.ensures

pub returns-in_err-at : goal.returns-in_err-at
returns-in_err-at c =
    let a = c.args in
    passed-on _ c.from_residual.ensures
    ∙ walk_bad (tells a.pool.now a.row.now) a.s a.start 0 _ (opened (goal.at.returns-in_err-at c).After-judge_two-opening) _ _ c.in_err-at.was

pub judge_next-requires-clause-under : goal.judge_next-requires-clause-under
judge_next-requires-clause-under c = start_under (suits (goal.at.judge_next-requires-clause-under c).Start) (opening c.args.s) _ (opened (goal.at.judge_next-requires-clause-under c).After-judge_two-opening) (2 ^ 41) (2 ^ 61) (omega arith) (omega arith)

pub returns : goal.returns
returns c =
    let a = c.args in
    walk_plain (tells a.pool.now a.row.now) a.s a.start 0 _ (opened (goal.at.returns c).After-judge_two-opening) c.if-s.false _ c.judge_next.ensures
