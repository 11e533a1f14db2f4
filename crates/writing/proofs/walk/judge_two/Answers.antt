-- `writing::walk::judge_two` meets its contract: `after_both` makes one walk of the two, and `after_bound` keeps the first small.
use Prim.Native.Nat.{◌^◌}
use native.Mathlib.Omega.{arith}
use mathlib.Core.List.{[], ◌∷◌}
use Rattle.fields.proofs.RunLaws.{under_more}
use Rattle.fields.proofs.LoopLaws.{after_both}
use Rattle.writing.specs.Judge.{judge}
use Rattle.writing.proofs.JudgedLaws.{after_bound}
use Rattle.writing.proofs.walk.judge_two.Goals as goal

pub judge_next-one-requires-clause-under : goal.judge_next-one-requires-clause-under
judge_next-one-requires-clause-under c =
    under_more c.args.so (2 ^ 40) (2 ^ 60) (2 ^ 41) (2 ^ 61) c.requires.under (omega arith) (omega arith)

pub judge_next-requires-clause-under : goal.judge_next-requires-clause-under
judge_next-requires-clause-under c =
    let a = c.args in
    after_bound a.pool.now a.row.now c.requires.pool_len_bound a.so (a.a ∷ []) _ c.judge_next-one.ensures (2 ^ 40) (2 ^ 60) (2 ^ 41) (2 ^ 61) c.requires.under
    (omega arith) (omega arith)

pub returns : goal.returns
returns c =
    let a = c.args in
    after_both (judge a.pool.now) a.row.now a.so _ _ (a.a ∷ []) (a.b ∷ []) c.judge_next-one.ensures c.judge_next.ensures
