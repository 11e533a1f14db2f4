-- `writing::walk::judge_counted` meets its contract: `counted_judged` puts the count before the groups and the closing, and `counted_under`
-- keeps the groups small.
use native.Mathlib.Omega.{arith}
use Rattle.numbers.proofs.LebLaws.{size_bounds}
use Rattle.writing.proofs.JudgedLaws.{counted_under, counted_judged}
use Rattle.writing.proofs.walk.judge_counted.Goals as goal

pub overflow_add-base : goal.overflow_add-base
overflow_add-base c = omega (arith, c.unsigned_size.ensures, size_bounds 128 c.word_at-count.result)

pub judge_groups-groups-requires-clause-n_bound : goal.judge_groups-groups-requires-clause-n_bound
judge_groups-groups-requires-clause-n_bound c = (omega arith, rw c.word_at-count.ensures c.requires.s_bound)

pub judge_groups-groups-requires-clause-from_bound : goal.judge_groups-groups-requires-clause-from_bound
judge_groups-groups-requires-clause-from_bound c =
    (omega arith, omega (arith, c.unsigned_size.ensures, size_bounds 128 c.word_at-count.result))

pub judge_next-requires-clause-under : goal.judge_next-requires-clause-under
judge_next-requires-clause-under c =
    let a = c.args in
    counted_under a.s a.pool.now a.row.now a.at a.made _ _ c.word_at-count.ensures c.unsigned_size.ensures _
    c.judge_groups-groups.ensures c.requires.pool_len_bound (omega arith) (rw c.word_at-count.ensures c.requires.s_bound) (omega arith) (omega arith)

pub returns : goal.returns
returns c =
    let a = c.args in
    counted_judged a.s a.pool.now a.row.now a.at a.made _ _ c.word_at-count.ensures c.unsigned_size.ensures _
    c.judge_groups-groups.ensures _ c.judge_next.ensures
