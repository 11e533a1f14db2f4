-- `scan_groups` meets its contract. The loop's invariant is `Walked`: the walk over the groups that are due, from here, is the whole;
-- the place stays inside the input, and a group makes 22 words at most.
use native.Mathlib.Omega.{arith}
use Rattle.std.proofs.lemmas.Result.{err_from_is_err_and}
use Rattle.reading.specs.Scan.{scan}
use Rattle.fields.specs.Shape.{group}
use Rattle.fields.proofs.LoopLaws.{walked_start, walked_next, walked_bad, walked_end}
use Rattle.reading.proofs.ScannedLaws.{group_under}
use Rattle.reading.proofs.item.scan_groups.Goals as goal

pub loop-init : goal.loop-init
loop-init c =
    let a = c.args in
    (walked_start (scan a.lead a.grade) a.input.now (group a.s) a.n a.from a.base, c.requires.n_bound.1, omega arith)

pub scan_two-requires-clause-input_len_bound : goal.scan_two-requires-clause-input_len_bound
scan_two-requires-clause-input_len_bound c = c.requires.input_len_bound

pub scan_two-requires-clause-under : goal.scan_two-requires-clause-under
scan_two-requires-clause-under c = (omega arith, omega arith)

pub returns-in_err-next : goal.returns-in_err-next
returns-in_err-next c =
    let a = c.args in
    let p = err_from_is_err_and c.from_residual.result c.from_residual.ensures.1 in
    rw (p.1, p.2) (walked_bad (scan a.lead a.grade) a.input.now (group a.s) a.n a.from a.base c.loop.counter c.loop.at c.loop.made
    c.loop.invariant.0
    (omega arith) _ c.scan_two.ensures _ _ c.in_err-next.was)

pub loop-preserved : goal.loop-preserved
loop-preserved c =
    let a = c.args in
    let far = group_under a.lead a.grade a.input.now a.s.one a.s.two c.loop.at c.loop.made _ c.scan_two.ensures
    c.loop.invariant.1 _ _ c.in_ok-next.was in (
      walked_next (scan a.lead a.grade) a.input.now (group a.s) a.n a.from a.base c.loop.counter c.loop.at c.loop.made
          c.loop.invariant.0
          (omega arith) _ c.scan_two.ensures _ _ c.in_ok-next.was,
      far.0,
      omega arith,
    )

pub returns : goal.returns
returns c =
    let a = c.args in
    walked_end (scan a.lead a.grade) a.input.now (group a.s) a.n a.from a.base c.loop.counter c.loop.at c.loop.made
    c.loop.invariant.0 (omega arith)
