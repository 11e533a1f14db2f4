-- `scan_shape` meets its contract: the two calls at the start are the opening, by `after_both`, and the laws of the stages say what follows
-- it.
use Prim.Native.Nat.{◌^◌}
use native.Mathlib.Omega.{arith}
use mathlib.Core.Path.{◌≡◌}
use Rattle.std.proofs.lemmas.Result.{err_from_is_err_and}
use mathlib.Core.List.{[], ◌∷◌}
use lib.ListN.{length}
use Rattle.fields.specs.Leaf.{Fine}
use Rattle.reading.specs.Scan.{scan}
use Rattle.fields.specs.Shape.{opening}
use Rattle.fields.proofs.RunLaws.{under_more}
use Rattle.fields.proofs.LoopLaws.{after_both}
use Rattle.fields.proofs.StageLaws.{walk_bad, walk_counted, walk_plain}
use Rattle.reading.proofs.ScannedLaws.{scans, tells, after_under, opening_under, opening_ends}
use Rattle.reading.proofs.item.scan_shape.Goals as goal
use Rattle.reading.proofs.item.scan_shape.Goals.{After-scan_two-opening}

-- the two calls are the opening
opened : (c : After-scan_two-opening)
    → let a = c.args in
    c.scan_two-opening.result ≡ scans a.lead a.grade a.input.now (opening a.s) 0 1
opened c =
    let a = c.args in
    after_both (scan a.lead a.grade) a.input.now (Fine 0 1) _ _ (a.s.lead ∷ a.s.zero ∷ []) (a.s.first ∷ a.s.second ∷ [])
    c.scan_two-leads.ensures c.scan_two-opening.ensures

pub scan_two-opening-requires : goal.scan_two-opening-requires
scan_two-opening-requires c =
    let a = c.args in
    let s = a.s in record {
      input_len_bound = c.requires;
      under = after_under a.lead a.grade a.input.now (Fine 0 1) (s.lead ∷ s.zero ∷ []) _ c.scan_two-leads.ensures (2 ^ 30) 1 (2 ^ 60) c.requires
          (omega arith, omega arith) (omega arith);
    }

pub scan_counted-requires-clause-input_len_bound : goal.scan_counted-requires-clause-input_len_bound
scan_counted-requires-clause-input_len_bound c =
    let a = c.args in
    c.requires

pub scan_counted-requires-clause-at_in_bounds : goal.scan_counted-requires-clause-at_in_bounds
scan_counted-requires-clause-at_in_bounds c =
    let a = c.args in
    opening_ends a.lead a.grade a.input.now a.s _ (opened (goal.at.scan_counted-requires-clause-at_in_bounds c).After-scan_two-opening) _ _ c.in_ok-at.was

pub returns-then-s : goal.returns-then-s
returns-then-s c =
    let a = c.args in
    walk_counted (tells a.lead a.grade a.input.now) a.s 0 1 _ (opened (goal.at.returns-then-s c).After-scan_two-opening) _ _ c.in_ok-at.was
    c.if-s.true _ c.scan_counted.ensures

pub returns-in_err-at : goal.returns-in_err-at
returns-in_err-at c =
    let a = c.args in
    let p = err_from_is_err_and c.from_residual.result c.from_residual.ensures.1 in
    rw (p.1, p.2) (walk_bad (tells a.lead a.grade a.input.now) a.s 0 1 _ (opened (goal.at.returns-in_err-at c).After-scan_two-opening) _ _ c.in_err-at.was)

pub scan_next-requires-clause-input_len_bound : goal.scan_next-requires-clause-input_len_bound
scan_next-requires-clause-input_len_bound c =
    let a = c.args in
    c.requires

pub scan_next-requires-clause-under : goal.scan_next-requires-clause-under
scan_next-requires-clause-under c =
    let a = c.args in
    under_more c.scan_two-opening.result (length a.input.now) 45 (2 ^ 31) (2 ^ 61)
    (opening_under a.lead a.grade a.input.now a.s _ (opened (goal.at.scan_next-requires-clause-under c).After-scan_two-opening)) (omega arith) (omega arith)

pub returns : goal.returns
returns c =
    let a = c.args in
    walk_plain (tells a.lead a.grade a.input.now) a.s 0 1 _ (opened (goal.at.returns c).After-scan_two-opening) c.if-s.false _ c.scan_next.ensures
