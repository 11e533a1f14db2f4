-- `scan_counted` meets its contract: the laws of the count say what each answer of `take_unsigned` comes to, and `groups_under` keeps the
-- groups small.
use Rattle.std.specs.Prelude.{Err}
use Prim.Native.Nat.{◌+◌, ◌^◌, ◌≤◌}
use native.Mathlib.Omega.{arith}
use mathlib.Core.Path.{ap, ◌∙◌}
use lib.ListN.{length}
use Rattle.fields.proofs.RunLaws.{under_more}
use Rattle.reading.proofs.ScannedLaws.{groups_under, count_inside, counted_value, counted_cut, counted_bad}
use Rattle.reading.proofs.item.scan_counted.Goals as goal
use Rattle.reading.proofs.item.scan_counted.Goals.{In-Ok}

-- the count ends inside the input
inside : (k : In-Ok) → k.args.at + k.in-Ok.field-0.took ≤ length k.args.input.now
inside k =
    let a = k.args in
    count_inside a.lead a.grade a.input.now a.s a.at a.made _ k.rest_at-rest.ensures _
    k.take_unsigned.ensures k.requires.at_in_bounds.0 _ _ k.in-Ok.is

pub overflow_add-from : goal.overflow_add-from
overflow_add-from c = omega (arith, inside (goal.at.overflow_add-from c).In-Ok)

pub scan_groups-groups-requires : goal.scan_groups-groups-requires
scan_groups-groups-requires c =
    record {
      input_len_bound = c.requires.input_len_bound;
      n_bound = (omega arith, inside (goal.at.scan_groups-groups-requires c).In-Ok, omega arith);
    }

pub scan_next-requires-clause-input_len_bound : goal.scan_next-requires-clause-input_len_bound
scan_next-requires-clause-input_len_bound c =
    let a = c.args in
    c.requires.input_len_bound

pub scan_next-requires-clause-under : goal.scan_next-requires-clause-under
scan_next-requires-clause-under c =
    let a = c.args in
    under_more c.scan_groups-groups.result _ _ (2 ^ 31) (2 ^ 61)
    (groups_under a.lead a.grade a.input.now a.s _ _ _ _ c.scan_groups-groups.ensures (inside (goal.at.scan_next-requires-clause-under c).In-Ok)) (omega arith) (omega arith)

pub returns-in-Ok : goal.returns-in-Ok
returns-in-Ok c =
    let a = c.args in
    counted_value a.lead a.grade a.input.now a.s a.at a.made _ c.rest_at-rest.ensures _
    c.take_unsigned.ensures _ _ c.in-Ok.is _ c.scan_groups-groups.ensures _ c.scan_next.ensures

pub returns-in-Err-Cut : goal.returns-in-Err-Cut
returns-in-Err-Cut c =
    let a = c.args in
    counted_cut a.lead a.grade a.input.now a.s a.at a.made _ c.rest_at-rest.ensures _ c.take_unsigned.ensures
    c.requires.at_in_bounds.0 (c.in-Err-Cut.is ∙ ap Err c.in-Err-Cut.field-0-is)

pub returns-in-Err-Bad : goal.returns-in-Err-Bad
returns-in-Err-Bad c =
    let a = c.args in
    counted_bad a.lead a.grade a.input.now a.s a.at a.made _ c.rest_at-rest.ensures _ c.take_unsigned.ensures
    (c.in-Err-Bad.is ∙ ap Err c.in-Err-Bad.field-0-is)
