-- `scan_one` meets its contract: `one_fine` and `one_bad` say what one field comes to, `one_takes` and `one_fault` that the places fit.
use Prim.Native.Nat.{◌≤◌, ◌^◌}
use native.Mathlib.Omega.{arith}
use mathlib.Core.Path.{◌≡◌}
use lib.ListN.{length, length-drop}
use Rattle.fields.specs.Words.{wide}
use Rattle.reading.specs.Scan.{scan}
use Rattle.fields.proofs.WidthLaws.{wide_at_most}
use Rattle.fields.proofs.LoopLaws.{one_fine, one_bad}
use Rattle.reading.proofs.ScannedLaws.{one_takes, one_fault}
use Rattle.reading.proofs.item.scan_one.Goals as goal
use Rattle.reading.proofs.item.scan_one.Goals.{After-rest_at, In-Ok}

-- what stands at the place is no longer than the input
short : (k : After-rest_at) → length k.rest_at.result.now ≤ 2 ^ 30
short k = rw (k.rest_at.ensures, length-drop) (omega (arith, k.requires))

-- how far one field goes
takes : (k : In-Ok) → (k.in-Ok.field-0.took ≤ length k.rest_at.result.now) × (k.in-Ok.field-0.made ≡ wide k.args.f)
takes k = one_takes k.args.lead k.args.grade k.args.f k.rest_at.result.now _ k.scan_field.ensures _ _ k.in-Ok.is

pub scan_field-requires : goal.scan_field-requires
scan_field-requires c = short (goal.at.scan_field-requires c).After-rest_at

pub overflow_add-next : goal.overflow_add-next
overflow_add-next c = omega (arith, takes (goal.at.overflow_add-next c).In-Ok, short (goal.at.overflow_add-next c).After-rest_at)

pub overflow_add-more : goal.overflow_add-more
overflow_add-more c = omega (arith, wide_at_most _ _ (takes (goal.at.overflow_add-more c).In-Ok).1)

pub overflow_add-place : goal.overflow_add-place
overflow_add-place c =
    let a = c.args in
    let far = one_fault a.lead a.grade a.f c.rest_at.result.now _
    c.scan_field.ensures _ _ c.in-Err.is in
    omega (arith, short (goal.at.overflow_add-place c).After-rest_at)

pub returns-in-Ok : goal.returns-in-Ok
returns-in-Ok c =
    let a = c.args in
    one_fine (scan a.lead a.grade) a.input.now a.f a.at a.made _ c.rest_at.ensures _
    c.scan_field.ensures _ _ c.in-Ok.is

pub returns-in-Err : goal.returns-in-Err
returns-in-Err c =
    let a = c.args in
    one_bad (scan a.lead a.grade) a.input.now a.f a.at a.made _ c.rest_at.ensures _
    c.scan_field.ensures _ _ c.in-Err.is
