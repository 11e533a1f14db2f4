-- `lift` meets its contract: within the limits it answers what was read, and where that is nothing, and outside them, it refuses.
use Rattle.std.specs.Prelude.{Some}
use mathlib.Core.Path.{◌∙◌, refl, sym, ap}
use Rattle.fields.specs.Answers.{left_row}
use Rattle.reading.specs.Read.{scanned_item, refusal_of}
use Rattle.canonicals.specs.Table.{lift_bytes}
use Rattle.canonical_items.proofs.CallLaws.{lift_limits, lift_some, lift_none, lift_outside}
use Rattle.canonical_items.proofs.lift.Goals as goal
use Rattle.canonical_items.proofs.lift.Goals.{then-is_within+in_default, else-is_within}

pub try_lift-requires : goal.try_lift-requires
try_lift-requires c =
    let a = c.args in
    lift_limits a.grade a.input.now a.row.now (sym c.is_within.ensures ∙ c.if-is_within.true) refl c.requires

pub returns-in-Some : goal.returns-in-Some
returns-in-Some c =
    let a = c.args in
    lift_some a.grade a.input.now a.row.now (sym c.is_within.ensures ∙ c.if-is_within.true) refl
    _ c.try_lift.ensures _ _ c.in-Some.is

pub returns : goal.returns
returns c =
    let a = c.args in
    let g = a.grade in
    let input = a.input.now in
    let row = a.row.now in
    let no = refusal_of (scanned_item (Some lift_bytes) 1 g input) in
    let first = ap (λ r. left_row r c.if-is_within.row)
    (c.item_refusal.ensures ∙ ap (λ s. refusal_of (scanned_item (Some s) 1 g input)) c.many_of-shape.ensures) in
    elim c.if-is_within.branch [
      | then-is_within+in_default w ↦ first ∙ ap (λ s. left_row no s) w.row-is
          ∙ lift_none g input row (sym c.is_within.ensures ∙ w.if-is_within.true) refl _ w.try_lift.ensures w.in_default.is
      | else-is_within w ↦ first ∙ ap (λ s. left_row no s) w.row-is ∙ lift_outside g input row (sym c.is_within.ensures ∙ w.if-is_within.false)
    ]
