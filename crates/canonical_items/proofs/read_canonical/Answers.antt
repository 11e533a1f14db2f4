-- `read_canonical` meets its contract: a lift by its own reader, any other by its class; what is not read is refused by the walk.
use Prim.Native.Nat.{◌+◌}
use mathlib.Core.Path.{◌∙◌, refl, sym, ap}
use Rattle.fields.specs.Answers.{left_row}
use Rattle.reading.specs.Read.{scanned_item, refusal_of}
use Rattle.canonicals.specs.Write.{shape_of}
use Rattle.canonical_items.proofs.CallLaws.{part_limits, read_some, read_none, read_outside, read_lift_lem}
use Rattle.canonical_items.proofs.read_canonical.Goals as goal
use Rattle.canonical_items.proofs.read_canonical.Goals.{then-is_within+in_default, else-is_within}

pub lift-requires : goal.lift-requires
lift-requires c = sym c.first_of-first.ensures ∙ c.if-first-eq0.true

pub returns-then-first-eq0 : goal.returns-then-first-eq0
returns-then-first-eq0 c =
    let a = c.args in
    c.lift.ensures ∙ read_lift_lem a.grade a.input.now a.row.now (sym c.first_of-first.ensures ∙ c.if-first-eq0.true)

pub read_class-requires : goal.read_class-requires
read_class-requires c =
    let a = c.args in
    part_limits a.grade a.input.now a.row.now c.class_of-class.result c.first_of-first.ensures c.first_of-first.type_inv c.if-first-eq0.false c.class_of-class.ensures
    c.grade_of-lead.ensures (sym c.is_within.ensures ∙ c.if-is_within.true) refl

pub returns-in-Some : goal.returns-in-Some
returns-in-Some c =
    let a = c.args in
    read_some a.grade a.input.now a.row.now c.class_of-class.result c.first_of-first.ensures c.first_of-first.type_inv c.if-first-eq0.false c.class_of-class.ensures
    c.grade_of-lead.ensures (sym c.is_within.ensures ∙ c.if-is_within.true) refl
    _ c.read_class.ensures _ _ c.in-Some.is

pub returns : goal.returns
returns c =
    let a = c.args in
    let g = a.grade in
    let input = a.input.now in
    let row = a.row.now in
    let k = 256 + c.first_of-first.result in
    let no = refusal_of (scanned_item (shape_of k) c.grade_of-lead.result g input) in
    let first = ap (λ r. left_row r c.if-is_within.row)
    (c.item_refusal.ensures ∙ ap (λ f. refusal_of (scanned_item f c.grade_of-lead.result g input)) c.shape_of.ensures) in
    elim c.if-is_within.branch [
      | then-is_within+in_default w ↦ first ∙ ap (λ s. left_row no s) w.row-is
          ∙ read_none g input row c.class_of-class.result c.first_of-first.ensures c.first_of-first.type_inv c.if-first-eq0.false c.class_of-class.ensures c.grade_of-lead.ensures
          (sym c.is_within.ensures ∙ w.if-is_within.true) refl _ w.read_class.ensures w.in_default.is
      | else-is_within w ↦ first ∙ ap (λ s. left_row no s) w.row-is
          ∙ read_outside g input row c.class_of-class.result c.first_of-first.ensures c.first_of-first.type_inv c.if-first-eq0.false c.class_of-class.ensures c.grade_of-lead.ensures
          (sym c.is_within.ensures ∙ w.if-is_within.false)
    ]
