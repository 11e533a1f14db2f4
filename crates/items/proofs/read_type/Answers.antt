-- `types::read` meets its contract: within the limits it answers what was read by the first byte (`read_some`), and where that is
-- nothing, and outside the limits, it refuses as `fields` says (`read_none`, `read_outside`).
use mathlib.Core.Path.{◌∙◌, sym, ap}
use Rattle.fields.specs.Answers.{left_row}
use Rattle.reading.specs.Read.{scanned_item, refusal_of}
use Rattle.types.specs.Write.{shape_of}
use Rattle.items.proofs.CallLaws.{limits, read_some, read_none, read_outside}
use Rattle.items.proofs.read_type.Goals as goal
use Rattle.items.proofs.read_type.Goals.{then-is_within+in_default, else-is_within}

pub by_first-requires-clause-input_nonzero : goal.by_first-requires-clause-input_nonzero
by_first-requires-clause-input_nonzero c =
    let a = c.args in
    (limits a.grade a.input.now a.row.now c.first_of-byte.ensures c.kind_of-kind.ensures
    c.lead_grade-lead.ensures (sym c.is_within.ensures ∙ c.if-is_within.true)).0

pub by_first-requires-clause-le_grade : goal.by_first-requires-clause-le_grade
by_first-requires-clause-le_grade c =
    let a = c.args in
    (limits a.grade a.input.now a.row.now c.first_of-byte.ensures c.kind_of-kind.ensures
    c.lead_grade-lead.ensures (sym c.is_within.ensures ∙ c.if-is_within.true)).1

pub returns-in-Some : goal.returns-in-Some
returns-in-Some c =
    let a = c.args in
    read_some a.grade a.input.now a.row.now c.first_of-byte.ensures c.kind_of-kind.ensures
    c.lead_grade-lead.ensures (sym c.is_within.ensures ∙ c.if-is_within.true)
    _ c.by_first.ensures _ _ c.in-Some.is

pub returns : goal.returns
returns c =
    let a = c.args in
    let g = a.grade in
    let input = a.input.now in
    let row = a.row.now in
    let no = refusal_of (scanned_item (shape_of c.kind_of-kind.result) c.lead_grade-lead.result g input) in
    let first = ap (λ r. left_row r c.if-is_within.row)
    (c.item_refusal.ensures ∙ ap (λ f. refusal_of (scanned_item f c.lead_grade-lead.result g input)) c.shape_of.ensures) in
    elim c.if-is_within.branch [
      | then-is_within+in_default w ↦ first ∙ ap (λ s. left_row no s) w.row-is
          ∙ read_none g input row c.first_of-byte.ensures c.kind_of-kind.ensures c.lead_grade-lead.ensures (sym c.is_within.ensures ∙ w.if-is_within.true) _ w.by_first.ensures w.in_default.is
      | else-is_within w ↦ first ∙ ap (λ s. left_row no s) w.row-is
          ∙ read_outside g input row c.first_of-byte.ensures c.kind_of-kind.ensures c.lead_grade-lead.ensures (sym c.is_within.ensures ∙ w.if-is_within.false)
    ]
