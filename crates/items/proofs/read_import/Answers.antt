-- `imports::read` meets its contract: within the limits it answers what was read once (`read_some`), and where that is nothing, and
-- outside the limits, it refuses as `fields` says (`read_none`, `read_outside`).
use mathlib.Core.Path.{◌∙◌, sym, ap}
use Rattle.fields.specs.Answers.{left_row}
use Rattle.reading.specs.Read.{scanned_item, refusal_of}
use Rattle.imports.specs.Write.{shape_of}
use Rattle.items.proofs.OnceLaws.{limits, read_some, read_none, read_outside}
use Rattle.items.proofs.read_import.Goals as goal
use Rattle.items.proofs.read_import.Goals.{then-is_within+in_default, else-is_within}

pub read_straight-requires : goal.read_straight-requires
read_straight-requires c =
    let a = c.args in
    limits a.grade a.input.now a.row.now (sym c.is_within.ensures ∙ c.if-is_within.true)

pub returns-in-Some : goal.returns-in-Some
returns-in-Some c =
    let a = c.args in
    read_some a.grade a.input.now a.row.now (sym c.is_within.ensures ∙ c.if-is_within.true)
    _ c.read_straight.ensures _ _ c.in-Some.is

pub returns : goal.returns
returns c =
    let a = c.args in
    let g = a.grade in
    let input = a.input.now in
    let row = a.row.now in
    let no = refusal_of (scanned_item (shape_of 17) 1 g input) in
    let first = ap (λ r. left_row r c.if-is_within.row)
    (c.item_refusal.ensures ∙ ap (λ f. refusal_of (scanned_item f 1 g input)) c.shape_of.ensures) in
    elim c.if-is_within.branch [
      | then-is_within+in_default w ↦ first ∙ ap (λ s. left_row no s) w.row-is
          ∙ read_none g input row (sym c.is_within.ensures ∙ w.if-is_within.true) _ w.read_straight.ensures w.in_default.is
      | else-is_within w ↦ first ∙ ap (λ s. left_row no s) w.row-is ∙ read_outside g input row (sym c.is_within.ensures ∙ w.if-is_within.false)
    ]
