-- `read_core_instance` meets its contract: a byte of no kind is refused (`core_unknown`); of a kind, within the limits, it answers what was read by
-- the kind (`read_some`), and where that is nothing, and outside the limits, it refuses as `reading` says (`read_none`, `read_outside`).
use mathlib.Core.Path.{◌≡◌, ◌∙◌, sym, ap}
use Rattle.std.specs.Prelude.{Some}
use Rattle.fields.specs.Answers.{left_row}
use Rattle.reading.specs.Read.{scanned_item, refusal_of}
use Rattle.instances.specs.Write.{core_shape_of}
use Rattle.instance_items.specs.ReadInstance.{core_kind_of}
use Rattle.instance_items.specs.inside.Kind.{some_kind}
use Rattle.instance_items.proofs.CallLaws.{core_shape, core_begins, call_limits, read_some, read_none, read_outside, core_call, core_unknown}
use Rattle.instance_items.proofs.read_core_instance.Goals as goal
use Rattle.instance_items.proofs.read_core_instance.Goals.{In-Some, then-is_within+in_default-by_kind, else-is_within}

-- the kind that the first byte tells
kind_told : (c : In-Some) → Some c.in-Some.kind ≡ some_kind (core_kind_of c.first_of.result)
kind_told c = sym c.in-Some.is ∙ c.core_kind_of.ensures

pub returns-in_default : goal.returns-in_default
returns-in_default c =
    let a = c.args in
    ap (λ r. left_row r a.row.now) c.item_refusal.ensures
    ∙ core_unknown c.first_of.result a.grade a.input.now a.row.now c.first_of.ensures (sym c.in_default.is ∙ c.core_kind_of.ensures)

pub by_kind-requires : goal.by_kind-requires
by_kind-requires c =
    let a = c.args in
    let told = kind_told (goal.at.by_kind-requires c).In-Some in
    call_limits c.in-Some.kind c.first_of.result a.grade a.input.now (sym c.is_within.ensures ∙ c.if-is_within.true) c.first_of.ensures
    (core_begins c.first_of.result c.in-Some.kind told)

pub returns-in-Some-by_kind : goal.returns-in-Some-by_kind
returns-in-Some-by_kind c =
    let a = c.args in
    let told = kind_told (goal.at.returns-in-Some-by_kind c).In-Some in
    read_some c.in-Some.kind a.grade a.input.now a.row.now _ (core_shape c.first_of.result c.in-Some.kind told)
    (sym c.is_within.ensures ∙ c.if-is_within.true) _ c.by_kind.ensures _ _ c.in-Some-by_kind.is
    ∙ core_call c.first_of.result a.grade a.input.now a.row.now c.first_of.ensures c.in-Some.kind told

pub returns : goal.returns
returns c =
    let a = c.args in
    let g = a.grade in
    let input = a.input.now in
    let row = a.row.now in
    let kind = c.in-Some.kind in
    let told = kind_told (goal.at.returns c).In-Some in
    let no = refusal_of (scanned_item (core_shape_of kind) 1 g input) in
    let shape = core_shape c.first_of.result kind told in
    let first = ap (λ r. left_row r c.if-is_within.row)
    (c.item_refusal-2.ensures ∙ ap (λ f. refusal_of (scanned_item f 1 g input)) c.core_shape_of.ensures) in
    let last = core_call c.first_of.result g input row c.first_of.ensures kind told in
    elim c.if-is_within.branch [
      | then-is_within+in_default-by_kind w ↦ first ∙ ap (λ s. left_row no s) w.row-is
          ∙ read_none kind g input row _ shape (sym c.is_within.ensures ∙ w.if-is_within.true) _ w.by_kind.ensures w.in_default-by_kind.is
          ∙ last
      | else-is_within w ↦ first ∙ ap (λ s. left_row no s) w.row-is
          ∙ read_outside kind g input row _ shape (sym c.is_within.ensures ∙ w.if-is_within.false)
          ∙ last
    ]
