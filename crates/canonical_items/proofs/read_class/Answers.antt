-- `read_class` meets its contract: each class's fields, read and stored, are what its shape says (`Line`).
use mathlib.Core.Path.{refl, sym, ◌∙◌}
use Rattle.fields.specs.declared.Field.TheVariants as field
use Rattle.canonicals.specs.Table.{zeroed, optioned}
use Rattle.canonicals.specs.inside.Class.{shape_for}
use Rattle.canonical_items.proofs.BeginLaws.{begun_plain, begun_zero, zero_wrong}
use Rattle.canonical_items.proofs.CountLaws.{tried-wrong}
use Rattle.canonical_items.proofs.CallLaws.{class_tried, short_class, nothing_line, zero-line, index-line, zero-index-line, indices_line, flag-line, index-flag-line, rep_index-line}
use Rattle.canonical_items.proofs.read_class.Goals as goal

pub returns-in_err-from-in-Zero : goal.returns-in_err-from-in-Zero
unfolding shape_for
returns-in_err-from-in-Zero c = λ lead b low is.
    let a = c.args in
    class_tried b a.kind lead a.grade a.input.now a.row.now c.in-Zero.is refl
    (tried-wrong _ _ a.row.now
    (zero_wrong lead a.grade b a.input.now c.requires.0 is low (zeroed b field.Nothing) refl refl (sym c.in_err-from-in-Zero.was ∙ c.behind_zero.ensures))
    c.from_residual.ensures)

pub returns-in_err-from-in-ZeroIndex : goal.returns-in_err-from-in-ZeroIndex
unfolding shape_for
returns-in_err-from-in-ZeroIndex c = λ lead b low is.
    let a = c.args in
    class_tried b a.kind lead a.grade a.input.now a.row.now c.in-ZeroIndex.is refl
    (tried-wrong _ _ a.row.now
    (zero_wrong lead a.grade b a.input.now c.requires.0 is low (zeroed b field.Index) refl refl (sym c.in_err-from-in-ZeroIndex.was ∙ c.behind_zero-in-ZeroIndex.ensures))
    c.from_residual-in_err-from-in-ZeroIndex.ensures)

pub returns-in_err-from-in-ZeroOptions : goal.returns-in_err-from-in-ZeroOptions
unfolding shape_for
returns-in_err-from-in-ZeroOptions c = λ lead b low is.
    let a = c.args in
    class_tried b a.kind lead a.grade a.input.now a.row.now c.in-ZeroOptions.is refl
    (tried-wrong _ _ a.row.now
    (zero_wrong lead a.grade b a.input.now c.requires.0 is low (optioned b (field.Fixed 0)) refl refl (sym c.in_err-from-in-ZeroOptions.was ∙ c.behind_zero-in-ZeroOptions.ensures))
    c.from_residual-in_err-from-in-ZeroOptions.ensures)

pub short_item-requires-in-Zero : goal.short_item-requires-in-Zero
short_item-requires-in-Zero c =
    let a = c.args in
    (c.requires.1, (begun_zero 1 a.grade _ a.input.now c.requires.0 refl c.requires.2 (sym c.in_ok-from-in-Zero.was ∙ c.behind_zero.ensures)).1)

pub short_item-requires-in-ZeroIndex : goal.short_item-requires-in-ZeroIndex
short_item-requires-in-ZeroIndex c =
    let a = c.args in
    (c.requires.1, (begun_zero 1 a.grade _ a.input.now c.requires.0 refl c.requires.2 (sym c.in_ok-from-in-ZeroIndex.was ∙ c.behind_zero-in-ZeroIndex.ensures)).1)

pub read_options-requires-in-ZeroOptions : goal.read_options-requires-in-ZeroOptions
read_options-requires-in-ZeroOptions c =
    let a = c.args in
    (c.requires.1, (begun_zero 1 a.grade _ a.input.now c.requires.0 refl c.requires.2 (sym c.in_ok-from-in-ZeroOptions.was ∙ c.behind_zero-in-ZeroOptions.ensures)).1)

pub returns-in_ok-from-in-Zero : goal.returns-in_ok-from-in-Zero
returns-in_ok-from-in-Zero c = λ lead b low is.
    let a = c.args in
    short_class zero-line a.grade a.input.now _ c.short_item-in-Zero.result (c.short_item-in-Zero.ensures a.grade c.requires.2)
    c.in-Zero.is a.kind a.row.now c.store_short-in-Zero.ensures lead b
    (begun_zero lead a.grade b a.input.now c.requires.0 is low (sym c.in_ok-from-in-Zero.was ∙ c.behind_zero.ensures)).0

pub returns-in_ok-from-in-ZeroIndex : goal.returns-in_ok-from-in-ZeroIndex
returns-in_ok-from-in-ZeroIndex c = λ lead b low is.
    let a = c.args in
    short_class zero-index-line a.grade a.input.now _ c.short_item-in-ZeroIndex.result (c.short_item-in-ZeroIndex.ensures a.grade c.requires.2)
    c.in-ZeroIndex.is a.kind a.row.now c.store_short-in-ZeroIndex.ensures lead b
    (begun_zero lead a.grade b a.input.now c.requires.0 is low (sym c.in_ok-from-in-ZeroIndex.was ∙ c.behind_zero-in-ZeroIndex.ensures)).0

pub returns-in_ok-from-in-ZeroOptions : goal.returns-in_ok-from-in-ZeroOptions
unfolding shape_for
returns-in_ok-from-in-ZeroOptions c = λ lead b low is.
    let a = c.args in
    class_tried b a.kind lead a.grade a.input.now a.row.now c.in-ZeroOptions.is refl
    (c.read_options-in-ZeroOptions.ensures lead b (field.Fixed 0)
    (begun_zero lead a.grade b a.input.now c.requires.0 is low (sym c.in_ok-from-in-ZeroOptions.was ∙ c.behind_zero-in-ZeroOptions.ensures)).0)

pub returns-in-Nothing : goal.returns-in-Nothing
returns-in-Nothing c = λ lead b low is.
    let a = c.args in
    short_class nothing_line a.grade a.input.now 1 c.short_item.result (c.short_item.ensures a.grade c.requires.2)
    c.in-Nothing.is a.kind a.row.now c.store_short.ensures lead b
    (begun_plain lead a.grade b a.input.now c.requires.0 is low)

pub returns-in-Index : goal.returns-in-Index
returns-in-Index c = λ lead b low is.
    let a = c.args in
    short_class index-line a.grade a.input.now 1 c.short_item-in-Index.result (c.short_item-in-Index.ensures a.grade c.requires.2)
    c.in-Index.is a.kind a.row.now c.store_short-in-Index.ensures lead b
    (begun_plain lead a.grade b a.input.now c.requires.0 is low)

pub returns-in-Indices : goal.returns-in-Indices
returns-in-Indices c = λ lead b low is.
    let a = c.args in
    short_class indices_line a.grade a.input.now 1 c.short_item-in-Indices.result (c.short_item-in-Indices.ensures a.grade c.requires.2)
    c.in-Indices.is a.kind a.row.now c.store_short-in-Indices.ensures lead b
    (begun_plain lead a.grade b a.input.now c.requires.0 is low)

pub returns-in-Flag : goal.returns-in-Flag
returns-in-Flag c = λ lead b low is.
    let a = c.args in
    short_class flag-line a.grade a.input.now 1 c.short_item-in-Flag.result (c.short_item-in-Flag.ensures a.grade c.requires.2)
    c.in-Flag.is a.kind a.row.now c.store_short-in-Flag.ensures lead b
    (begun_plain lead a.grade b a.input.now c.requires.0 is low)

pub returns-in-IndexFlag : goal.returns-in-IndexFlag
returns-in-IndexFlag c = λ lead b low is.
    let a = c.args in
    short_class index-flag-line a.grade a.input.now 1 c.short_item-in-IndexFlag.result (c.short_item-in-IndexFlag.ensures a.grade c.requires.2)
    c.in-IndexFlag.is a.kind a.row.now c.store_short-in-IndexFlag.ensures lead b
    (begun_plain lead a.grade b a.input.now c.requires.0 is low)

pub returns-in-RepIndex : goal.returns-in-RepIndex
returns-in-RepIndex c = λ lead b low is.
    let a = c.args in
    short_class rep_index-line a.grade a.input.now 1 c.short_item-in-RepIndex.result (c.short_item-in-RepIndex.ensures a.grade c.requires.2)
    c.in-RepIndex.is a.kind a.row.now c.store_short-in-RepIndex.ensures lead b
    (begun_plain lead a.grade b a.input.now c.requires.0 is low)

pub returns-in-Options : goal.returns-in-Options
unfolding shape_for
returns-in-Options c = λ lead b low is.
    let a = c.args in
    class_tried b a.kind lead a.grade a.input.now a.row.now c.in-Options.is refl
    (c.read_options.ensures lead b field.Nothing (begun_plain lead a.grade b a.input.now c.requires.0 is low))

pub returns-in-Not : goal.returns-in-Not
unfolding shape_for
returns-in-Not c = λ lead b low is. rw c.in-Not.is refl
