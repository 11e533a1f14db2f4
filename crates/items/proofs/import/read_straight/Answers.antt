-- `read_straight` meets its contract: its ways out are those of `import_unnamed`, `import_unreferred`, `import_wide` and `import_done`;
-- the part that is lent for the reference goes to the end of the input (`to_end`).
use native.Mathlib.Omega.{arith}
use mathlib.Core.Path.{◌∙◌, sym, ap}
use Rattle.numbers.proofs.BytesLaws.{to_end}
use Rattle.reading.specs.inside.Tried.{left_tried}
use Rattle.items.specs.inside.Import.{three}
use Rattle.items.proofs.OnceLaws.{extern_some, import_unnamed, import_unreferred, import_inside, import_wide, import_done}
use Rattle.items.proofs.import.read_straight.Goals as goal

pub returns-in_err-e : goal.returns-in_err-e
returns-in_err-e c =
    let a = c.args in
    ap (λ l. left_tried l a.row.now) c.from_residual.ensures ∙ import_unnamed a.grade a.input.now a.row.now c.in_err-e.ensures

pub slice_bounds-reference-count : goal.slice_bounds-reference-count
slice_bounds-reference-count c =
    let a = c.args in
    omega (arith, (extern_some a.grade a.input.now _ c.in_ok-e.ensures).2)

pub slice_bounds-reference-start : goal.slice_bounds-reference-start
slice_bounds-reference-start c =
    let a = c.args in
    omega (arith, (extern_some a.grade a.input.now _ c.in_ok-e.ensures).2)

pub returns-in_err-r : goal.returns-in_err-r
returns-in_err-r c =
    let a = c.args in
    let is = c.reference.ensures ∙ ap (λ s. three a.grade s) (to_end a.input.now _) in
    ap (λ l. left_tried l a.row.now) c.from_residual-in_err-r.ensures
    ∙ import_unreferred a.grade a.input.now a.row.now _ c.in_ok-e.ensures (sym c.in_err-r.was ∙ is)

pub returns-then-row-lt15 : goal.returns-then-row-lt15
returns-then-row-lt15 c =
    let a = c.args in
    let is = c.reference.ensures ∙ ap (λ s. three a.grade s) (to_end a.input.now _) in
    import_wide a.grade a.input.now a.row.now _ c.in_ok-e.ensures _ (sym c.in_ok-r.was ∙ is) c.if-row-lt15.true

pub overflow_add-result : goal.overflow_add-result
overflow_add-result c =
    let a = c.args in
    let is = c.reference.ensures ∙ ap (λ s. three a.grade s) (to_end a.input.now _) in
    omega (arith, import_inside a.grade a.input.now a.row.now _ c.in_ok-e.ensures _ (sym c.in_ok-r.was ∙ is), c.requires.1)

pub returns : goal.returns
returns c =
    let a = c.args in
    let is = c.reference.ensures ∙ ap (λ s. three a.grade s) (to_end a.input.now _) in
    import_done a.grade a.input.now a.row.now _ c.in_ok-e.ensures _ (sym c.in_ok-r.was ∙ is) _ c.if-row-lt15.false
    c.store_import.ensures
