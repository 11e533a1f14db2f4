-- `imports::write` meets its contract: an import that has a size is stored where there is room, and refused where there is none.
use mathlib.Core.Path.{ap, sym, ◌∙◌}
use Rattle.fields.specs.Answers.{left}
use Rattle.fields.proofs.OutcomeLaws.{passed-on}
use Rattle.imports.proofs.ImportLaws.{import_fits, import_written, import_room, import_refused}
use Rattle.imports.proofs.write.Goals as goal

pub put_import-requires : goal.put_import-requires
put_import-requires c =
    let a = c.args in
    let pool = a.pool.now in
    let row = a.row.now in
    let out = a.out.now in
    import_fits row pool (sym
    c.measure.ensures ∙ c.in_ok-size.was) out a.at (sym
    c.fits.ensures ∙ c.if-fits.true)

pub returns-then-fits : goal.returns-then-fits
returns-then-fits c =
    let a = c.args in
    let pool = a.pool.now in
    let row = a.row.now in
    let out = a.out.now in
    import_written row pool (sym
    c.measure.ensures ∙ c.in_ok-size.was) out a.at (sym c.fits.ensures ∙ c.if-fits.true)
    c.put_import.ensures

pub returns : goal.returns
returns c =
    let a = c.args in
    let pool = a.pool.now in
    let row = a.row.now in
    let out = a.out.now in
    import_room row pool (sym c.measure.ensures ∙ c.in_ok-size.was) out a.at
    (sym c.fits.ensures ∙ c.if-fits.false)

pub returns-in_err-size : goal.returns-in_err-size
returns-in_err-size c =
    let a = c.args in
    let pool = a.pool.now in
    let row = a.row.now in
    let out = a.out.now in
    ap (λ r. left r out) (passed-on _ c.from_residual.ensures) ∙ import_refused row pool (sym c.measure.ensures ∙ c.in_err-size.was) out a.at
