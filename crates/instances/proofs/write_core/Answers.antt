-- `write_core` meets its contract: a row that has a size is put where there is room, and refused where there is none.
use mathlib.Core.Path.{ap, sym, ◌∙◌}
use Rattle.fields.specs.Answers.{left}
use Rattle.fields.specs.Words.{word}
use Rattle.fields.proofs.OutcomeLaws.{passed-on}
use Rattle.writing.proofs.RowLaws.{within-fits, written_answer, refused_answer}
use Rattle.writing.proofs.KindLaws.{sized-fits}
use Rattle.instances.specs.Write.{core_shape_of, measured_core_instance, write_core_instance}
use Rattle.instances.proofs.Rows.{core_no_room}
use Rattle.instances.proofs.write_core.Goals as goal

pub put_row-requires : goal.put_row-requires
unfolding measured_core_instance
put_row-requires c =
    sized-fits (λ h. sym c.measure_core.ensures ∙ c.in_ok-size.was) (sym c.fits.ensures ∙ c.if-fits.true)

pub returns-then-fits : goal.returns-then-fits
unfolding measured_core_instance write_core_instance
returns-then-fits c =
    let args = c.args in
    let row = args.row.now in
    let pool = args.pool.now in
    written_answer (core_shape_of (word row 0)) row pool (sym c.measure_core.ensures ∙ c.in_ok-size.was) _ _
    (within-fits _ _ _ (sym c.fits.ensures ∙ c.if-fits.true)).1 c.put_row.ensures

pub returns : goal.returns
returns c =
    let args = c.args in
    core_no_room args.row.now args.pool.now (sym c.measure_core.ensures ∙ c.in_ok-size.was) _ args.at (sym c.fits.ensures ∙ c.if-fits.false)

pub returns-in_err-size : goal.returns-in_err-size
unfolding measured_core_instance write_core_instance
returns-in_err-size c =
    let args = c.args in
    let row = args.row.now in
    ap (λ r. left r args.out.now) (passed-on _ c.from_residual.ensures)
    ∙ refused_answer (core_shape_of (word row 0)) row args.pool.now (sym c.measure_core.ensures ∙ c.in_err-size.was) _ args.at
