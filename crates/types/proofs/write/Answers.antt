-- `types::write` meets its contract: written in one step, or measured, and then put where there is room.
use mathlib.Core.Path.{sym, ap, ◌∙◌}
use Rattle.fields.specs.Words.{word}
use Rattle.types.specs.Write.{shape_of, measured_type, write_type}
use Rattle.fields.specs.Answers.{left}
use Rattle.fields.proofs.OutcomeLaws.{passed-on}
use Rattle.writing.proofs.RowLaws.{within-fits, written_answer, refused_answer}
use Rattle.writing.proofs.KindLaws.{sized-fits}
use Rattle.types.proofs.KindLaws.{tried_not, no_room}
use Rattle.types.proofs.write.Goals as goal

pub returns-in-Some : goal.returns-in-Some
unfolding write_type
returns-in-Some c = c.write_small.ensures.some _ c.in-Some.is

pub put_row-requires : goal.put_row-requires
unfolding measured_type
put_row-requires c =
    sized-fits (λ h. sym c.measure.ensures ∙ c.in_ok-size.was) (sym c.fits.ensures ∙ c.if-fits.true)

pub returns-then-fits : goal.returns-then-fits
unfolding measured_type write_type
returns-then-fits c =
    let a = c.args in
    let e = sym c.measure.ensures ∙ c.in_ok-size.was in
    let h = within-fits _ _ _ (sym c.fits.ensures ∙ c.if-fits.true) in
    tried_not c.write_small.ensures c.in_default.is
    (written_answer (shape_of (word a.row.now 0)) a.row.now a.pool.now e _ _ h.1 c.put_row.ensures)

pub returns : goal.returns
unfolding measured_type write_type
returns c =
    let a = c.args in
    let e = sym c.measure.ensures ∙ c.in_ok-size.was in
    tried_not c.write_small.ensures c.in_default.is
    (no_room a.row.now a.pool.now _ a.at e (sym c.fits.ensures ∙ c.if-fits.false))

pub returns-in_err-size : goal.returns-in_err-size
unfolding measured_type write_type
returns-in_err-size c =
    let a = c.args in
    ap (λ r. left r c.write_small.new.out) (passed-on _ c.from_residual.ensures)
    ∙ tried_not c.write_small.ensures c.in_default.is
    (refused_answer (shape_of (word a.row.now 0)) a.row.now a.pool.now
    (sym c.measure.ensures ∙ c.in_err-size.was) _ a.at)
