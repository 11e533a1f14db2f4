-- `write_result` meets its contract: a result that has a size is put where there is room for it.
use Prim.Native.Nat.{◌+◌, ◌≤◌}
use mathlib.Core.Path.{sym, ap, ◌∙◌, subst}
use mathlib.Core.List.{[], ◌∷◌}
use lib.ListN.{length}
use lib.Seq.{sets}
use Rattle.fields.specs.Answers.{left}
use Rattle.fields.proofs.OutcomeLaws.{passed-on}
use Rattle.writing.proofs.RowLaws.{within-fits}
use Rattle.types.specs.Write.{result_shape}
use Rattle.types.proofs.StepLaws.{not_within, result_held, result_written, write_refused, write_cramped, write_whole}
use Rattle.types.proofs.steps.write_result.Goals as goal

pub put_result-requires : goal.put_result-requires
put_result-requires c =
    let a = c.args in
    let out = a.out.now in
    let held = result_held a.tag a.x (sym c.measure_result.ensures ∙ c.in_ok-size.was) in
    let fits = within-fits _ a.at (length out)
    (sym c.fits.ensures ∙ c.if-fits.true) in
    subst (λ n. a.at + n ≤ length out) held.0 fits.1

pub returns-then-fits : goal.returns-then-fits
returns-then-fits c =
    let a = c.args in
    let out = a.out.now in
    let fits = within-fits _ a.at (length out)
    (sym c.fits.ensures ∙ c.if-fits.true) in
    write_whole result_shape (a.tag ∷ a.x ∷ []) 0 [] c.measure_result.ensures out a.at
    c.in_ok-size.was fits.1 _
    (c.put_result.ensures.content ∙ ap (λ l. sets out a.at l) (sym (result_written a.tag a.x)))

pub returns : goal.returns
returns c =
    let a = c.args in
    let out = a.out.now in
    let held = result_held a.tag a.x (sym c.measure_result.ensures ∙ c.in_ok-size.was) in
    write_cramped result_shape (a.tag ∷ a.x ∷ []) 0 [] c.measure_result.ensures out a.at
    c.in_ok-size.was
    (not_within _ a.at (length out) held.1 (sym c.fits.ensures ∙ c.if-fits.false))

pub returns-in_err-size : goal.returns-in_err-size
returns-in_err-size c =
    let a = c.args in
    let out = a.out.now in
    ap (λ r. left r out) (passed-on _ c.from_residual.ensures)
    ∙ write_refused result_shape (a.tag ∷ a.x ∷ []) 0 [] c.measure_result.ensures out a.at c.in_err-size.was
