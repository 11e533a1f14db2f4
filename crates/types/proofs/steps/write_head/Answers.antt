-- `write_head` meets its contract: a head that has a size is put where there is room for it.
use Prim.Native.Nat.{◌+◌, ◌≤◌}
use mathlib.Core.Path.{sym, ap, ◌∙◌, subst}
use lib.ListN.{length}
use lib.Seq.{sets}
use Rattle.fields.specs.Answers.{left}
use Rattle.fields.proofs.OutcomeLaws.{passed-on}
use Rattle.writing.proofs.RowLaws.{within-fits}
use Rattle.types.specs.Write.{head_shape}
use Rattle.types.proofs.StepLaws.{not_within, head_held, write_refused, write_cramped, write_whole}
use Rattle.types.proofs.steps.write_head.Goals as goal

pub put_head-requires : goal.put_head-requires
put_head-requires c =
    let a = c.args in
    let words = a.words.now in
    let pool = a.pool.now in
    let out = a.out.now in
    let held = head_held words pool (sym c.measure_head.ensures ∙ c.in_ok-size.was) in
    let fits = within-fits _ a.at (length out)
    (sym c.fits.ensures ∙ c.if-fits.true) in
    record {
      words_len = held.width;
      rights = held.groups;
      words_in_bounds = subst (λ n. a.at + n ≤ length out) held.size fits.1;
    }

pub returns-then-fits : goal.returns-then-fits
returns-then-fits c =
    let a = c.args in
    let words = a.words.now in
    let pool = a.pool.now in
    let out = a.out.now in
    let held = head_held words pool (sym c.measure_head.ensures ∙ c.in_ok-size.was) in
    let fits = within-fits _ a.at (length out)
    (sym c.fits.ensures ∙ c.if-fits.true) in
    write_whole head_shape words 0 pool c.measure_head.ensures out a.at
    c.in_ok-size.was fits.1 _
    (c.put_head.ensures ∙ ap (λ l. sets out a.at l) (sym held.made))

pub returns : goal.returns
returns c =
    let a = c.args in
    let words = a.words.now in
    let pool = a.pool.now in
    let out = a.out.now in
    let held = head_held words pool (sym c.measure_head.ensures ∙ c.in_ok-size.was) in
    write_cramped head_shape words 0 pool c.measure_head.ensures out a.at
    c.in_ok-size.was
    (not_within _ a.at (length out) held.some (sym c.fits.ensures ∙ c.if-fits.false))

pub returns-in_err-size : goal.returns-in_err-size
returns-in_err-size c =
    let a = c.args in
    let words = a.words.now in
    let pool = a.pool.now in
    let out = a.out.now in
    ap (λ r. left r out) (passed-on _ c.from_residual.ensures)
    ∙ write_refused head_shape words 0 pool c.measure_head.ensures out a.at c.in_err-size.was
