-- `zero_options_row` meets its contract: what was seen and has room is put (`put_room`), and else nothing is done.
use Rattle.canonicals.proofs.ClassLaws.{put_room, put_some, put_none, zero_options_known}
use Rattle.canonicals.proofs.straight.zero_options_row.Goals as goal

pub returns-in_err-size : goal.returns-in_err-size
returns-in_err-size c = rw c.from_residual.ensures put_none

pub put_zero_options-requires : goal.put_zero_options-requires
put_zero_options-requires c =
    let a = c.args in
    put_room a.out.now a.at (zero_options_known c.in_ok-size.ensures) c.fits.ensures c.if-fits.true

pub returns-then-fits : goal.returns-then-fits
returns-then-fits c =
    let a = c.args in
    put_some a.out.now a.at (zero_options_known c.in_ok-size.ensures) c.fits.ensures c.if-fits.true a.lead c.put_zero_options.ensures

pub returns : goal.returns
returns c = put_none
