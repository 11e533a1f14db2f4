-- `put_counted` meets its contract: count and options one after the other (`counted-wrote`).
use Rattle.canonicals.proofs.LiftedLaws.{counted-wrote}
use Rattle.canonicals.proofs.straight.put_counted.Goals as goal

pub returns : goal.returns
returns c =
    let a = c.args in
    counted-wrote a.row.now a.out.now a.to c.requires.2 c.put_unsigned.ensures c.unsigned_size.ensures c.put_options.ensures
