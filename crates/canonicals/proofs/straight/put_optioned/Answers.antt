-- `put_optioned` meets its contract: index, count and options one after the other (`optioned-wrote`).
use Rattle.canonicals.proofs.ClassLaws.{optioned-wrote}
use Rattle.canonicals.proofs.straight.put_optioned.Goals as goal

pub returns : goal.returns
returns c =
    let a = c.args in
    optioned-wrote a.row.now a.out.now a.to c.requires.1 c.put_unsigned.ensures c.unsigned_size.ensures c.put_unsigned-2.ensures c.unsigned_size-2.ensures c.put_options.ensures
