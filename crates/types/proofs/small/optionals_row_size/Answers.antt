-- `optionals_row_size` meets its contract: what it tests is what `optionals_row` asks.
use Rattle.types.proofs.SmallLaws.{optionals_row}
use Rattle.types.proofs.small.optionals_row_size.Goals as goal

pub returns : goal.returns
returns c =
    let row = c.args.row.now in
    optionals_row row
    (rw c.in_ok-optional_size.was at c.optional_size.ensures.optional_known)
    (rw c.in_ok-optional_size-2.was at c.optional_size-2.ensures.optional_known)
    c.if-row-ne5.false
