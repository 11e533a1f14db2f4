-- `optional_row_size` meets its contract: what it tests is what `optional_row` asks.
use Rattle.types.proofs.SmallLaws.{optional_row}
use Rattle.types.proofs.small.optional_row_size.Goals as goal

pub returns : goal.returns
returns c =
    let row = c.args.row.now in
    optional_row row
    (rw c.in_ok-optional_size.was at c.optional_size.ensures.optional_known)
    c.if-row-ne3.false
