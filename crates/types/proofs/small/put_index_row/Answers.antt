-- `put_index_row` meets its contract: a byte and a number are stored one after the other (`lead_wrote`).
use Rattle.writing.proofs.WroteLaws.{same_size}
use Rattle.types.proofs.SmallLaws.{lead_wrote}
use Rattle.types.proofs.small.put_index_row.Goals as goal

pub shape_of-out : goal.shape_of-out
shape_of-out c =
    let a = c.args in
    same_size (lead_wrote a.out.now a.to a.lead c.put_unsigned.ensures
    c.requires.row_in_bounds)

pub returns : goal.returns
returns c =
    let a = c.args in
    (lead_wrote a.out.now a.to a.lead c.put_unsigned.ensures
    c.requires.row_in_bounds).content
