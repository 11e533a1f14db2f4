-- `put_index` meets its contract: a byte and a number (`index_wrote`).
use Rattle.fields.specs.Words.{word}
use Rattle.writing.proofs.WroteLaws.{same_size}
use Rattle.canonicals.proofs.ClassLaws.{index_wrote}
use Rattle.canonicals.proofs.straight.put_index.Goals as goal

pub returns : goal.returns
returns c =
    let a = c.args in
    (index_wrote a.lead a.out.now a.to (word a.row.now 1) c.requires.1 c.put_unsigned.ensures).content

pub shape_of-out : goal.shape_of-out
shape_of-out c =
    let a = c.args in
    same_size (index_wrote a.lead a.out.now a.to (word a.row.now 1) c.requires.1 c.put_unsigned.ensures)
