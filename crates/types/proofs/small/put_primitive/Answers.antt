-- `put_primitive` meets its contract: a V of tag 0 is its byte (`primitive-wrote`).
use Rattle.fields.specs.Words.{word}
use Rattle.types.proofs.SmallLaws.{primitive-wrote}
use Rattle.types.proofs.small.put_primitive.Goals as goal

pub returns : goal.returns
returns c =
    let a = c.args in
    primitive-wrote a.out.now a.to (word a.row.now 1) c.put_value.ensures
    c.requires.1
