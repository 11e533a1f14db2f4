-- `numbers::bytes::ends` meets its contract, by `CopyLaws.first-and-last`. Assumes nothing.
use Rattle.numbers.proofs.CopyLaws.{first-and-last}
use Rattle.numbers.proofs.bytes.ends.Goals as goal

pub returns : goal.returns
returns c =
    let a = c.args in
    first-and-last a.src.now a.out.now a.at a.n c.requires.n_in_bounds c.requires.src_len_bound
    c.chunk.ensures c.chunk-2.ensures
