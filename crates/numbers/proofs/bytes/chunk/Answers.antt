-- `numbers::bytes::chunk` meets its contract, by `CopyLaws.through-array`. Assumes nothing.
use Rattle.std.proofs.Common.{replicate}
use Rattle.numbers.proofs.CopyLaws.{through-array}
use Rattle.numbers.proofs.bytes.chunk.Goals as goal

pub returns : goal.returns
returns c =
    let a = c.args in
    through-array a.src.now (replicate 16 0) a.out.now a.size a.from a.to c.requires.size_in_bounds c.requires.size_bound
    c.copy_run.ensures c.copy_run-2.ensures
