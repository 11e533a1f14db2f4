-- `numbers::bytes::copy` meets its contract: at each `return` the tests that led there say whether the bytes fit, and `store-fits`
-- or `store-room` what storing then comes to. Assumes nothing.
use Rattle.std.specs.Prelude.{Ok}
use Rattle.std.proofs.Common.{length, sym, ap, ◌∙◌, rules}
use Rattle.numbers.specs.Bytes.{left}
use Rattle.numbers.proofs.BytesLaws.{store-fits, store-room}
use Rattle.numbers.proofs.bytes.copy.Goals as goal

pub returns-then-out-at : goal.returns-then-out-at
returns-then-out-at c =
    let a = c.args in
    sym (store-room a.src.now a.at a.out.now (search rules))

pub returns-then-out-at-2 : goal.returns-then-out-at-2
returns-then-out-at-2 c =
    let a = c.args in
    sym (store-room a.src.now a.at a.out.now (search rules))

pub returns : goal.returns
returns c =
    let a = c.args in
    ap (left (Ok (length a.src.now))) c.copy_in.ensures
    ∙ sym (store-fits a.src.now a.at a.out.now (search rules))
