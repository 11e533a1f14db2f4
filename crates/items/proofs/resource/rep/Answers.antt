-- `rep` meets its contract: the ways out are those of a representation's byte (`StoreLaws`). Assumes nothing.
use Rattle.items.proofs.StoreLaws.{rep_first, rep_second, rep_other, rep_empty}
use Rattle.items.proofs.resource.rep.Goals as goal

pub returns-then-bs-eq127 : goal.returns-then-bs-eq127
returns-then-bs-eq127 c = λ g k. rep_first g c.args.bs.now c.if-bs-gt0.true c.if-bs-eq127.true

pub returns-then-bs-eq126 : goal.returns-then-bs-eq126
returns-then-bs-eq126 c = λ g k. rep_second g c.args.bs.now k c.if-bs-gt0.true c.if-bs-eq126.true

pub returns-else-bs-eq126 : goal.returns-else-bs-eq126
returns-else-bs-eq126 c = λ g k. rep_other g c.args.bs.now c.if-bs-gt0.true c.if-bs-eq127.false c.if-bs-eq126.false

pub returns-else-bs-gt0 : goal.returns-else-bs-gt0
returns-else-bs-gt0 c = λ g k. rep_empty g c.args.bs.now c.if-bs-gt0.false
