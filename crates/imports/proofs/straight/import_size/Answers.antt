-- `import_size` meets its contract: both fields are seen (`import_known`).
use native.Mathlib.Omega.{arith}
use mathlib.Core.Path.{sym, ◌∙◌}
use Rattle.imports.proofs.ImportLaws.{import_known}
use Rattle.imports.proofs.straight.import_size.Goals as goal

pub overflow_add-result : goal.overflow_add-result
overflow_add-result c =
    let row = c.args.row.now in
    let pool = c.args.pool.now in
    let known = (rw c.in_ok-reference.was at c.reference_size.ensures.known) pool in
    let most = rw c.in_ok-reference.was at c.reference_size.ensures.upper_bound in
    let few = (import_known row pool (omega arith) (omega arith) (sym c.in_ok-name.was ∙ c.extern_size.ensures) known most).0 in
    omega arith

pub returns : goal.returns
returns c =
    let row = c.args.row.now in
    let pool = c.args.pool.now in
    let known = (rw c.in_ok-reference.was at c.reference_size.ensures.known) pool in
    let most = rw c.in_ok-reference.was at c.reference_size.ensures.upper_bound in
    (import_known row pool (omega arith) (omega arith) (sym c.in_ok-name.was ∙ c.extern_size.ensures) known most).1
