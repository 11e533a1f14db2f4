-- `module` meets its contract: its tests are those of `scan_module`. Assumes nothing.
use mathlib.Core.Path.{◌∙◌}
use Rattle.items.proofs.ReferenceLaws.{module_short, module_is, module_other}
use Rattle.items.proofs.import.module.Goals as goal

pub returns-then-bs-eq17 : goal.returns-then-bs-eq17
returns-then-bs-eq17 c = λ g.
    c.indexed.ensures
    ∙ module_is g c.args.bs.now c.requires.0 c.requires.1 c.if-bs-gt1.true c.if-bs-eq17.true

pub returns-else-bs-eq17 : goal.returns-else-bs-eq17
returns-else-bs-eq17 c = λ g.
    module_other g c.args.bs.now c.requires.0 c.requires.1 c.if-bs-gt1.true c.if-bs-eq17.false

pub returns-else-bs-gt1 : goal.returns-else-bs-gt1
returns-else-bs-gt1 c = λ g. module_short g c.args.bs.now c.requires.0 c.requires.1 c.if-bs-gt1.false
