-- `resource_size` meets its contract: what it tests is what `resource_absent` or `resource_present` asks.
use native.Mathlib.Omega.{arith}
use Rattle.numbers.proofs.LebLaws.{size_bounds}
use Rattle.fields.specs.Words.{word}
use Rattle.types.proofs.SmallLaws.{resource_absent, resource_present}
use Rattle.types.proofs.resource.resource_size.Goals as goal

pub overflow_add-result : goal.overflow_add-result
overflow_add-result c = omega (arith, c.unsigned_size.ensures, size_bounds 128 (word c.args.row.now 3))

pub returns-in-0 : goal.returns-in-0
returns-in-0 c = resource_absent c.args.row.now c.if-row-ne4.false (omega arith) c.in-0.is c.if-row-eq0.true

pub returns-in-1 : goal.returns-in-1
returns-in-1 c = resource_present c.args.row.now c.if-row-ne4.false (omega arith) c.in-1.is c.unsigned_size.ensures
