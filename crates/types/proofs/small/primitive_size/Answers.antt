-- `primitive_size` meets its contract: what it tests is what `primitive-row` asks.
use Rattle.types.proofs.SmallLaws.{primitive-row}
use Rattle.types.proofs.small.primitive_size.Goals as goal

pub returns-then-row-lt14 : goal.returns-then-row-lt14
returns-then-row-lt14 c = primitive-row c.args.row.now c.if-row-ne2.false c.if-row-lt14.true
