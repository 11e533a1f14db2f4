-- `index_row_size` meets its contract: what it tests is what `index_row_lem` asks.
use native.Mathlib.Omega.{arith}
use Rattle.numbers.proofs.LebLaws.{size_bounds}
use Rattle.fields.specs.Words.{word}
use Rattle.types.proofs.SmallLaws.{index_row_lem}
use Rattle.types.proofs.small.index_row_size.Goals as goal

pub overflow_add-result : goal.overflow_add-result
overflow_add-result c = omega (arith, c.unsigned_size.ensures, size_bounds 128 (word c.args.row.now 1))

pub returns : goal.returns
returns c = index_row_lem c.args.row.now c.unsigned_size.ensures c.if-row-ne2.false
