-- `numbers::leb::size` meets its contract: `size_by_bounds` says that the sum is the size.
use Rattle.std.proofs.Common.{◌*◌, arith}
use Rattle.numbers.proofs.Shortest.{over-small, size_by_bounds}
use Rattle.numbers.proofs.leb.size.Goals as goal

pub overflow_add-result : goal.overflow_add-result
overflow_add-result c = omega (arith, c.past.ensures, over-small (c.args.end) c.args.n)

pub overflow_add-result-2 : goal.overflow_add-result-2
overflow_add-result-2 c = omega (arith, c.past.ensures, over-small (c.args.end) c.args.n, c.past-2.ensures, over-small (c.args.end * 128) c.args.n)

pub overflow_add-result-3 : goal.overflow_add-result-3
overflow_add-result-3 c = omega (arith, c.past.ensures, over-small (c.args.end) c.args.n, c.past-2.ensures, over-small (c.args.end * 128) c.args.n, c.past-3.ensures, over-small (c.args.end * 128 * 128) c.args.n)

pub overflow_add-result-4 : goal.overflow_add-result-4
overflow_add-result-4 c = omega (arith, c.past.ensures, over-small (c.args.end) c.args.n, c.past-2.ensures, over-small (c.args.end * 128) c.args.n, c.past-3.ensures, over-small (c.args.end * 128 * 128) c.args.n, c.past-4.ensures, over-small (c.args.end * 128 * 128 * 128) c.args.n)

pub returns : goal.returns
returns c = omega (arith, c.past.ensures, c.past-2.ensures, c.past-3.ensures, c.past-4.ensures, size_by_bounds 4 c.args.end c.args.n)
