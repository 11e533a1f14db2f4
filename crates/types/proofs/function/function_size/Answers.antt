-- `function_size` meets its contract: the row is as long as its count says, and its result and its parameters were seen.
use Prim.Native.Nat.{◌+◌, ◌*◌}
use native.Mathlib.Omega.{arith}
use lib.ListN.{get_or}
use Rattle.std.proofs.lemmas.Option.{IfSome_then}
use Rattle.numbers.proofs.LebLaws.{size_bounds}
use Rattle.fields.specs.Words.{word}
use Rattle.types.proofs.FunctionLaws.{function_known}
use Rattle.types.proofs.function.function_size.Goals as goal

pub overflow_add-unsigned_size : goal.overflow_add-unsigned_size
overflow_add-unsigned_size c = omega (arith, c.unsigned_size.ensures, (size_bounds 128 (get_or c.args.row.now 2 0)).1)

pub overflow_add-unsigned_size-2 : goal.overflow_add-unsigned_size-2
overflow_add-unsigned_size-2 c =
    omega (
      arith,
      c.unsigned_size.ensures,
      (size_bounds 128 (get_or c.args.row.now 2 0)).1,
      rw c.in_ok-result.was at c.optional_size.ensures.upper_bound,
    )

pub fields_size-requires-clause-n_in_bounds : goal.fields_size-requires-clause-n_in_bounds
fields_size-requires-clause-n_in_bounds c =
    let size = (size_bounds 128 (get_or c.args.row.now 2 0)).1 in (
      omega (arith, c.if-row-last.false),
      omega (arith, c.unsigned_size.ensures, size, rw c.in_ok-result.was at c.optional_size.ensures.upper_bound),
    )

pub returns : goal.returns
returns c =
    let row = c.args.row.now in
    let last = 3 + word row 2 * 4 in
    let result = rw c.in_ok-result.was at c.optional_size.ensures.optional_known in
    IfSome_then c.fields_size.result c.fields_size.ensures
    (λ r. function_known row c.args.pool.now c.requires.0 c.requires.1
    (omega (arith, c.if-row-last.false)) (omega (arith, c.if-row-gt1.false))
    result (omega (arith, c.unsigned_size.ensures)))
