-- `number_at` meets its contract: each byte is below 256, so no sum or product passes 32 bits.
use native.Mathlib.Omega.{arith}
use Prim.Native.Nat.{◌+◌}
use Rattle.sheets.specs.Frame.{number}
use Rattle.sheets.proofs.number_at.Goals as goal

pub overflow_cast-high : goal.overflow_cast-high
overflow_cast-high c = omega (arith, c.type_inv.input c.args.at)

pub overflow_mul-high : goal.overflow_mul-high
overflow_mul-high c = omega (arith, c.type_inv.input c.args.at)

pub overflow_cast-high-2 : goal.overflow_cast-high-2
overflow_cast-high-2 c = omega (arith, c.type_inv.input (c.args.at + 1))

pub overflow_add-high-2 : goal.overflow_add-high-2
overflow_add-high-2 c =
    let at = c.args.at in
    omega (arith, c.type_inv.input at, c.type_inv.input (at + 1))

pub overflow_mul-result : goal.overflow_mul-result
overflow_mul-result c =
    let at = c.args.at in
    omega (arith, c.type_inv.input at, c.type_inv.input (at + 1))

pub overflow_cast-result : goal.overflow_cast-result
overflow_cast-result c = omega (arith, c.type_inv.input (c.args.at + 2))

pub overflow_add-result-2 : goal.overflow_add-result-2
overflow_add-result-2 c =
    let at = c.args.at in
    omega (arith, c.type_inv.input at, c.type_inv.input (at + 1), c.type_inv.input (at + 2))

pub overflow_mul-result-2 : goal.overflow_mul-result-2
overflow_mul-result-2 c =
    let at = c.args.at in
    omega (arith, c.type_inv.input at, c.type_inv.input (at + 1), c.type_inv.input (at + 2))

pub overflow_cast-result-2 : goal.overflow_cast-result-2
overflow_cast-result-2 c = omega (arith, c.type_inv.input (c.args.at + 3))

pub overflow_add-result-4 : goal.overflow_add-result-4
overflow_add-result-4 c =
    let at = c.args.at in
    omega (arith, c.type_inv.input at, c.type_inv.input (at + 1), c.type_inv.input (at + 2), c.type_inv.input (at + 3))

pub returns : goal.returns
unfolding number
returns c = omega arith
