-- `export_items_head_size` meets its contract: the row is as long as its count says, and a number has at most five bytes.
use native.Mathlib.Omega.{arith}
use native.Mathlib.Nat.{mul-le-mul_left}
use Rattle.numbers.proofs.LebLaws.{size_bounds}
use Rattle.fields.specs.Words.{word}
use Rattle.instances.proofs.head.export_items_head_size.Goals as goal

pub overflow_cast-n : goal.overflow_cast-n
overflow_cast-n c =
    omega (arith, c.type_inv.row 1)

pub overflow_mul-n : goal.overflow_mul-n
overflow_mul-n c =
    let args = c.args in
    omega (arith, c.type_inv.row 1, mul-le-mul_left (word args.row.now 1) (c.requires))

pub overflow_add-n : goal.overflow_add-n
overflow_add-n c =
    let args = c.args in
    omega (arith, c.type_inv.row 1, mul-le-mul_left (word args.row.now 1) (c.requires))

pub overflow_add-result : goal.overflow_add-result
overflow_add-result c =
    let args = c.args in
    omega (arith, c.unsigned_size.ensures, size_bounds 128 (word args.row.now 1))

pub returns : goal.returns
returns c =
    let args = c.args in
    let few = size_bounds 128 (word args.row.now 1) in
    record {
      headed = record { width = omega arith; size = omega (arith, c.unsigned_size.ensures) };
      upper_bound = omega (arith, c.unsigned_size.ensures, few);
    }
