-- `instantiate_head_size` meets its contract: the row is as long as its count says, and a number has at most five bytes.
use native.Mathlib.Omega.{arith}
use native.Mathlib.Nat.{mul-le-mul_left}
use lib.ListN.{length-append}
use Rattle.numbers.specs.Leb.{unsigned}
use Rattle.numbers.proofs.LebLaws.{size_bounds}
use Rattle.fields.specs.Words.{word}
use Rattle.instances.proofs.head.instantiate_head_size.Goals as goal

pub overflow_cast-n : goal.overflow_cast-n
overflow_cast-n c =
    omega (arith, c.type_inv.row 2)

pub overflow_mul-n : goal.overflow_mul-n
overflow_mul-n c =
    let args = c.args in
    omega (arith, c.type_inv.row 2, mul-le-mul_left (word args.row.now 2) (c.requires))

pub overflow_add-n : goal.overflow_add-n
overflow_add-n c =
    let args = c.args in
    omega (arith, c.type_inv.row 2, mul-le-mul_left (word args.row.now 2) (c.requires))

pub overflow_add-result : goal.overflow_add-result
overflow_add-result c =
    let args = c.args in
    omega (arith, c.unsigned_size.ensures, size_bounds 128 (word args.row.now 1))

pub overflow_add-result-2 : goal.overflow_add-result-2
overflow_add-result-2 c =
    let args = c.args in
    let row = args.row.now in
    omega (arith, c.unsigned_size.ensures, c.unsigned_size-2.ensures, size_bounds 128 (word row 1), size_bounds 128 (word row 2))

pub returns : goal.returns
returns c =
    let args = c.args in
    let row = args.row.now in record {
      headed = record {
        width = omega arith;
        size = omega (arith, c.unsigned_size.ensures, c.unsigned_size-2.ensures, length-append (unsigned (word row 1)) (unsigned (word row 2)));
      };
      upper_bound = omega (arith, c.unsigned_size.ensures, c.unsigned_size-2.ensures, size_bounds 128 (word row 1), size_bounds 128 (word row 2));
    }
