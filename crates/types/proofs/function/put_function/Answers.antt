-- `put_function` meets its contract: the first byte, the count, the parameters and the result one after the other.
use native.Mathlib.Omega.{arith}
use Rattle.types.proofs.FunctionLaws.{byte_put, lead_room, count_wrote, count_ends, fields_room, result_room, function_wrote, function_length}
use Rattle.types.proofs.function.put_function.Goals as goal

pub bounds-out-to : goal.bounds-out-to
bounds-out-to c =
    let a = c.args in
    let row = a.row.now in
    let pool = a.pool.now in
    let out = a.out.now in
    omega (arith, lead_room row pool out a.to c.requires.row_in_bounds)

pub overflow_cast-n : goal.overflow_cast-n
overflow_cast-n c = omega (arith, c.type_inv.row 2)

pub overflow_mul-last : goal.overflow_mul-last
overflow_mul-last c = omega (arith, c.type_inv.row 2)

pub overflow_add-last : goal.overflow_add-last
overflow_add-last c = omega (arith, c.type_inv.row 2)

pub overflow_add-next : goal.overflow_add-next
overflow_add-next c =
    let a = c.args in
    let row = a.row.now in
    let pool = a.pool.now in
    let out = a.out.now in
    omega (arith, lead_room row pool out a.to c.requires.row_in_bounds)

pub overflow_add-to : goal.overflow_add-to
overflow_add-to c =
    let a = c.args in
    let row = a.row.now in
    let pool = a.pool.now in
    let out = a.out.now in
    omega (arith, lead_room row pool out a.to c.requires.row_in_bounds)

pub overflow_add-next-2 : goal.overflow_add-next-2
overflow_add-next-2 c =
    let a = c.args in
    let row = a.row.now in
    let pool = a.pool.now in
    let out = a.out.now in
    let lead = byte_put out a.to c.async_byte.ensures in
    let count = count_wrote row pool out a.to c.requires.row_in_bounds lead c.put_unsigned.ensures
    c.stored_size.ensures in
    omega (arith, count_ends row pool out a.to c.requires.row_in_bounds lead count)

pub put_fields-end-requires : goal.put_fields-end-requires
put_fields-end-requires c =
    let a = c.args in
    let row = a.row.now in
    let pool = a.pool.now in
    let out = a.out.now in
    let lead = byte_put out a.to c.async_byte.ensures in
    let count = count_wrote row pool out a.to c.requires.row_in_bounds lead c.put_unsigned.ensures
    c.stored_size.ensures in record {
      n_in_bounds = omega (arith, c.requires.row_len);
      rights = c.requires.rights;
      row_in_bounds = fields_room row pool out a.to c.requires.row_in_bounds lead count;
    }

pub put_result-requires : goal.put_result-requires
put_result-requires c =
    let a = c.args in
    let row = a.row.now in
    let pool = a.pool.now in
    let out = a.out.now in
    let lead = byte_put out a.to c.async_byte.ensures in
    let count = count_wrote row pool out a.to c.requires.row_in_bounds lead c.put_unsigned.ensures
    c.stored_size.ensures in
    result_room row pool out a.to c.requires.row_in_bounds lead count c.put_fields-end.ensures

pub shape_of-out : goal.shape_of-out
shape_of-out c =
    let a = c.args in
    let row = a.row.now in
    let pool = a.pool.now in
    let out = a.out.now in
    let lead = byte_put out a.to c.async_byte.ensures in
    let count = count_wrote row pool out a.to c.requires.row_in_bounds lead c.put_unsigned.ensures
    c.stored_size.ensures in
    function_length row pool out a.to c.requires.row_in_bounds lead count c.put_fields-end.ensures c.put_result.ensures

pub returns : goal.returns
returns c =
    let a = c.args in
    let row = a.row.now in
    let pool = a.pool.now in
    let out = a.out.now in
    let lead = byte_put out a.to c.async_byte.ensures in
    let count = count_wrote row pool out a.to c.requires.row_in_bounds lead c.put_unsigned.ensures
    c.stored_size.ensures in
    function_wrote row pool out a.to c.requires.row_in_bounds lead count c.put_fields-end.ensures c.put_result.ensures
