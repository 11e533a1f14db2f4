-- `put_head` meets its contract: the first byte, the count and the parameters one after the other.
use native.Mathlib.Omega.{arith}
use Rattle.types.proofs.FunctionLaws.{byte_put}
use Rattle.types.proofs.StepLaws.{lead_room, count_wrote, count_ends, fields_room, head_wrote, head_length}
use Rattle.types.proofs.steps.put_head.Goals as goal

pub bounds-out-at : goal.bounds-out-at
bounds-out-at c =
    let a = c.args in
    let words = a.words.now in
    let pool = a.pool.now in
    let out = a.out.now in
    omega (arith, lead_room words pool out a.at c.requires.words_in_bounds)

pub overflow_cast-n : goal.overflow_cast-n
overflow_cast-n c = omega (arith, c.type_inv.words 1)

pub overflow_add-next : goal.overflow_add-next
overflow_add-next c =
    let a = c.args in
    let words = a.words.now in
    let pool = a.pool.now in
    let out = a.out.now in
    omega (arith, lead_room words pool out a.at c.requires.words_in_bounds)

pub overflow_add-at : goal.overflow_add-at
overflow_add-at c =
    let a = c.args in
    let words = a.words.now in
    let pool = a.pool.now in
    let out = a.out.now in
    omega (arith, lead_room words pool out a.at c.requires.words_in_bounds)

pub overflow_add-next-2 : goal.overflow_add-next-2
overflow_add-next-2 c =
    let a = c.args in
    let words = a.words.now in
    let pool = a.pool.now in
    let out = a.out.now in
    let lead = byte_put out a.at c.async_byte.ensures in
    let count = count_wrote words pool out a.at c.requires.words_in_bounds lead c.put_unsigned.ensures
    c.stored_size.ensures in
    omega (arith, count_ends words pool out a.at c.requires.words_in_bounds lead count)

pub put_fields-requires : goal.put_fields-requires
put_fields-requires c =
    let a = c.args in
    let words = a.words.now in
    let pool = a.pool.now in
    let out = a.out.now in
    let lead = byte_put out a.at c.async_byte.ensures in
    let count = count_wrote words pool out a.at c.requires.words_in_bounds lead c.put_unsigned.ensures
    c.stored_size.ensures in record {
      n_in_bounds = omega (arith, c.requires.words_len);
      rights = c.requires.rights;
      row_in_bounds = fields_room words pool out a.at c.requires.words_in_bounds lead count;
    }

pub shape_of-out : goal.shape_of-out
shape_of-out c =
    let a = c.args in
    let words = a.words.now in
    let pool = a.pool.now in
    let out = a.out.now in
    let lead = byte_put out a.at c.async_byte.ensures in
    let count = count_wrote words pool out a.at c.requires.words_in_bounds lead c.put_unsigned.ensures
    c.stored_size.ensures in
    head_length words pool out a.at c.requires.words_in_bounds lead count c.put_fields.ensures

pub returns : goal.returns
returns c =
    let a = c.args in
    let words = a.words.now in
    let pool = a.pool.now in
    let out = a.out.now in
    let lead = byte_put out a.at c.async_byte.ensures in
    let count = count_wrote words pool out a.at c.requires.words_in_bounds lead c.put_unsigned.ensures
    c.stored_size.ensures in
    head_wrote words pool out a.at c.requires.words_in_bounds lead count c.put_fields.ensures
