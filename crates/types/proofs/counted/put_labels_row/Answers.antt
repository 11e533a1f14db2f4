-- `put_labels_row` meets its contract: its byte, its count and its elements are one run (`counted_front`, `counted_put`).
use native.Mathlib.Omega.{arith}
use lib.ListN.{drop}
use Rattle.fields.specs.Words.{word}
use Rattle.fields.specs.Table.{elements}
use Rattle.writing.proofs.WroteLaws.{same_size}
use Rattle.types.specs.Table.{label}
use Rattle.types.proofs.CountedLaws.{counted_front, counted_put}
use Rattle.types.proofs.counted.put_labels_row.Goals as goal

pub overflow_add-next-2 : goal.overflow_add-next-2
overflow_add-next-2 c =
    let args = c.args in
    let row = args.row.now in
    let n = word row 1 in
    let front = counted_front args.lead n (elements n 2 (label args.pool.now) (drop 2 row)) args.out.now args.to
    c.requires.row_in_bounds c.put_unsigned.ensures c.stored_size.ensures in
    omega (arith, front.1, same_size front.0)

pub put_labels-requires : goal.put_labels-requires
put_labels-requires c =
    let args = c.args in
    let row = args.row.now in
    let n = word row 1 in
    let front = counted_front args.lead n (elements n 2 (label args.pool.now) (drop 2 row)) args.out.now args.to
    c.requires.row_in_bounds c.put_unsigned.ensures c.stored_size.ensures in
    record { n_in_bounds = omega (arith, c.requires.row_len); rights = c.requires.rights; row_in_bounds = front.1 }

pub shape_of-out : goal.shape_of-out
shape_of-out c =
    let args = c.args in
    let row = args.row.now in
    let n = word row 1 in
    same_size (counted_put args.lead n (elements n 2 (label args.pool.now) (drop 2 row)) args.out.now args.to
    c.requires.row_in_bounds c.put_unsigned.ensures c.stored_size.ensures c.put_labels.ensures)

pub returns : goal.returns
returns c =
    let args = c.args in
    let row = args.row.now in
    let n = word row 1 in
    (counted_put args.lead n (elements n 2 (label args.pool.now) (drop 2 row)) args.out.now args.to
    c.requires.row_in_bounds c.put_unsigned.ensures c.stored_size.ensures c.put_labels.ensures).content
