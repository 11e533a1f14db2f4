-- `put_import` stores the extern name and then the reference, as the row has them (`import_held`).
use native.Mathlib.Omega.{arith}
use Rattle.writing.proofs.WroteLaws.{same_size}
use Rattle.imports.proofs.ImportLaws.{import_held, import_put}
use Rattle.imports.proofs.straight.put_import.Goals as goal

pub put_extern-end-requires-clause-row_len : goal.put_extern-end-requires-clause-row_len
put_extern-end-requires-clause-row_len c =
    let held = import_held c.args.row.now c.args.pool.now c.requires.measured in
    (held.width, held.right)

pub put_extern-end-requires-clause-row_in_bounds : goal.put_extern-end-requires-clause-row_in_bounds
put_extern-end-requires-clause-row_in_bounds c =
    let held = import_held c.args.row.now c.args.pool.now c.requires.measured in
    omega (arith, held.size, c.requires.ends)

pub bounds-row-12 : goal.bounds-row-12
bounds-row-12 c =
    let a = c.args in
    let pool = a.pool.now in
    let row = a.row.now in
    omega (arith, (import_held row pool c.requires.measured).width)

pub bounds-row-13 : goal.bounds-row-13
bounds-row-13 c =
    let a = c.args in
    let pool = a.pool.now in
    let row = a.row.now in
    omega (arith, (import_held row pool c.requires.measured).width)

pub bounds-row-14 : goal.bounds-row-14
bounds-row-14 c =
    let a = c.args in
    let pool = a.pool.now in
    let row = a.row.now in
    omega (arith, (import_held row pool c.requires.measured).width)

pub put_reference-requires : goal.put_reference-requires
put_reference-requires c =
    let a = c.args in
    let pool = a.pool.now in
    let row = a.row.now in
    let held = import_held row pool c.requires.measured in
    (held.sort, omega (arith, held.size, c.put_extern-end.ensures.place, same_size c.put_extern-end.ensures, c.requires.ends))

pub returns : goal.returns
returns c =
    let a = c.args in
    let pool = a.pool.now in
    let row = a.row.now in
    import_put row pool c.requires.measured c.put_extern-end.ensures
    c.put_reference.ensures
