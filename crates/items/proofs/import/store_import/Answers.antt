-- `store_import` meets its contract: three words, the words of three options, and three words more (`import-words`); none of these stores
-- changes the size of the row.
use native.Mathlib.Omega.{arith}
use lib.ListN.{length-set}
use Rattle.items.proofs.OnceLaws.{size_one, size_two, size_last, import-words}
use Rattle.items.proofs.import.store_import.Goals as goal

pub bounds-row-1 : goal.bounds-row-1
bounds-row-1 c = simp length-set (omega (arith, c.requires))

pub bounds-row-2 : goal.bounds-row-2
bounds-row-2 c = simp length-set (omega (arith, c.requires))

pub store_slot-requires : goal.store_slot-requires
store_slot-requires c = simp length-set (omega (arith, c.requires))

pub store_slot-requires-2 : goal.store_slot-requires-2
store_slot-requires-2 c =
    let a = c.args in
    omega (arith, size_one a.row.now a.e c.store_slot.ensures, c.requires)

pub store_slot-requires-3 : goal.store_slot-requires-3
store_slot-requires-3 c =
    let a = c.args in
    omega (arith, size_two a.row.now a.e c.store_slot.ensures c.store_slot-2.ensures, c.requires)

pub bounds-row-12 : goal.bounds-row-12
bounds-row-12 c =
    let a = c.args in
    let e = size_last a.row.now a.e c.store_slot.ensures c.store_slot-2.ensures
    c.store_slot-3.ensures in
    omega (arith, e, c.requires)

pub bounds-row-13 : goal.bounds-row-13
bounds-row-13 c =
    let a = c.args in
    let e = size_last a.row.now a.e c.store_slot.ensures c.store_slot-2.ensures
    c.store_slot-3.ensures in
    simp length-set (omega (arith, e, c.requires))

pub bounds-row-14 : goal.bounds-row-14
bounds-row-14 c =
    let a = c.args in
    let e = size_last a.row.now a.e c.store_slot.ensures c.store_slot-2.ensures
    c.store_slot-3.ensures in
    simp length-set (omega (arith, e, c.requires))

pub shape_of-row : goal.shape_of-row
shape_of-row c =
    let a = c.args in
    simp length-set
    (size_last a.row.now a.e c.store_slot.ensures c.store_slot-2.ensures
    c.store_slot-3.ensures)

pub returns : goal.returns
returns c =
    let a = c.args in
    import-words a.row.now a.e a.r c.store_slot.ensures c.store_slot-2.ensures c.store_slot-3.ensures
