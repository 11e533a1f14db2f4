-- `store_extern` meets its contract: two words and the words of three options (`extern_words_lem`); none of these stores changes the size of
-- the row.
use native.Mathlib.Omega.{arith}
use lib.ListN.{length-set}
use Rattle.instance_items.proofs.ExternLaws.{size_one, size_two, extern_words_lem}
use Rattle.instance_items.proofs.stores.store_extern.Goals as goal

pub store_slot-requires : goal.store_slot-requires
store_slot-requires c = (simp length-set (omega (arith, c.requires.0)), c.requires.1.1)

pub store_slot-requires-2 : goal.store_slot-requires-2
store_slot-requires-2 c =
    let a = c.args in
    (omega (arith, size_one a.row.now a.at a.to a.e c.store_slot.ensures, c.requires.0), c.requires.1.2)

pub store_slot-requires-3 : goal.store_slot-requires-3
store_slot-requires-3 c =
    let a = c.args in
    (omega (arith, size_two a.row.now a.at a.to a.e c.store_slot.ensures c.store_slot-2.ensures, c.requires.0), c.requires.1.3)

pub returns : goal.returns
returns c =
    let a = c.args in
    extern_words_lem a.row.now a.at a.to a.e c.store_slot.ensures c.store_slot-2.ensures c.store_slot-3.ensures
