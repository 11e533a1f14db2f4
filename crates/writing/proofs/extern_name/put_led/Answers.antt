-- `put_led` stores the byte and then the name (`byte-named`).
use native.Mathlib.Omega.{arith}
use Rattle.writing.proofs.GroupLaws.{byte-named}
use Rattle.writing.proofs.WroteLaws.{same_size}
use Rattle.writing.proofs.extern_name.put_led.Goals as goal

pub overflow_add-result-2 : goal.overflow_add-result-2
overflow_add-result-2 c =
    let a = c.args in
    let w = byte-named a.out.now a.to a.lead a.pool.now a.start a.size c.requires.0 c.requires.1 c.put_name.ensures
    c.stored_size.ensures in
    omega (arith, w.place, c.requires.1)

pub shape_of-out : goal.shape_of-out
shape_of-out c =
    let a = c.args in
    same_size
    (byte-named a.out.now a.to a.lead a.pool.now a.start a.size c.requires.0 c.requires.1 c.put_name.ensures
    c.stored_size.ensures)

pub returns : goal.returns
returns c =
    let a = c.args in
    byte-named a.out.now a.to a.lead a.pool.now a.start a.size c.requires.0 c.requires.1 c.put_name.ensures
    c.stored_size.ensures
