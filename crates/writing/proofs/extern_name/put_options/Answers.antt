-- `put_options` stores the three options, one after the other (`slots_wrote`).
use native.Mathlib.Omega.{arith}
use Rattle.writing.proofs.ExternLaws.{slots_length, slots_wrote}
use Rattle.writing.proofs.WroteLaws.{same_size}
use Rattle.writing.proofs.extern_name.put_options.Goals as goal

pub put_option-suffix-requires-clause-i_bound : goal.put_option-suffix-requires-clause-i_bound
put_option-suffix-requires-clause-i_bound c = (omega arith, c.requires.extern_inside.implements)

pub put_option-suffix-requires-clause-i_in_bounds : goal.put_option-suffix-requires-clause-i_in_bounds
put_option-suffix-requires-clause-i_in_bounds c =
    let a = c.args in
    omega (arith, slots_length a.pool.now a.ws.now, c.requires.ws_in_bounds)

pub put_option-id-requires-clause-i_bound : goal.put_option-id-requires-clause-i_bound
put_option-id-requires-clause-i_bound c = (omega arith, c.requires.extern_inside.suffix)

pub put_option-id-requires-clause-i_in_bounds : goal.put_option-id-requires-clause-i_in_bounds
put_option-id-requires-clause-i_in_bounds c =
    let a = c.args in
    omega (arith, slots_length a.pool.now a.ws.now, c.put_option-suffix.ensures.place, same_size c.put_option-suffix.ensures, c.requires.ws_in_bounds)

pub put_option-requires-clause-i_bound : goal.put_option-requires-clause-i_bound
put_option-requires-clause-i_bound c =
    let a = c.args in
    (omega arith, c.requires.extern_inside.id)

pub put_option-requires-clause-i_in_bounds : goal.put_option-requires-clause-i_in_bounds
put_option-requires-clause-i_in_bounds c =
    let a = c.args in
    omega (arith, slots_length a.pool.now a.ws.now, c.put_option-suffix.ensures.place, same_size c.put_option-suffix.ensures, c.put_option-id.ensures.place, same_size c.put_option-id.ensures, c.requires.ws_in_bounds)

pub returns : goal.returns
returns c =
    let a = c.args in
    slots_wrote a.pool.now a.ws.now c.put_option-suffix.ensures c.put_option-id.ensures c.put_option.ensures
