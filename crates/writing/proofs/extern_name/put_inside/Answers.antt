-- `put_inside` stores the lead and the name, and where there are options, how many and then the options.
use native.Mathlib.Omega.{arith}
use mathlib.Core.Path.{ap}
use lib.ListN.{length, length-set}
use Rattle.writing.proofs.ExternLaws.{plain_bytes, optioned_bytes_lem, optioned_length}
use Rattle.writing.proofs.GroupLaws.{byte-wrote}
use Rattle.writing.proofs.WroteLaws.{then, then-byte, same_size}
use Rattle.writing.proofs.extern_name.put_inside.Goals as goal

pub put_led-requires : goal.put_led-requires
put_led-requires c =
    let a = c.args in
    let pool = a.pool.now in
    let ws = a.ws.now in
    (omega (arith, c.word_at-start.ensures, c.word_at-size.ensures, c.requires.extern_inside.itself), omega (arith, ap length (plain_bytes pool ws c.slots_of-options.ensures.0 c.word_at-start.ensures c.word_at-size.ensures c.if-options-eq0.true), c.requires.ws_in_bounds))

pub returns-then-options-eq0 : goal.returns-then-options-eq0
returns-then-options-eq0 c =
    let a = c.args in
    let pool = a.pool.now in
    let ws = a.ws.now in
    rw (plain_bytes pool ws c.slots_of-options.ensures.0 c.word_at-start.ensures c.word_at-size.ensures c.if-options-eq0.true) c.put_led.ensures

pub put_led-next-requires : goal.put_led-next-requires
put_led-next-requires c =
    let a = c.args in
    let pool = a.pool.now in
    let ws = a.ws.now in
    (omega (arith, c.word_at-start.ensures, c.word_at-size.ensures, c.requires.extern_inside.itself), omega (arith, optioned_length pool ws c.slots_of-options.ensures.0 c.word_at-start.ensures c.word_at-size.ensures c.if-options-eq0.false, c.requires.ws_in_bounds))

pub bounds-out-next : goal.bounds-out-next
bounds-out-next c =
    let a = c.args in
    let pool = a.pool.now in
    let ws = a.ws.now in
    omega (arith, c.put_led-next.ensures.place, same_size c.put_led-next.ensures, optioned_length pool ws c.slots_of-options.ensures.0 c.word_at-start.ensures c.word_at-size.ensures c.if-options-eq0.false, c.requires.ws_in_bounds)

pub overflow_add-next : goal.overflow_add-next
overflow_add-next c =
    let a = c.args in
    let pool = a.pool.now in
    let ws = a.ws.now in
    omega (arith, c.put_led-next.ensures.place, optioned_length pool ws c.slots_of-options.ensures.0 c.word_at-start.ensures c.word_at-size.ensures c.if-options-eq0.false, c.requires.ws_in_bounds)

pub put_options-requires-clause-extern_inside : goal.put_options-requires-clause-extern_inside
put_options-requires-clause-extern_inside c =
    let a = c.args in
    let pool = a.pool.now in
    let ws = a.ws.now in
    c.requires.extern_inside

pub put_options-requires-clause-ws_in_bounds : goal.put_options-requires-clause-ws_in_bounds
put_options-requires-clause-ws_in_bounds c =
    let a = c.args in
    let pool = a.pool.now in
    let ws = a.ws.now in
    simp length-set (omega (arith, c.put_led-next.ensures.place, same_size c.put_led-next.ensures, optioned_length pool ws c.slots_of-options.ensures.0 c.word_at-start.ensures c.word_at-size.ensures c.if-options-eq0.false, c.requires.ws_in_bounds))

pub shape_of-out : goal.shape_of-out
shape_of-out c =
    same_size (then c.put_led-next.ensures (then-byte (byte-wrote _ _ _) c.put_options.ensures))

pub returns : goal.returns
returns c =
    let a = c.args in
    let pool = a.pool.now in
    let ws = a.ws.now in
    rw (optioned_bytes_lem pool ws c.slots_of-options.ensures.0 c.word_at-start.ensures c.word_at-size.ensures c.if-options-eq0.false)
    (then c.put_led-next.ensures (then-byte (byte-wrote _ _ _) c.put_options.ensures))
