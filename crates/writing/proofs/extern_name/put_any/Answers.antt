-- `put_any`: the bytes that are counted have room and are stored, or there is none; there is nothing to store where a name runs past the pool.
use mathlib.Core.Path.{sym, ◌∙◌}
use Rattle.writing.proofs.ExternLaws.{put_room, put_stored, put_nothing_lem, put_past, put_none}
use Rattle.writing.proofs.extern_name.put_any.Goals as goal

pub put_inside-requires-clause-extern_inside : goal.put_inside-requires-clause-extern_inside
put_inside-requires-clause-extern_inside c =
    let a = c.args in
    (put_room a.pool.now a.ws.now a.out.now a.at c.part_size-all.ensures (sym c.fits.ensures ∙ c.if-fits.true)).0

pub put_inside-requires-clause-ws_in_bounds : goal.put_inside-requires-clause-ws_in_bounds
put_inside-requires-clause-ws_in_bounds c =
    let a = c.args in
    (put_room a.pool.now a.ws.now a.out.now a.at c.part_size-all.ensures (sym c.fits.ensures ∙ c.if-fits.true)).1

pub returns-then-fits : goal.returns-then-fits
returns-then-fits c =
    let a = c.args in
    put_stored a.pool.now a.ws.now a.out.now a.at c.part_size-all.ensures (sym c.fits.ensures ∙ c.if-fits.true)
    c.put_inside.ensures

pub returns-then-at-out : goal.returns-then-at-out
returns-then-at-out c =
    let a = c.args in
    put_nothing_lem a.pool.now a.ws.now a.out.now a.at c.part_size-all.ensures c.if-all-eq0.true c.if-at-out.true

pub returns-else-at-out : goal.returns-else-at-out
returns-else-at-out c =
    let a = c.args in
    put_past a.pool.now a.ws.now a.out.now a.at c.part_size-all.ensures c.if-all-eq0.true c.if-at-out.false

pub returns-else-all-eq0 : goal.returns-else-all-eq0
returns-else-all-eq0 c =
    let a = c.args in
    put_none a.pool.now a.ws.now a.out.now a.at c.part_size-all.ensures (sym c.fits.ensures ∙ c.if-fits.false)
    c.if-all-eq0.false
