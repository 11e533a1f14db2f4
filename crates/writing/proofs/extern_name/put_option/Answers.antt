-- `put_option` stores nothing, or the number of the option and then its name, which ends within the pool.
use native.Mathlib.Omega.{arith}
use mathlib.Core.Path.{ap, ◌∙◌}
use lib.ListN.{length}
use Rattle.writing.proofs.ExternLaws.{slot_none, slot_some}
use Rattle.writing.proofs.WroteLaws.{nothing}
use Rattle.writing.proofs.extern_name.put_option.Goals as goal

pub returns-then-word_at-eq0 : goal.returns-then-word_at-eq0
returns-then-word_at-eq0 c =
    let a = c.args in
    rw (slot_none a.pool.now a.ws.now a.i c.word_at.ensures c.if-word_at-eq0.true a.k) (nothing _ _)

pub put_led-requires : goal.put_led-requires
put_led-requires c =
    let a = c.args in
    let e = slot_some a.pool.now a.ws.now a.i c.word_at.ensures c.if-word_at-eq0.false c.word_at-2.ensures
    c.word_at-3.ensures a.k in (
      omega (arith, c.word_at-2.ensures, c.word_at-3.ensures, c.requires.i_bound.1 (λ z. c.if-word_at-eq0.false (c.word_at.ensures ∙ z))),
      omega (arith, ap length e, c.requires.i_in_bounds),
    )

pub returns : goal.returns
returns c =
    let a = c.args in
    rw (slot_some a.pool.now a.ws.now a.i c.word_at.ensures c.if-word_at-eq0.false c.word_at-2.ensures
    c.word_at-3.ensures a.k) c.put_led.ensures
