-- `put_extern`: without options the name by itself is put (`bare_part`).
use mathlib.Core.Path.{refl, ap, ◌∙◌}
use Rattle.numbers.specs.Bytes.{store}
use Rattle.writing.proofs.ExternLaws.{bare_part}
use Rattle.writing.proofs.extern_name.put_extern.Goals as goal

pub returns-then-ws-lt11 : goal.returns-then-ws-lt11
returns-then-ws-lt11 c = c.put_any.ensures

pub returns-then-is_bare : goal.returns-then-is_bare
returns-then-is_bare c =
    let a = c.args in
    c.put_bare.ensures
    ∙ ap (λ l. store l a.at a.out.now)
    (bare_part a.pool.now a.ws.now (c.is_bare.ensures c.if-is_bare.true) refl refl)

pub returns : goal.returns
returns c = c.put_any-2.ensures
