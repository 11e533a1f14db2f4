-- `part_size`: the words say how many bytes there are where every name ends within the pool (`inside_size`).
use mathlib.Core.Path.{sym, ◌∙◌}
use Rattle.writing.proofs.ExternLaws.{inside_size, outside_size}
use Rattle.writing.proofs.extern_name.part_size.Goals as goal

pub returns-then-is_inside : goal.returns-then-is_inside
returns-then-is_inside c =
    let a = c.args in
    inside_size a.pool.now a.ws.now (sym c.is_inside.ensures ∙ c.if-is_inside.true) c.extern_size.ensures.0

pub returns : goal.returns
returns c =
    let a = c.args in
    outside_size a.pool.now a.ws.now (sym c.is_inside.ensures ∙ c.if-is_inside.false)
