-- `extern_name` meets its contract: within the limits it is what is told of the front (`extern_inside_lem`), and outside nothing.
use mathlib.Core.Path.{sym, ◌∙◌}
use Rattle.std.specs.Prelude.{None}
use Rattle.items.proofs.OnceLaws.{limits, extern_inside_lem, extern_outside, read_value}
use Rattle.items.proofs.extern_name.Goals as goal

pub returns-then-not-is_within : goal.returns-then-not-is_within
returns-then-not-is_within c =
    let a = c.args in
    read_value a.grade a.input.now None
    (extern_outside a.grade a.input.now (sym c.is_within.ensures ∙ c.if-not-is_within.true))

pub extern_name-requires : goal.extern_name-requires
extern_name-requires c =
    let a = c.args in
    limits a.grade a.input.now a.input.now (sym c.is_within.ensures ∙ c.if-not-is_within.false)

pub returns : goal.returns
returns c =
    let a = c.args in
    read_value a.grade a.input.now c.extern_name.result
    (extern_inside_lem a.grade a.input.now c.extern_name.result (sym c.is_within.ensures ∙ c.if-not-is_within.false) c.extern_name.ensures)
