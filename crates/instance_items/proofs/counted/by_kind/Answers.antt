-- `by_kind` meets its contract: each arm is the shape of its kind.
use Rattle.fields.specs.declared.Shape.{Shape}
use Rattle.std.specs.Prelude.{Option}
use native.Mathlib.Omega.{arith}
use mathlib.Core.Path.{sym, ap, ◌∙◌}
use Rattle.reading.specs.inside.Tried.{tried_found}
use Rattle.instance_items.proofs.CountLaws.{kind_as, exports_as, shape_18, shape_19, shape_20, shape_21, shape_none}
use Rattle.instance_items.proofs.counted.by_kind.Goals as goal

pub instantiate-requires : goal.instantiate-requires
instantiate-requires c = (c.requires.0, c.requires.1, c.requires.2, c.requires.3, c.requires.4.0 c.in-18.is)

pub instantiate-requires-in-19 : goal.instantiate-requires-in-19
instantiate-requires-in-19 c = (c.requires.0, c.requires.1, c.requires.2, c.requires.3, c.requires.4.1 c.in-19.is)

pub read_counted-requires-clause-at_in_bounds : goal.read_counted-requires-clause-at_in_bounds
read_counted-requires-clause-at_in_bounds c = (omega (arith, c.requires.0), c.requires.1, c.requires.2, c.requires.3)

pub read_counted-requires-clause-le_base : goal.read_counted-requires-clause-le_base
read_counted-requires-clause-le_base c = (omega arith, omega arith)

pub read_counted-requires-in-21 : goal.read_counted-requires-in-21
read_counted-requires-in-21 c = record {
  at_in_bounds = (omega (arith, c.requires.0), c.requires.1, c.requires.2, c.requires.3);
  le_base = (omega arith, omega arith);
}

pub returns-in-18 : goal.returns-in-18
returns-in-18 c =
    let a = c.args in
    kind_as 18 a.kind a.grade a.input.now a.row.now c.in-18.is
    (c.instantiate.ensures ∙ ap (λ (f : Option Shape). tried_found f 18 1 a.grade a.input.now a.row.now) (sym shape_18))

pub returns-in-19 : goal.returns-in-19
returns-in-19 c =
    let a = c.args in
    kind_as 19 a.kind a.grade a.input.now a.row.now c.in-19.is
    (c.instantiate-in-19.ensures ∙ ap (λ (f : Option Shape). tried_found f 19 1 a.grade a.input.now a.row.now) (sym shape_19))

pub returns-in-20 : goal.returns-in-20
returns-in-20 c =
    let a = c.args in
    kind_as 20 a.kind a.grade a.input.now a.row.now c.in-20.is
    (exports_as 20 a.grade a.input.now a.row.now c.requires.0 (c.requires.4.2 c.in-20.is) c.requires.2 c.read_counted.ensures
    ∙ ap (λ (f : Option Shape). tried_found f 20 1 a.grade a.input.now a.row.now) (sym shape_20))

pub returns-in-21 : goal.returns-in-21
returns-in-21 c =
    let a = c.args in
    kind_as 21 a.kind a.grade a.input.now a.row.now c.in-21.is
    (exports_as 21 a.grade a.input.now a.row.now c.requires.0 (c.requires.4.3 c.in-21.is) c.requires.2 c.read_counted-in-21.ensures
    ∙ ap (λ (f : Option Shape). tried_found f 21 1 a.grade a.input.now a.row.now) (sym shape_21))

pub returns-in_default : goal.returns-in_default
returns-in_default c =
    let a = c.args in
    shape_none a.kind a.grade a.input.now a.row.now c.in_default.in_default-own.rest.0.0.0.1 c.in_default.in_default-own.rest.0.0.1 c.in_default.in_default-own.rest.0.1 c.in_default.in_default-own.rest.1
