-- `first_took` meets its contract: an extern name, or a name (`name-took`).
use mathlib.Core.Path.{ap, ◌∙◌, sym}
use Rattle.fields.specs.declared.Field.{Field}
use Rattle.reading.specs.Scan.{scan}
use Rattle.reading.specs.inside.Steps.{end_of}
use Rattle.instance_items.proofs.FieldLaws.{took_of, name-took, one_extern}
use Rattle.instance_items.proofs.fields_of.first_took.Goals as goal

pub returns-then-kind-eq21 : goal.returns-then-kind-eq21
returns-then-kind-eq21 c =
    let a = c.args in
    c.extern_took.ensures ∙ ap (λ (f : Field). end_of (scan 1 a.grade f a.bs.now)) (sym (one_extern a.kind c.if-kind-eq21.true))

pub returns-in_err-n : goal.returns-in_err-n
returns-in_err-n c =
    let a = c.args in
    c.from_residual.ensures ∙ ap took_of (sym c.in_err-n.was ∙ c.name.ensures) ∙ name-took a.kind a.grade a.bs.now c.if-kind-eq21.false

pub returns : goal.returns
returns c =
    let a = c.args in
    ap took_of (sym c.in_ok-n.was ∙ c.name.ensures) ∙ name-took a.kind a.grade a.bs.now c.if-kind-eq21.false
