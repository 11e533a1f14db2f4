-- `groups_end` meets its contract: each arm is the group of its kinds (`record_group` and what follows it).
use mathlib.Core.Path.{◌∙◌}
use Rattle.items.proofs.EndLaws.{record_group, variant_group, tuple_group, label-group, end_as, end_labels}
use Rattle.items.proofs.groups.groups_end.Goals as goal

pub returns-in-1 : goal.returns-in-1
returns-in-1 c =
    let a = c.args in
    c.fields_end.ensures ∙ end_as a.grade a.input.now a.n a.from (record_group a.kind c.in-1.is)

pub returns-in-2 : goal.returns-in-2
returns-in-2 c =
    let a = c.args in
    c.cases_end.ensures ∙ end_as a.grade a.input.now a.n a.from (variant_group a.kind c.in-2.is)

pub returns-in-6 : goal.returns-in-6
returns-in-6 c =
    let a = c.args in
    c.values_end.ensures ∙ end_as a.grade a.input.now a.n a.from (tuple_group a.kind c.in-6.is)

pub returns-in_default : goal.returns-in_default
returns-in_default c =
    let a = c.args in
    let labels = label-group a.kind c.in_default.in_default-own.rest.0.0.1 c.in_default.in_default-own.rest.0.1 c.in_default.in_default-own.rest.1 in
    c.labels_end.ensures ∙ end_labels a.grade a.input.now a.n a.from labels
