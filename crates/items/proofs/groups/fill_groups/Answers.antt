-- `fill_groups` meets its contract: each arm stores the groups of its kind (`group_of`), and labels are the same of every grade.
use Rattle.std.specs.Prelude.{ℕ, IsSome}
use mathlib.Core.Path.{sym, ap, subst, ◌∙◌}
use mathlib.Core.List.{List}
use lib.ListN.{length}
use lib.Seq.{sets}
use Rattle.fields.specs.Leaf.{Leaf}
use Rattle.reading.specs.inside.Steps.{end_of}
use Rattle.reading.proofs.StepLaws.{labels-any}
use Rattle.items.proofs.WordLaws.{group_fields, group_cases, group-values, group-labels, fields_wide, cases_wide, values-wide, labels-wide, own_room, own_right, own_words}
use Rattle.items.proofs.groups.fill_groups.Goals as goal

pub fill_fields-requires-clause-input_len_bound : goal.fill_fields-requires-clause-input_len_bound
fill_fields-requires-clause-input_len_bound c =
    let a = c.args in
    let is = group_fields a.kind c.in-1.is in
    let right = own_right a.grade a.input.now a.n a.from is c.requires.right in
    (c.requires.input_len_bound.0, c.requires.input_len_bound.1, own_room a.n 4 (length a.row.now) is fields_wide c.requires.input_len_bound.2)

pub fill_fields-requires-clause-right : goal.fill_fields-requires-clause-right
fill_fields-requires-clause-right c =
    let a = c.args in
    let is = group_fields a.kind c.in-1.is in
    let right = own_right a.grade a.input.now a.n a.from is c.requires.right in
    right

pub fill_cases-requires-clause-input_len_bound : goal.fill_cases-requires-clause-input_len_bound
fill_cases-requires-clause-input_len_bound c =
    let a = c.args in
    let is = group_cases a.kind c.in-2.is in
    let right = own_right a.grade a.input.now a.n a.from is c.requires.right in
    (c.requires.input_len_bound.0, c.requires.input_len_bound.1, own_room a.n 4 (length a.row.now) is cases_wide c.requires.input_len_bound.2)

pub fill_cases-requires-clause-right : goal.fill_cases-requires-clause-right
fill_cases-requires-clause-right c =
    let a = c.args in
    let is = group_cases a.kind c.in-2.is in
    let right = own_right a.grade a.input.now a.n a.from is c.requires.right in
    right

pub fill_values-requires-clause-input_len_bound : goal.fill_values-requires-clause-input_len_bound
fill_values-requires-clause-input_len_bound c =
    let a = c.args in
    let is = group-values a.kind c.in-6.is in
    let right = own_right a.grade a.input.now a.n a.from is c.requires.right in
    (c.requires.input_len_bound.0, c.requires.input_len_bound.1, own_room a.n 2 (length a.row.now) is values-wide c.requires.input_len_bound.2)

pub fill_values-requires-clause-right : goal.fill_values-requires-clause-right
fill_values-requires-clause-right c =
    let a = c.args in
    let is = group-values a.kind c.in-6.is in
    let right = own_right a.grade a.input.now a.n a.from is c.requires.right in
    right

pub fill_labels-requires-clause-input_len_bound : goal.fill_labels-requires-clause-input_len_bound
fill_labels-requires-clause-input_len_bound c =
    let a = c.args in
    let is = group-labels a.kind c.in_default.in_default-own.rest.0.0.1 c.in_default.in_default-own.rest.0.1 c.in_default.in_default-own.rest.1 in
    let right = own_right a.grade a.input.now a.n a.from is c.requires.right in
    let same = (labels-any a.grade a.input.now a.n a.from 0).0 in
    let room = own_room a.n 2 (length a.row.now) is labels-wide c.requires.input_len_bound.2 in
    (c.requires.input_len_bound.0, c.requires.input_len_bound.1, room)

pub fill_labels-requires-clause-right : goal.fill_labels-requires-clause-right
fill_labels-requires-clause-right c =
    let a = c.args in
    let is = group-labels a.kind c.in_default.in_default-own.rest.0.0.1 c.in_default.in_default-own.rest.0.1 c.in_default.in_default-own.rest.1 in
    let right = own_right a.grade a.input.now a.n a.from is c.requires.right in
    let same = (labels-any a.grade a.input.now a.n a.from 0).0 in
    let room = own_room a.n 2 (length a.row.now) is labels-wide c.requires.input_len_bound.2 in
    subst (λ (l : Leaf). IsSome (end_of l)) same right

pub returns-in-1 : goal.returns-in-1
returns-in-1 c =
    let a = c.args in
    let is = group_fields a.kind c.in-1.is in
    own_words a.grade a.input.now a.n a.from a.row.now is c.fill_fields.ensures

pub returns-in-2 : goal.returns-in-2
returns-in-2 c =
    let a = c.args in
    let is = group_cases a.kind c.in-2.is in
    own_words a.grade a.input.now a.n a.from a.row.now is c.fill_cases.ensures

pub returns-in-6 : goal.returns-in-6
returns-in-6 c =
    let a = c.args in
    let is = group-values a.kind c.in-6.is in
    own_words a.grade a.input.now a.n a.from a.row.now is c.fill_values.ensures

pub returns-in_default : goal.returns-in_default
returns-in_default c =
    let a = c.args in
    let is = group-labels a.kind c.in_default.in_default-own.rest.0.0.1 c.in_default.in_default-own.rest.0.1 c.in_default.in_default-own.rest.1 in
    let same = (labels-any a.grade a.input.now a.n a.from 0).1 in
    own_words a.grade a.input.now a.n a.from a.row.now is
    (c.fill_labels.ensures ∙ ap (λ (l : List ℕ). sets a.row.now 2 l) (sym same))
