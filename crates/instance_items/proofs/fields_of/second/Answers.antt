-- `second` meets its contract: its tests are those of the field of each kind (`two-argument`, `two_core`, `two_sort`).
use mathlib.Core.Path.{ap, sym, ◌∙◌}
use Rattle.fields.specs.declared.Field.{Field}
use Rattle.reading.specs.Seen.{pair}
use Rattle.instance_items.proofs.FieldLaws.{some_of, second_empty, two-argument, two_core, two_sort, core_is, core_other, sort_short, sort_module, sort_not, sort_is_lem, sort_other}
use Rattle.instance_items.proofs.fields_of.second.Goals as goal

pub returns-then-bs-eq0 : goal.returns-then-bs-eq0
returns-then-bs-eq0 c = λ g. second_empty c.args.kind g c.args.bs.now c.if-bs-eq0.true

pub argument-requires : goal.argument-requires
argument-requires c = some_of _ c.if-bs-eq0.false

pub returns-then-kind-eq18 : goal.returns-then-kind-eq18
returns-then-kind-eq18 c = λ g. c.argument.ensures g ∙ ap (λ (f : Field). pair g f c.args.bs.now) (sym (two-argument c.args.kind c.if-kind-eq18.true))

pub returns-then-sort-lt5 : goal.returns-then-sort-lt5
returns-then-sort-lt5 c = λ g. c.sorted.ensures ∙ core_is g c.args.bs.now (some_of _ c.if-bs-eq0.false) c.if-sort-lt5.true
    ∙ ap (λ (f : Field). pair g f c.args.bs.now) (sym (two_core c.args.kind c.if-kind-eq20.true))

pub returns-then-kind-eq20 : goal.returns-then-kind-eq20
returns-then-kind-eq20 c = λ g. core_other g c.args.bs.now (some_of _ c.if-bs-eq0.false) c.if-sort-lt5.false
    ∙ ap (λ (f : Field). pair g f c.args.bs.now) (sym (two_core c.args.kind c.if-kind-eq20.true))

pub returns-then-bs-eq1 : goal.returns-then-bs-eq1
returns-then-bs-eq1 c = λ g. sort_short g c.args.bs.now (some_of _ c.if-bs-eq0.false) c.if-sort-eq0.true c.if-bs-eq1.true
    ∙ ap (λ (f : Field). pair g f c.args.bs.now) (sym (two_sort c.args.kind c.if-kind-eq18.false c.if-kind-eq20.false))

pub returns-then-bs-eq17 : goal.returns-then-bs-eq17
returns-then-bs-eq17 c = λ g. c.sorted-then-bs-eq17.ensures ∙ sort_module g c.args.bs.now (some_of _ c.if-bs-eq0.false) c.if-sort-eq0.true c.if-bs-eq1.false c.if-bs-eq17.true
    ∙ ap (λ (f : Field). pair g f c.args.bs.now) (sym (two_sort c.args.kind c.if-kind-eq18.false c.if-kind-eq20.false))

pub returns-then-sort-eq0 : goal.returns-then-sort-eq0
returns-then-sort-eq0 c = λ g. sort_not g c.args.bs.now (some_of _ c.if-bs-eq0.false) c.if-sort-eq0.true c.if-bs-eq1.false c.if-bs-eq17.false
    ∙ ap (λ (f : Field). pair g f c.args.bs.now) (sym (two_sort c.args.kind c.if-kind-eq18.false c.if-kind-eq20.false))

pub returns-then-sort-lt6 : goal.returns-then-sort-lt6
returns-then-sort-lt6 c = λ g. c.sorted-then-sort-lt6.ensures ∙ sort_is_lem g c.args.bs.now (some_of _ c.if-bs-eq0.false) c.if-sort-eq0.false c.if-sort-lt6.true
    ∙ ap (λ (f : Field). pair g f c.args.bs.now) (sym (two_sort c.args.kind c.if-kind-eq18.false c.if-kind-eq20.false))

pub returns : goal.returns
returns c = λ g. sort_other g c.args.bs.now (some_of _ c.if-bs-eq0.false) c.if-sort-eq0.false c.if-sort-lt6.false
    ∙ ap (λ (f : Field). pair g f c.args.bs.now) (sym (two_sort c.args.kind c.if-kind-eq18.false c.if-kind-eq20.false))
