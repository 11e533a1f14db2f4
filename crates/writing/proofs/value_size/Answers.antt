-- `value_size` makes the tests of a V.
use mathlib.Core.Path.{sym, ap, ◌∙◌}
use Rattle.std.specs.Prelude.{Some}
use mathlib.Core.List.{[]}
use Rattle.writing.proofs.LeafLaws.{index_size_lem, primitive_size_lem, primitive_none, value_none}
use Rattle.writing.proofs.value_size.Goals as goal

pub returns-then-tag-eq1 : goal.returns-then-tag-eq1
returns-then-tag-eq1 c = rw c.if-tag-eq1.true (ap Some c.signed_size.ensures ∙ sym (index_size_lem [] c.args.x))

pub returns-then-x-lt14 : goal.returns-then-x-lt14
returns-then-x-lt14 c = rw c.if-tag-eq0.true (sym (primitive_size_lem [] c.args.x c.if-x-lt14.true))

pub returns-else-x-lt14 : goal.returns-else-x-lt14
returns-else-x-lt14 c = rw c.if-tag-eq0.true (sym (primitive_none [] c.args.x c.if-x-lt14.false))

pub returns-else-tag-eq0 : goal.returns-else-tag-eq0
returns-else-tag-eq0 c =
    let a = c.args in
    sym (value_none [] a.tag a.x c.if-tag-eq0.false c.if-tag-eq1.false)
