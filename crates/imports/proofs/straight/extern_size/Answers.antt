-- `extern_size` meets its contract: without options the name alone decides (`bare_size`); else `writing::extern_size` answers.
use native.Mathlib.Omega.{arith}
use mathlib.Core.Path.{sym, ◌∙◌}
use Rattle.numbers.proofs.BytesLaws.{to_end}
use Rattle.fields.specs.declared.Field.TheVariants as field
use Rattle.fields.specs.Words.{word}
use Rattle.writing.specs.Sizes.{right_size}
use Rattle.writing.proofs.RowLaws.{name_small}
use Rattle.imports.proofs.ImportLaws.{bare_size}
use Rattle.imports.proofs.straight.extern_size.Goals as goal

pub overflow_add-result : goal.overflow_add-result
overflow_add-result c =
    let a = c.args in
    let small = rw (sym c.name_size.ensures ∙ c.in_ok-name.was) at (name_small a.pool.now (word a.row.now 1) (word a.row.now 2) c.requires.1) in
    omega arith

pub returns-in_err-name : goal.returns-in_err-name
returns-in_err-name c =
    let a = c.args in
    c.from_residual.ensures
    ∙ (bare_size a.row.now a.pool.now (c.is_bare.ensures c.if-is_bare.true)).1 (sym c.in_err-name.was ∙ c.name_size.ensures)

pub returns-then-is_bare : goal.returns-then-is_bare
returns-then-is_bare c =
    let a = c.args in
    (bare_size a.row.now a.pool.now (c.is_bare.ensures c.if-is_bare.true)).0 _ (sym c.in_ok-name.was ∙ c.name_size.ensures)

pub returns : goal.returns
returns c =
    let a = c.args in
    c.extern_size.ensures ∙ (λ i. right_size (to_end a.pool.now 0 i) field.ExternName (to_end a.row.now 1 i))
