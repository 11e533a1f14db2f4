-- `is_right` meets its contract: the name and the options are tested one after the other (`extern_test`).
use mathlib.Core.Path.{sym, ◌∙◌}
use Rattle.writing.proofs.ExternLaws.{name_test, extern_test}
use Rattle.writing.proofs.extern_name.is_right.Goals as goal

pub returns-then-is_option-2 : goal.returns-then-is_option-2
returns-then-is_option-2 c =
    let a = c.args in
    let named = sym (name_test a.pool.now a.ws.now 0 c.word_at.ensures c.word_at-2.ensures c.name_size.ensures)
    ∙ sym c.is_some.ensures ∙ c.if-is_some.true in
    c.is_option-then-is_option-2.ensures
    ∙ sym (extern_test a.pool.now a.ws.now ∙ simp (named, sym c.is_option.ensures ∙ c.if-is_option.true, sym c.is_option-then-is_option.ensures ∙ c.if-is_option-2.true))

pub returns-else-is_option-2 : goal.returns-else-is_option-2
returns-else-is_option-2 c =
    let a = c.args in
    let named = sym (name_test a.pool.now a.ws.now 0 c.word_at.ensures c.word_at-2.ensures c.name_size.ensures)
    ∙ sym c.is_some.ensures ∙ c.if-is_some.true in
    sym (extern_test a.pool.now a.ws.now ∙ simp (named, sym c.is_option.ensures ∙ c.if-is_option.true, sym c.is_option-then-is_option.ensures ∙ c.if-is_option-2.false))

pub returns-else-is_option : goal.returns-else-is_option
returns-else-is_option c =
    let a = c.args in
    let named = sym (name_test a.pool.now a.ws.now 0 c.word_at.ensures c.word_at-2.ensures c.name_size.ensures)
    ∙ sym c.is_some.ensures ∙ c.if-is_some.true in
    sym (extern_test a.pool.now a.ws.now ∙ simp (named, sym c.is_option.ensures ∙ c.if-is_option.false))

pub returns-else-is_some : goal.returns-else-is_some
returns-else-is_some c =
    let a = c.args in
    let named = sym (name_test a.pool.now a.ws.now 0 c.word_at.ensures c.word_at-2.ensures c.name_size.ensures)
    ∙ sym c.is_some.ensures ∙ c.if-is_some.false in
    sym (extern_test a.pool.now a.ws.now ∙ simp named)
