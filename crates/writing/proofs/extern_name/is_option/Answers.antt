-- `is_option` meets its contract: an option is absent, present or neither, and each is a test of its words.
use mathlib.Core.Path.{◌∙◌}
use borrow.Author.Tests.{eq-eqb, ne_eqb}
use Rattle.writing.proofs.ExternLaws.{absent_test, present_test, neither_test}
use Rattle.writing.proofs.extern_name.is_option.Goals as goal

pub returns-then-start-eq0 : goal.returns-then-start-eq0
returns-then-start-eq0 c =
    let a = c.args in
    let test = absent_test a.pool.now a.ws.now a.i c.word_at-present.ensures c.if-present-eq0.true c.word_at-start.ensures
    c.word_at-size.ensures in
    simp (eq-eqb _ _ c.if-start-eq0.true) at test

pub returns-then-present-eq0 : goal.returns-then-present-eq0
returns-then-present-eq0 c =
    let a = c.args in
    let test = absent_test a.pool.now a.ws.now a.i c.word_at-present.ensures c.if-present-eq0.true c.word_at-start.ensures
    c.word_at-size.ensures in
    simp (ne_eqb _ _ c.if-start-eq0.false) at test

pub returns-then-present-eq1 : goal.returns-then-present-eq1
returns-then-present-eq1 c =
    let a = c.args in
    c.is_some.ensures
    ∙ present_test a.pool.now a.ws.now a.i c.word_at-present.ensures c.if-present-eq1.true c.word_at-start.ensures
    c.word_at-size.ensures c.name_size.ensures

pub returns : goal.returns
returns c =
    let a = c.args in
    neither_test a.pool.now a.ws.now a.i c.word_at-present.ensures c.if-present-eq0.false c.if-present-eq1.false
