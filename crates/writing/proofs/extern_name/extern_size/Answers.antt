-- `extern_size`: without options the name alone is judged (`plain_size`); else whether it is right decides.
use native.Mathlib.Omega.{arith}
use mathlib.Core.Path.{sym, ◌∙◌}
use Rattle.writing.proofs.ExternLaws.{name-most, plain_size, right_size_lem, wrong_size}
use Rattle.writing.proofs.extern_name.extern_size.Goals as goal

pub overflow_add-result : goal.overflow_add-result
overflow_add-result c =
    let most = name-most c.args.pool.now c.word_at.result c.word_at-then-is_bare.result in
    omega (arith, rw (sym c.name_size.ensures ∙ c.in_ok-name_size.was) at most)

pub returns-in_err-name_size : goal.returns-in_err-name_size
returns-in_err-name_size c =
    let a = c.args in
    c.from_residual.ensures
    ∙ (plain_size a.pool.now a.ws.now (c.is_bare.ensures c.if-is_bare.true) c.word_at.ensures c.word_at-then-is_bare.ensures).1
    (sym c.in_err-name_size.was ∙ c.name_size.ensures)

pub returns-then-is_bare : goal.returns-then-is_bare
returns-then-is_bare c =
    let a = c.args in
    (plain_size a.pool.now a.ws.now (c.is_bare.ensures c.if-is_bare.true) c.word_at.ensures c.word_at-then-is_bare.ensures).0 _
    (sym c.in_ok-name_size.was ∙ c.name_size.ensures)

pub returns : goal.returns
returns c =
    let a = c.args in
    wrong_size a.pool.now a.ws.now (sym c.is_right.ensures ∙ c.if-is_right.false)

pub returns-then-is_right : goal.returns-then-is_right
returns-then-is_right c =
    let a = c.args in
    right_size_lem a.pool.now a.ws.now (sym c.is_right.ensures ∙ c.if-is_right.true) c.extern_size.ensures.0
