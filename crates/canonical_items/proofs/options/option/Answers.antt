-- `option` meets its contract: the tests are those of the field (`OptionLaws`).
use native.Mathlib.Omega.{arith}
use mathlib.Core.Path.{◌∙◌, sym, ap}
use Rattle.numbers.specs.Leb.{take_unsigned}
use Rattle.numbers.specs.Seen.{seen}
use Rattle.numbers.proofs.BytesLaws.{to_end}
use Rattle.canonical_items.proofs.ShortLaws.{seen_at}
use Rattle.canonical_items.proofs.OptionLaws.{option_empty, option_other, option_alone, option_indexed, option_cut}
use Rattle.canonical_items.proofs.options.option.Goals as goal

pub returns-in_err-n : goal.returns-in_err-n
returns-in_err-n c =
    let a = c.args in
    c.from_residual.ensures
    ∙ option_cut a.grade a.bs.now c.if-bs-gt0.true
    (sym c.is_option.ensures ∙ c.if-is_option.true)
    (sym c.is_indexed.ensures ∙ c.if-is_indexed.true)
    (sym c.in_err-n.was ∙ c.seen_unsigned.ensures ∙ ap (λ s. seen (take_unsigned s)) (to_end a.bs.now 1))

pub overflow_add-result : goal.overflow_add-result
overflow_add-result c =
    let k = seen_at c.args.bs.now 1 (sym c.in_ok-n.was ∙ c.seen_unsigned.ensures) in
    omega (arith, k.1)

pub returns-then-is_indexed : goal.returns-then-is_indexed
returns-then-is_indexed c =
    let a = c.args in
    option_indexed a.grade a.bs.now c.if-bs-gt0.true
    (sym c.is_option.ensures ∙ c.if-is_option.true)
    (sym c.is_indexed.ensures ∙ c.if-is_indexed.true)
    (sym c.in_ok-n.was ∙ c.seen_unsigned.ensures ∙ ap (λ s. seen (take_unsigned s)) (to_end a.bs.now 1))

pub returns-then-is_option : goal.returns-then-is_option
returns-then-is_option c =
    let a = c.args in
    option_alone a.grade a.bs.now c.if-bs-gt0.true
    (sym c.is_option.ensures ∙ c.if-is_option.true)
    (sym c.is_indexed.ensures ∙ c.if-is_indexed.false)

pub returns-else-is_option : goal.returns-else-is_option
returns-else-is_option c =
    let a = c.args in
    option_other a.grade a.bs.now c.if-bs-gt0.true (sym c.is_option.ensures ∙ c.if-is_option.false)

pub returns-else-bs-gt0 : goal.returns-else-bs-gt0
returns-else-bs-gt0 c = option_empty c.args.grade c.args.bs.now c.if-bs-gt0.false
