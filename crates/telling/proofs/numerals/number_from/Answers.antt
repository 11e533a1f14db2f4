use Rattle.std.proofs.Common.{sym, ◌∙◌, add-one}
use Rattle.telling.proofs.NumeralLaws.{number_here, number-on, number_end}
use Rattle.telling.proofs.numerals.number_from.Goals as goal

pub returns-then-digit-eq32 : goal.returns-then-digit-eq32
returns-then-digit-eq32 c = sym (c.loop-digit.invariant ∙ number_here _ _ _ c.loop-digit-test.true c.if-digit-eq32.true)

pub loop-digit-preserved : goal.loop-digit-preserved
loop-digit-preserved c =
    rw (add-one, c.with_digit-number.ensures) (c.loop-digit.invariant ∙ number-on _ _ _ c.loop-digit-test.true c.if-digit-eq32.false)

pub returns-after-loop-digit : goal.returns-after-loop-digit
returns-after-loop-digit c = sym (c.loop-digit.invariant ∙ number_end _ _ _ c.loop-digit-test.false)
