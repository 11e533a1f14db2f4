-- `short_item` meets its contract: what the two steps say of their fields is what the item is.
use native.Mathlib.Omega.{arith}
use Rattle.canonical_items.proofs.ShortLaws.{first_wrong, first_inside, both_told, second_wrong}
use Rattle.canonical_items.proofs.short.short_item.Goals as goal

pub returns-in_err-one : goal.returns-in_err-one
returns-in_err-one c = λ g low.
    let a = c.args in
    first_wrong g a.f a.h a.input.now a.from (c.take_step.ensures g low) c.in_err-one.was c.from_residual.ensures

pub take_step-requires-2 : goal.take_step-requires-2
take_step-requires-2 c =
    let a = c.args in
    (c.requires.0, first_inside 1 a.f a.h a.input.now a.from (c.take_step.ensures 1 (omega arith)) c.in_ok-one.was c.requires.1)

pub returns-in_err-two : goal.returns-in_err-two
returns-in_err-two c = λ g low.
    let a = c.args in
    second_wrong g a.f a.h a.input.now a.from (c.take_step.ensures g low) c.in_ok-one.was (c.take_step-2.ensures g low)
    c.in_err-two.was c.from_residual-in_err-two.ensures

pub returns : goal.returns
returns c = λ g low.
    let a = c.args in
    both_told g a.f a.h a.input.now a.from (c.take_step.ensures g low) c.in_ok-one.was (c.take_step-2.ensures g low) c.in_ok-two.was
