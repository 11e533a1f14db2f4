-- `imports::options` meets its contract: each option begins inside the input where the one before is right (`slot_inside_lem`), and where
-- each is right, the ways out are those of `options_over` and `options_right`.
use Rattle.items.proofs.NameLaws.{slot_inside_lem, options_over, options_right}
use Rattle.items.proofs.import.options.Goals as goal

pub slot_at-requires-2 : goal.slot_at-requires-2
slot_at-requires-2 c =
    let a = c.args in
    let i = slot_inside_lem 0 a.input.now a.at a.count _ c.in_ok-one.ensures c.requires.2 in
    (c.requires.0, i.0, i.1)

pub slot_at-requires-3 : goal.slot_at-requires-3
slot_at-requires-3 c =
    let a = c.args in
    let i = slot_inside_lem 0 a.input.now a.at a.count _ c.in_ok-one.ensures c.requires.2 in
    let j = slot_inside_lem 1 a.input.now c.in_ok-one.one.next c.in_ok-one.one.due _ c.in_ok-two.ensures i.1 in
    (c.requires.0, j.0, j.1)

pub returns-then-three-gt0 : goal.returns-then-three-gt0
returns-then-three-gt0 c =
    let a = c.args in
    options_over a.name a.input.now a.at a.count _ c.in_ok-one.ensures _ c.in_ok-two.ensures _ c.in_ok-three.ensures c.if-three-gt0.true

pub returns : goal.returns
returns c =
    let a = c.args in
    options_right a.name a.input.now a.at a.count _ c.in_ok-one.ensures _ c.in_ok-two.ensures _ c.in_ok-three.ensures c.if-three-gt0.false
