-- `family_at` meets its contract: a row of no words has no kind, as if its kind were 0; else its kind is its first word.
use native.Mathlib.Omega.{arith}
use mathlib.Core.Path.{◌∙◌}
use Rattle.sheets.proofs.FrameLaws.{family_none, family_of_lem, front}
use Rattle.sheets.proofs.family_at.Goals as goal

pub number_at-requires : goal.number_at-requires
number_at-requires c =
    let row = (front c.requires.framed c.requires.start_in_bounds).fits in
    omega arith

pub returns-then-number_at-eq0 : goal.returns-then-number_at-eq0
returns-then-number_at-eq0 c = family_none _ _ _ c.number_at.ensures c.if-number_at-eq0.true

pub number_at-requires-2 : goal.number_at-requires-2
number_at-requires-2 c =
    let row = (front c.requires.framed c.requires.start_in_bounds).fits in
    omega arith

pub returns : goal.returns
returns c =
    c.family_of.ensures ∙ family_of_lem _ _ _ c.number_at.ensures c.if-number_at-eq0.false _ c.number_at-2.ensures
