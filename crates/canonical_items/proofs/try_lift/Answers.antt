-- `try_lift` meets its contract: without its second byte 00 there is no lift.
use mathlib.Core.Path.{refl, sym, ◌∙◌}
use Rattle.canonicals.specs.Table.{lift_bytes}
use Rattle.canonical_items.proofs.BeginLaws.{begun_zero, zero_wrong}
use Rattle.canonical_items.proofs.CountLaws.{tried-wrong}
use Rattle.canonical_items.proofs.try_lift.Goals as goal

pub returns-in_err-from : goal.returns-in_err-from
returns-in_err-from c =
    let a = c.args in
    tried-wrong _ _ a.row.now
    (zero_wrong 1 a.grade 0 a.input.now c.requires.0 c.requires.3 c.requires.2 lift_bytes refl refl (sym c.in_err-from.was ∙ c.behind_zero.ensures))
    c.from_residual.ensures

pub read_lift-requires : goal.read_lift-requires
read_lift-requires c =
    let a = c.args in
    let k = begun_zero 1 a.grade 0 a.input.now c.requires.0 c.requires.3 c.requires.2 (sym c.in_ok-from.was ∙ c.behind_zero.ensures) in
    (c.requires.1, k.1, k.0)

pub returns : goal.returns
returns c = c.read_lift.ensures
