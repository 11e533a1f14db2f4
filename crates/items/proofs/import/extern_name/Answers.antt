-- `imports::extern_name` meets its contract: that of the lead 00 and that of the lead 02 of grade 3; a lead that is neither, or newer, is
-- not right (`lead_other`, `lead_newer`).
use Rattle.std.specs.Prelude.{None}
use native.Mathlib.Omega.{arith}
use mathlib.Core.Path.{refl, subst, sym}
use Rattle.items.specs.inside.Import.{ExternTold}
use Rattle.items.proofs.NameLaws.{head_wrong, lead_other, lead_newer}
use Rattle.items.proofs.import.extern_name.Goals as goal

pub returns-then-first-eq0 : goal.returns-then-first-eq0
returns-then-first-eq0 c = c.bare.ensures c.args.grade

pub returns-then-grade-eq3 : goal.returns-then-grade-eq3
returns-then-grade-eq3 c =
    let a = c.args in
    let input = a.input.now in
    subst (λ g. ExternTold g input c.optioned.result) (sym c.if-grade-eq3.true) c.optioned.ensures

pub returns-else-grade-eq3 : goal.returns-else-grade-eq3
returns-else-grade-eq3 c =
    let a = c.args in
    let newer = lead_newer a.grade a.input.now c.requires.0 c.if-first-eq2.true (omega (arith, c.if-grade-eq3.false, c.requires.3)) in
    head_wrong a.grade a.input.now None newer refl

pub returns-else-first-eq2 : goal.returns-else-first-eq2
returns-else-first-eq2 c =
    let a = c.args in
    head_wrong a.grade a.input.now None (lead_other a.grade a.input.now c.requires.0 c.if-first-eq0.false c.if-first-eq2.false) refl
