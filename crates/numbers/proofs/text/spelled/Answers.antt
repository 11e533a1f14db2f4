-- `numbers::text::spelled` meets its contract. The loop's invariant: the name is text if what is to come of it is, and stops where that does.
-- A round is what `sequence_at` ensures.
use Rattle.std.proofs.Common.{[], sym, refl, ap, ◌∙◌, subst, arith}
use Rattle.numbers.specs.Text.{text, stop}
use Rattle.numbers.specs.inside.Sequences.{Ends}
use Rattle.numbers.specs.Spelling.{Stops}
use Rattle.numbers.proofs.TextLaws.{spelled_right, spelled_wrong, stop-within}
use Rattle.numbers.proofs.TextRows.{ended}
use Rattle.numbers.proofs.text.spelled.Goals as goal

pub loop-i-init : goal.loop-i-init
unfolding text stop
loop-i-init c = (omega arith, (refl, omega arith))

pub overflow_add-i : goal.overflow_add-i
overflow_add-i c =
    let s = c.args.name.now in
    let w = subst (Ends [] s _ _) c.in-Ok.is c.sequence_at.ensures in
    omega (arith, w.0.1)

pub loop-i-smaller : goal.loop-i-smaller
loop-i-smaller c =
    let s = c.args.name.now in
    let w = subst (Ends [] s _ _) c.in-Ok.is c.sequence_at.ensures in
    omega (arith, w.0.0, w.0.1)

pub loop-i-preserved : goal.loop-i-preserved
loop-i-preserved c =
    let s = c.args.name.now in
    let w = subst (Ends [] s _ _) c.in-Ok.is c.sequence_at.ensures in
    (w.0.1, (c.loop-i.invariant.1.0 ∙ w.1.0, c.loop-i.invariant.1.1 ∙ w.1.1))

pub overflow_add-result : goal.overflow_add-result
overflow_add-result c =
    let s = c.args.name.now in
    let w = subst (Ends [] s _ _) c.in-Err.is c.sequence_at.ensures in
    omega (arith, c.loop-i.invariant.1.1, w.1, stop-within s)

pub returns-in-Err : goal.returns-in-Err
returns-in-Err c =
    let s = c.args.name.now in
    let w = subst (Ends [] s _ _) c.in-Err.is c.sequence_at.ensures in
    sym (spelled_wrong s (c.loop-i.invariant.1.0 ∙ w.0) ∙ ap Stops (c.loop-i.invariant.1.1 ∙ w.1))

pub returns : goal.returns
returns c =
    let s = c.args.name.now in
    sym (spelled_right s (c.loop-i.invariant.1.0 ∙ ended s c.loop-i.i c.loop-i-test.false))
