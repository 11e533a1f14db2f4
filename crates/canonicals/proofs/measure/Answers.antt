-- `measure` meets its contract: what straight code sees has its size, and any other row is measured by the shape of its kind.
use Rattle.std.specs.Prelude.{Ok}
use Rattle.std.specs.Prelude.{Some}
use mathlib.Core.Path.{sym, ap, ◌∙◌}
use borrow.Author.Tests.{eq-eqb, ne_eqb}
use Rattle.writing.specs.Row.{measured_row}
use Rattle.canonicals.specs.Write.{measured_canonical}
use Rattle.canonicals.proofs.LiftedLaws.{lift-sized}
use Rattle.canonicals.proofs.measure.Goals as goal

pub returns-in-Some : goal.returns-in-Some
unfolding measured_canonical
returns-in-Some c =
    simp (eq-eqb _ _ (sym c.kind_of-kind.ensures ∙ c.if-kind-eq256.true))
    (ap Ok c.in-Some.ensures.1 ∙ sym (lift-sized c.args.row.now c.args.pool.now c.in-Some.ensures.0))

pub returns-then-kind-eq256 : goal.returns-then-kind-eq256
unfolding measured_canonical
returns-then-kind-eq256 c =
    let a = c.args in
    simp (eq-eqb _ _ (sym c.kind_of-kind.ensures ∙ c.if-kind-eq256.true)) (c.measure_row.ensures ∙ ap (λ s. measured_row (Some s) a.row.now a.pool.now) c.lift_shape.ensures)

pub returns-in-Some-class_size : goal.returns-in-Some-class_size
unfolding measured_canonical
returns-in-Some-class_size c =
    simp (ne_eqb _ _ (λ e. c.if-kind-eq256.false (c.kind_of-kind.ensures ∙ e)), ← c.kind_of-kind.ensures, c.class_of-class.ensures) (sym (c.in-Some-class_size.ensures _))

pub returns : goal.returns
unfolding measured_canonical
returns c =
    simp (ne_eqb _ _ (λ e. c.if-kind-eq256.false (c.kind_of-kind.ensures ∙ e)), ← c.kind_of-kind.ensures, c.class_of-class.ensures, ← c.line_of.ensures) c.measure_row-2.ensures
