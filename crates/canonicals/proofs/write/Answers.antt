-- `write` meets its contract: what straight code writes is the row written, and otherwise nothing was done, and the walk judges.
use mathlib.Core.Path.{sym, ◌∙◌}
use borrow.Author.Tests.{eq-eqb, ne_eqb}
use Rattle.writing.specs.Row.{write_row}
use Rattle.canonicals.specs.Write.{measured_canonical, canonical_bytes, write_canonical}
use Rattle.canonicals.proofs.write.Goals as goal

pub returns-in-Some : goal.returns-in-Some
unfolding write_canonical measured_canonical canonical_bytes
returns-in-Some c = simp (eq-eqb _ _ (sym c.kind_of-kind.ensures ∙ c.if-kind-eq256.true)) (c.lift_row.ensures.some _ c.in-Some.is)

pub returns-then-kind-eq256 : goal.returns-then-kind-eq256
unfolding write_canonical measured_canonical canonical_bytes
returns-then-kind-eq256 c =
    simp (
      eq-eqb _ _ (sym c.kind_of-kind.ensures ∙ c.if-kind-eq256.true),
      ← c.lift_row.ensures.none c.in_default.is,
    ) c.write_lift.ensures

pub returns-in-Some-write_class : goal.returns-in-Some-write_class
unfolding write_canonical measured_canonical canonical_bytes write_row
returns-in-Some-write_class c =
    simp (
      ne_eqb _ _ (λ e. c.if-kind-eq256.false (c.kind_of-kind.ensures ∙ e)),
      ← c.kind_of-kind.ensures,
      c.class_of-class.ensures,
    )
    (c.write_class.ensures.some _ c.in-Some-write_class.is)

pub returns : goal.returns
unfolding write_canonical measured_canonical canonical_bytes write_row
returns c =
    simp (
      ne_eqb _ _ (λ e. c.if-kind-eq256.false (c.kind_of-kind.ensures ∙ e)),
      ← c.kind_of-kind.ensures,
      c.class_of-class.ensures,
      ← c.write_class.ensures.none c.in_default-write_class.is,
    ) c.write_line.ensures
