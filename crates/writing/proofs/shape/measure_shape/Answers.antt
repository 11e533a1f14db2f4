-- `writing::shape::measure_shape` meets its contract: its tests are those of `measured`, and a row that ends before `start` is too short,
-- by `width_past`.
use borrow.Author.Tests.{eq-eqb, ne_eqb, lt-ltb, le-ltb}
use mathlib.Core.Path.{sym, ◌∙◌}
use Rattle.writing.specs.Write.{measured}
use Rattle.writing.proofs.JudgedLaws.{width_past}
use Rattle.writing.proofs.shape.measure_shape.Goals as goal

pub returns-then-row-gt-ROW_WORDS : goal.returns-then-row-gt-ROW_WORDS
unfolding measured
returns-then-row-gt-ROW_WORDS c = simp (lt-ltb _ _ c.if-row-gt-ROW_WORDS.true)

pub returns-then-pool-gt-POOL_BYTES : goal.returns-then-pool-gt-POOL_BYTES
unfolding measured
returns-then-pool-gt-POOL_BYTES c = simp (le-ltb _ _ c.if-row-gt-ROW_WORDS.false, lt-ltb _ _ c.if-pool-gt-POOL_BYTES.true)

pub returns-then-row-start : goal.returns-then-row-start
unfolding measured
returns-then-row-start c =
    let a = c.args in
    simp (le-ltb _ _ c.if-row-gt-ROW_WORDS.false, le-ltb _ _ c.if-pool-gt-POOL_BYTES.false, ne_eqb _ _ (width_past a.s a.row.now a.start _ c.if-row-start.true))

pub returns-then-width_of-row : goal.returns-then-width_of-row
unfolding measured
returns-then-width_of-row c =
    simp (le-ltb _ _ c.if-row-gt-ROW_WORDS.false, le-ltb _ _ c.if-pool-gt-POOL_BYTES.false, eq-eqb _ _ (sym c.width_of.ensures ∙ c.if-width_of-row.true))
    c.measure_fields.ensures

pub returns : goal.returns
unfolding measured
returns c =
    simp (le-ltb _ _ c.if-row-gt-ROW_WORDS.false, le-ltb _ _ c.if-pool-gt-POOL_BYTES.false, ne_eqb _ _ (λ e. c.if-width_of-row.false (c.width_of.ensures ∙ e)))
