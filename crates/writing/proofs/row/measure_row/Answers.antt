-- `writing::row::measure_row` meets its contract, by `RowLaws`, a law for each way out.
use mathlib.Core.Path.{sym, ap, ◌∙◌}
use Rattle.writing.specs.Row.{measured_found}
use Rattle.writing.proofs.OrderLaws.{row_too_long, pool_too_long, row_empty, row_shaped}
use Rattle.writing.proofs.row.measure_row.Goals as goal

pub returns-then-row-gt-ROW_WORDS : goal.returns-then-row-gt-ROW_WORDS
returns-then-row-gt-ROW_WORDS c = sym (row_too_long c.args.found c.args.row.now c.args.pool.now c.if-row-gt-ROW_WORDS.true)

pub returns-then-pool-gt-POOL_BYTES : goal.returns-then-pool-gt-POOL_BYTES
returns-then-pool-gt-POOL_BYTES c = sym (pool_too_long c.args.found c.args.row.now c.args.pool.now c.if-row-gt-ROW_WORDS.false c.if-pool-gt-POOL_BYTES.true)

pub returns-then-row-eq0 : goal.returns-then-row-eq0
returns-then-row-eq0 c = sym (row_empty c.args.found c.args.row.now c.args.pool.now c.if-row-gt-ROW_WORDS.false c.if-pool-gt-POOL_BYTES.false c.if-row-eq0.true)

pub returns-in-Some : goal.returns-in-Some
returns-in-Some c =
    c.measure_shape.ensures
    ∙ ap (λ f. measured_found f c.args.row.now c.args.pool.now) (sym c.in-Some.is)
    ∙ sym (row_shaped c.args.found c.args.row.now c.args.pool.now c.if-row-gt-ROW_WORDS.false c.if-pool-gt-POOL_BYTES.false c.if-row-eq0.false)

pub returns-in-None : goal.returns-in-None
returns-in-None c =
    sym (row_shaped c.args.found c.args.row.now c.args.pool.now c.if-row-gt-ROW_WORDS.false c.if-pool-gt-POOL_BYTES.false c.if-row-eq0.false
    ∙ ap (λ f. measured_found f c.args.row.now c.args.pool.now) c.in-None.is)
