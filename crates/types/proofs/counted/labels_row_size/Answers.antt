-- `labels_row_size` meets its contract: a count and the elements that are seen make the row (`counted_known`).
use native.Mathlib.Omega.{arith}
use Rattle.std.specs.Prelude.{ℕ, ◌+◌}
use mathlib.Core.Path.{refl, ap}
use Rattle.std.proofs.lemmas.Option.{IfSome_then}
use Rattle.numbers.proofs.LebLaws.{size_bounds}
use Rattle.fields.specs.declared.Field.TheVariants as field
use Rattle.fields.specs.Words.{word, wide}
use Rattle.fields.specs.Shape.{widths}
use Rattle.writing.proofs.RowLaws.{counted_known}
use Rattle.writing.proofs.GroupLaws.{name_element}
use Rattle.types.proofs.counted.labels_row_size.Goals as goal

pub overflow_add-unsigned_size : goal.overflow_add-unsigned_size
overflow_add-unsigned_size c = omega (arith, c.unsigned_size.ensures, size_bounds 128 (word c.args.row.now 1))

pub labels_size-requires-clause-n_in_bounds : goal.labels_size-requires-clause-n_in_bounds
labels_size-requires-clause-n_in_bounds c =
    let few = size_bounds 128 (word c.args.row.now 1) in
    (omega (arith, c.if-row-n.false), omega (arith, c.unsigned_size.ensures, few))

pub returns : goal.returns
unfolding widths wide
returns c =
    let row = c.args.row.now in
    IfSome_then c.labels_size.result c.labels_size.ensures
    (λ r g lead. counted_known lead field.Name field.Nothing refl row c.args.pool.now (name_element c.args.pool.now) c.requires.0 c.requires.1 c.if-row-n.false
    (ap (λ (m : ℕ). 1 + m) c.unsigned_size.ensures) g)
