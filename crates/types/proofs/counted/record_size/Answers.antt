-- `record_size` meets its contract: a count and the elements that are seen make the row (`counted_known`).
use native.Mathlib.Omega.{arith}
use Prim.Native.Nat.{ℕ, ◌+◌}
use mathlib.Core.Path.{refl, ap}
use Rattle.std.proofs.lemmas.Option.{IfSome_then}
use Rattle.numbers.proofs.LebLaws.{size_bounds}
use Rattle.fields.specs.declared.Field.TheVariants as field
use Rattle.fields.specs.Words.{word, wide}
use Rattle.fields.specs.Shape.{widths}
use Rattle.writing.proofs.RowLaws.{counted_known}
use Rattle.writing.proofs.GroupLaws.{labelled_element}
use Rattle.types.proofs.counted.record_size.Goals as goal

pub overflow_add-unsigned_size : goal.overflow_add-unsigned_size
overflow_add-unsigned_size c = omega (arith, c.unsigned_size.ensures, size_bounds 128 (word c.args.row.now 1))

pub fields_size-requires-clause-n_in_bounds : goal.fields_size-requires-clause-n_in_bounds
fields_size-requires-clause-n_in_bounds c =
    let few = size_bounds 128 (word c.args.row.now 1) in
    (omega (arith, c.if-row-n.false), omega (arith, c.unsigned_size.ensures, few))

pub returns : goal.returns
unfolding widths wide
returns c =
    let row = c.args.row.now in
    IfSome_then c.fields_size.result c.fields_size.ensures
    (λ r g. counted_known 0x72 field.Name field.Value refl row c.args.pool.now (labelled_element c.args.pool.now) c.requires.0 c.requires.1 c.if-row-n.false
    (ap (λ (m : ℕ). 1 + m) c.unsigned_size.ensures) g)
