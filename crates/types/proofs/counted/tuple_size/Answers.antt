-- `tuple_size` meets its contract: a count and the elements that are seen make the row (`counted_known`).
use native.Mathlib.Omega.{arith}
use Rattle.std.specs.Prelude.{ℕ, ◌+◌}
use mathlib.Core.Path.{refl, ap}
use Rattle.std.proofs.lemmas.Option.{IfSome_then}
use Rattle.numbers.proofs.LebLaws.{size_bounds}
use Rattle.fields.specs.declared.Field.TheVariants as field
use Rattle.fields.specs.Words.{word, wide}
use Rattle.fields.specs.Shape.{widths}
use Rattle.writing.proofs.RowLaws.{counted_known}
use Rattle.writing.proofs.GroupLaws.{value_element}
use Rattle.types.proofs.counted.tuple_size.Goals as goal

pub overflow_add-unsigned_size : goal.overflow_add-unsigned_size
overflow_add-unsigned_size c = omega (arith, c.unsigned_size.ensures, size_bounds 128 (word c.args.row.now 1))

pub values_size-requires-clause-n_in_bounds : goal.values_size-requires-clause-n_in_bounds
values_size-requires-clause-n_in_bounds c =
    let few = size_bounds 128 (word c.args.row.now 1) in
    (omega (arith, c.if-row-n.false), omega (arith, c.unsigned_size.ensures, few))

pub returns : goal.returns
unfolding widths wide
returns c =
    let row = c.args.row.now in
    IfSome_then c.values_size.result c.values_size.ensures
    (λ r g pool small. counted_known 0x6f field.Value field.Nothing refl row pool (value_element pool) small c.requires c.if-row-n.false
    (ap (λ (m : ℕ). 1 + m) c.unsigned_size.ensures) (g pool))
