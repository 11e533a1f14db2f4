-- `core_rows::put_row` meets its contract: in each arm the row fits its kind's shape, and what is put are its bytes.
use mathlib.Core.Path.{sym, ap, ◌∙◌}
use Rattle.writing.proofs.KindLaws.{fits_as, bytes_as, put_as, put_not}
use Rattle.instances.specs.Table.{core_table}
use Rattle.instances.specs.Write.{core_shape_of}
use Rattle.instances.proofs.InstanceLaws.{kind_18, kind_20, core_other}
use Rattle.instances.proofs.core_rows.put_row.Goals as goal

pub put_instantiate-requires : goal.put_instantiate-requires
put_instantiate-requires c =
    fits_as core_table kind_18 c.kind_of.ensures c.in-18.is (c.requires)

pub put_export_items-requires : goal.put_export_items-requires
put_export_items-requires c =
    fits_as core_table kind_20 c.kind_of.ensures c.in-20.is (c.requires)

pub returns-in-18 : goal.returns-in-18
returns-in-18 c =
    let args = c.args in
    put_as args.out.now args.to (bytes_as core_table kind_18 c.kind_of.ensures c.in-18.is args.row.now args.pool.now)
    c.put_instantiate.ensures

pub returns-in-20 : goal.returns-in-20
returns-in-20 c =
    let args = c.args in
    put_as args.out.now args.to (bytes_as core_table kind_20 c.kind_of.ensures c.in-20.is args.row.now args.pool.now)
    c.put_export_items.ensures

pub returns-in_default : goal.returns-in_default
returns-in_default c =
    let args = c.args in
    put_not (ap core_shape_of (sym c.kind_of.ensures) ∙ core_other c.in_default.in_default-own.rest) args.row.now args.pool.now args.out.now args.to
