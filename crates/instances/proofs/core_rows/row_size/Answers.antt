-- `core_rows::row_size` meets its contract: each arm has its kind's line of the table (`measured_as`).
use Rattle.instances.specs.Table.{core_table}
use Rattle.writing.proofs.KindLaws.{sized_as}
use Rattle.instances.proofs.InstanceLaws.{kind_18, kind_20}
use Rattle.instances.proofs.core_rows.row_size.Goals as goal

pub returns-in-18 : goal.returns-in-18
returns-in-18 c =
    let args = c.args in
    sized_as core_table kind_18 c.kind_of.ensures c.in-18.is args.row.now args.pool.now _ c.instantiate_size.ensures

pub returns-in-20 : goal.returns-in-20
returns-in-20 c =
    let args = c.args in
    sized_as core_table kind_20 c.kind_of.ensures c.in-20.is args.row.now args.pool.now _ c.export_items_size.ensures
