-- `component::row_size` meets its contract: each arm has its kind's line of the table (`measured_as`).
use Rattle.instances.specs.Table.{table}
use Rattle.writing.proofs.KindLaws.{sized_as}
use Rattle.instances.proofs.InstanceLaws.{kind_19, kind_21}
use Rattle.instances.proofs.component.row_size.Goals as goal

pub returns-in-19 : goal.returns-in-19
returns-in-19 c =
    let args = c.args in
    sized_as table kind_19 c.kind_of.ensures c.in-19.is args.row.now args.pool.now _ c.instantiate_size.ensures

pub returns-in-21 : goal.returns-in-21
returns-in-21 c =
    let args = c.args in
    sized_as table kind_21 c.kind_of.ensures c.in-21.is args.row.now args.pool.now _ c.export_items_size.ensures
