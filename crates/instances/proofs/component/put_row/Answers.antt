-- `component::put_row` meets its contract: in each arm the row fits its kind's shape, and what is put are its bytes.
use mathlib.Core.Path.{sym, ap, ◌∙◌}
use Rattle.writing.proofs.KindLaws.{fits_as, bytes_as, put_as, put_not}
use Rattle.instances.specs.Table.{table}
use Rattle.instances.specs.Write.{shape_of}
use Rattle.instances.proofs.InstanceLaws.{kind_19, kind_21, kind_other}
use Rattle.instances.proofs.component.put_row.Goals as goal

pub put_instantiate-requires : goal.put_instantiate-requires
put_instantiate-requires c =
    fits_as table kind_19 c.kind_of.ensures c.in-19.is (c.requires)

pub put_export_items-requires : goal.put_export_items-requires
put_export_items-requires c =
    fits_as table kind_21 c.kind_of.ensures c.in-21.is (c.requires)

pub returns-in-19 : goal.returns-in-19
returns-in-19 c =
    let args = c.args in
    put_as args.out.now args.to (bytes_as table kind_19 c.kind_of.ensures c.in-19.is args.row.now args.pool.now)
    c.put_instantiate.ensures

pub returns-in-21 : goal.returns-in-21
returns-in-21 c =
    let args = c.args in
    put_as args.out.now args.to (bytes_as table kind_21 c.kind_of.ensures c.in-21.is args.row.now args.pool.now)
    c.put_export_items.ensures

pub returns-in_default : goal.returns-in_default
returns-in_default c =
    let args = c.args in
    put_not (ap shape_of (sym c.kind_of.ensures) ∙ kind_other c.in_default.in_default-own.rest) args.row.now args.pool.now args.out.now args.to
