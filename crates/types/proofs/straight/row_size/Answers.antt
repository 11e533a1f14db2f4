-- `row_size` meets its contract: each arm has its kind's line of the table (`measured_as`).
use Rattle.std.proofs.lemmas.Option.{IfSome_then}
use Rattle.writing.proofs.KindLaws.{measured_as, sized_as}
use Rattle.types.specs.Table.{table}
use Rattle.types.proofs.KindLaws.{kind_0, kind_1, kind_2, kind_3, kind_4, kind_5, kind_6, kind_7, kind_8, kind_9, kind_10, kind_11, kind_12, kind_13, kind_14, kind_15, kind_16}
use Rattle.types.proofs.straight.row_size.Goals as goal

pub returns-in-0 : goal.returns-in-0
returns-in-0 c =
    let a = c.args in
    IfSome_then c.primitive_size.result c.primitive_size.ensures (λ r m. measured_as table kind_0 c.kind_of.ensures c.in-0.is a.row.now a.pool.now (m a.pool.now c.if-pool-gt-POOL_BYTES.false))

pub returns-in-1 : goal.returns-in-1
returns-in-1 c =
    let a = c.args in
    sized_as table kind_1 c.kind_of.ensures c.in-1.is a.row.now a.pool.now _ c.record_size.ensures

pub returns-in-2 : goal.returns-in-2
returns-in-2 c =
    let a = c.args in
    sized_as table kind_2 c.kind_of.ensures c.in-2.is a.row.now a.pool.now _ c.variant_size.ensures

pub returns-in-3 : goal.returns-in-3
returns-in-3 c =
    let a = c.args in
    IfSome_then c.value_row_size.result c.value_row_size.ensures (λ r m. measured_as table kind_3 c.kind_of.ensures c.in-3.is a.row.now a.pool.now (m 0x70 a.pool.now c.if-pool-gt-POOL_BYTES.false))

pub returns-in-4 : goal.returns-in-4
returns-in-4 c =
    let a = c.args in
    IfSome_then c.values_row_size.result c.values_row_size.ensures (λ r m. measured_as table kind_4 c.kind_of.ensures c.in-4.is a.row.now a.pool.now (m 0x63 a.pool.now c.if-pool-gt-POOL_BYTES.false))

pub returns-in-5 : goal.returns-in-5
returns-in-5 c =
    let a = c.args in
    IfSome_then c.fixed_row_size.result c.fixed_row_size.ensures (λ r m. measured_as table kind_5 c.kind_of.ensures c.in-5.is a.row.now a.pool.now (m 0x67 a.pool.now c.if-pool-gt-POOL_BYTES.false))

pub returns-in-6 : goal.returns-in-6
returns-in-6 c =
    let a = c.args in
    IfSome_then c.tuple_size.result c.tuple_size.ensures (λ r m. measured_as table kind_6 c.kind_of.ensures c.in-6.is a.row.now a.pool.now (m a.pool.now c.if-pool-gt-POOL_BYTES.false))

pub returns-in-7 : goal.returns-in-7
returns-in-7 c =
    let a = c.args in
    IfSome_then c.labels_row_size.result c.labels_row_size.ensures (λ r m. measured_as table kind_7 c.kind_of.ensures c.in-7.is a.row.now a.pool.now (m 0x6e))

pub returns-in-8 : goal.returns-in-8
returns-in-8 c =
    let a = c.args in
    IfSome_then c.labels_row_size-in-8.result c.labels_row_size-in-8.ensures (λ r m. measured_as table kind_8 c.kind_of.ensures c.in-8.is a.row.now a.pool.now (m 0x6d))

pub returns-in-9 : goal.returns-in-9
returns-in-9 c =
    let a = c.args in
    IfSome_then c.value_row_size-in-9.result c.value_row_size-in-9.ensures (λ r m. measured_as table kind_9 c.kind_of.ensures c.in-9.is a.row.now a.pool.now (m 0x6b a.pool.now c.if-pool-gt-POOL_BYTES.false))

pub returns-in-10 : goal.returns-in-10
returns-in-10 c =
    let a = c.args in
    IfSome_then c.optionals_row_size.result c.optionals_row_size.ensures (λ r m. measured_as table kind_10 c.kind_of.ensures c.in-10.is a.row.now a.pool.now (m 0x6a a.pool.now c.if-pool-gt-POOL_BYTES.false))

pub returns-in-11 : goal.returns-in-11
returns-in-11 c =
    let a = c.args in
    IfSome_then c.index_row_size.result c.index_row_size.ensures (λ r m. measured_as table kind_11 c.kind_of.ensures c.in-11.is a.row.now a.pool.now (m 0x69 a.pool.now c.if-pool-gt-POOL_BYTES.false))

pub returns-in-12 : goal.returns-in-12
returns-in-12 c =
    let a = c.args in
    IfSome_then c.index_row_size-in-12.result c.index_row_size-in-12.ensures (λ r m. measured_as table kind_12 c.kind_of.ensures c.in-12.is a.row.now a.pool.now (m 0x68 a.pool.now c.if-pool-gt-POOL_BYTES.false))

pub returns-in-13 : goal.returns-in-13
returns-in-13 c =
    let a = c.args in
    IfSome_then c.optional_row_size.result c.optional_row_size.ensures (λ r m. measured_as table kind_13 c.kind_of.ensures c.in-13.is a.row.now a.pool.now (m 0x65 a.pool.now c.if-pool-gt-POOL_BYTES.false))

pub returns-in-14 : goal.returns-in-14
returns-in-14 c =
    let a = c.args in
    IfSome_then c.optional_row_size-in-14.result c.optional_row_size-in-14.ensures (λ r m. measured_as table kind_14 c.kind_of.ensures c.in-14.is a.row.now a.pool.now (m 0x66 a.pool.now c.if-pool-gt-POOL_BYTES.false))

pub returns-in-15 : goal.returns-in-15
returns-in-15 c =
    let a = c.args in
    sized_as table kind_15 c.kind_of.ensures c.in-15.is a.row.now a.pool.now _ c.function_size.ensures

pub returns-in-16 : goal.returns-in-16
returns-in-16 c =
    let a = c.args in
    IfSome_then c.resource_size.result c.resource_size.ensures (λ r m. measured_as table kind_16 c.kind_of.ensures c.in-16.is a.row.now a.pool.now (m 0x3f a.pool.now c.if-pool-gt-POOL_BYTES.false))
