-- `class_size` meets its contract: each arm by what its call sees of the class found.
use Rattle.std.proofs.lemmas.Option.{IfSome_then}
use Rattle.canonicals.proofs.ClassLaws.{class_sized, options_known, zero_options_known}
use Rattle.canonicals.proofs.straight.class_size.Goals as goal

pub returns-in-Nothing : goal.returns-in-Nothing
returns-in-Nothing c =
    let a = c.args in
    class_sized c.in-Nothing.is a.row.now a.pool.now c.nothing_size.result c.if-pool-gt-POOL_BYTES.false c.nothing_size.ensures

pub returns-in-Zero : goal.returns-in-Zero
returns-in-Zero c =
    let a = c.args in
    class_sized c.in-Zero.is a.row.now a.pool.now c.zero_size.result c.if-pool-gt-POOL_BYTES.false c.zero_size.ensures

pub returns-in-Index : goal.returns-in-Index
returns-in-Index c =
    let a = c.args in
    class_sized c.in-Index.is a.row.now a.pool.now c.index_size.result c.if-pool-gt-POOL_BYTES.false c.index_size.ensures

pub returns-in-ZeroIndex : goal.returns-in-ZeroIndex
returns-in-ZeroIndex c =
    let a = c.args in
    class_sized c.in-ZeroIndex.is a.row.now a.pool.now c.zero_index_size.result c.if-pool-gt-POOL_BYTES.false c.zero_index_size.ensures

pub returns-in-Indices : goal.returns-in-Indices
returns-in-Indices c =
    let a = c.args in
    class_sized c.in-Indices.is a.row.now a.pool.now c.indices_size.result c.if-pool-gt-POOL_BYTES.false c.indices_size.ensures

pub returns-in-Flag : goal.returns-in-Flag
returns-in-Flag c =
    let a = c.args in
    class_sized c.in-Flag.is a.row.now a.pool.now c.flag_size.result c.if-pool-gt-POOL_BYTES.false c.flag_size.ensures

pub returns-in-IndexFlag : goal.returns-in-IndexFlag
returns-in-IndexFlag c =
    let a = c.args in
    class_sized c.in-IndexFlag.is a.row.now a.pool.now c.index_flag_size.result c.if-pool-gt-POOL_BYTES.false c.index_flag_size.ensures

pub returns-in-RepIndex : goal.returns-in-RepIndex
returns-in-RepIndex c =
    let a = c.args in
    class_sized c.in-RepIndex.is a.row.now a.pool.now c.rep_index_size.result c.if-pool-gt-POOL_BYTES.false c.rep_index_size.ensures

pub returns-in-Options : goal.returns-in-Options
returns-in-Options c =
    let a = c.args in
    class_sized c.in-Options.is a.row.now a.pool.now c.optioned_size.result c.if-pool-gt-POOL_BYTES.false (IfSome_then c.optioned_size.result c.optioned_size.ensures (λ r. options_known))

pub returns-in-ZeroOptions : goal.returns-in-ZeroOptions
returns-in-ZeroOptions c =
    let a = c.args in
    class_sized c.in-ZeroOptions.is a.row.now a.pool.now c.optioned_size-in-ZeroOptions.result c.if-pool-gt-POOL_BYTES.false (IfSome_then c.optioned_size-in-ZeroOptions.result c.optioned_size-in-ZeroOptions.ensures (λ r. zero_options_known))
