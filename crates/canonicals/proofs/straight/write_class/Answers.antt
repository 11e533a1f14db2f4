-- `write_class` meets its contract: each arm by what its call leaves for the class found.
use Rattle.writing.proofs.RowLaws.{tried_none}
use Rattle.canonicals.proofs.ClassLaws.{tried}
use Rattle.canonicals.proofs.straight.write_class.Goals as goal

pub returns-then-pool-gt-POOL_BYTES : goal.returns-then-pool-gt-POOL_BYTES
returns-then-pool-gt-POOL_BYTES c = tried_none _ _ _ _ _

pub returns-in-Nothing : goal.returns-in-Nothing
returns-in-Nothing c = tried c.in-Nothing.is c.if-pool-gt-POOL_BYTES.false c.nothing_row.ensures

pub returns-in-Zero : goal.returns-in-Zero
returns-in-Zero c = tried c.in-Zero.is c.if-pool-gt-POOL_BYTES.false c.zero_row.ensures

pub returns-in-Index : goal.returns-in-Index
returns-in-Index c = tried c.in-Index.is c.if-pool-gt-POOL_BYTES.false c.index_row.ensures

pub returns-in-ZeroIndex : goal.returns-in-ZeroIndex
returns-in-ZeroIndex c = tried c.in-ZeroIndex.is c.if-pool-gt-POOL_BYTES.false c.zero_index_row.ensures

pub returns-in-Indices : goal.returns-in-Indices
returns-in-Indices c = tried c.in-Indices.is c.if-pool-gt-POOL_BYTES.false c.indices_row.ensures

pub returns-in-Flag : goal.returns-in-Flag
returns-in-Flag c = tried c.in-Flag.is c.if-pool-gt-POOL_BYTES.false c.flag_row.ensures

pub returns-in-IndexFlag : goal.returns-in-IndexFlag
returns-in-IndexFlag c = tried c.in-IndexFlag.is c.if-pool-gt-POOL_BYTES.false c.index_flag_row.ensures

pub returns-in-RepIndex : goal.returns-in-RepIndex
returns-in-RepIndex c = tried c.in-RepIndex.is c.if-pool-gt-POOL_BYTES.false c.rep_index_row.ensures

pub returns-in-Options : goal.returns-in-Options
returns-in-Options c = tried c.in-Options.is c.if-pool-gt-POOL_BYTES.false c.options_row.ensures

pub returns-in-ZeroOptions : goal.returns-in-ZeroOptions
returns-in-ZeroOptions c = tried c.in-ZeroOptions.is c.if-pool-gt-POOL_BYTES.false c.zero_options_row.ensures

pub returns-in-Not : goal.returns-in-Not
returns-in-Not c = tried_none _ _ _ _ _
