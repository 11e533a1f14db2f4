-- `head_size` meets its contract: the words are as many as their count says, and the parameters were seen.
use native.Mathlib.Omega.{arith}
use lib.ListN.{get_or}
use Rattle.std.proofs.lemmas.Option.{IfSome_then}
use Rattle.numbers.proofs.LebLaws.{size_bounds}
use Rattle.types.proofs.StepLaws.{head_known}
use Rattle.types.proofs.steps.head_size.Goals as goal

pub overflow_add-unsigned_size : goal.overflow_add-unsigned_size
overflow_add-unsigned_size c = omega (arith, c.unsigned_size.ensures, (size_bounds 128 (get_or c.args.words.now 1 0)).1)

pub fields_size-requires-clause-n_in_bounds : goal.fields_size-requires-clause-n_in_bounds
fields_size-requires-clause-n_in_bounds c =
    let size = (size_bounds 128 (get_or c.args.words.now 1 0)).1 in
    (omega (arith, c.if-words-n.false), omega (arith, c.unsigned_size.ensures, size))

pub returns : goal.returns
returns c =
    IfSome_then c.fields_size.result c.fields_size.ensures
    (λ r. head_known c.args.words.now c.args.pool.now c.if-pool-gt-POOL_BYTES.false c.if-words-gt-ROW_WORDS.false
    c.if-words-n.false (omega (arith, c.if-words-gt1.false))
    (omega (arith, c.unsigned_size.ensures)))
