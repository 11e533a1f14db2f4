-- `scan_next` meets its contract: where the walk before ended it goes on with `scan_one`, and a fault stays.
use Prim.Native.Nat.{◌^◌}
use mathlib.Core.Path.{subst}
use Rattle.fields.specs.inside.Run.{Under}
use Rattle.std.proofs.Common.{rules}
use Rattle.reading.proofs.item.scan_next.Goals as goal

pub scan_one-requires-clause-input_len_bound : goal.scan_one-requires-clause-input_len_bound
scan_one-requires-clause-input_len_bound c = c.requires.input_len_bound

pub scan_one-requires-clause-at_bound : goal.scan_one-requires-clause-at_bound
scan_one-requires-clause-at_bound c = subst (λ l. Under l (2 ^ 31) (2 ^ 61)) c.in_ok-at.was c.requires.under

pub returns : goal.returns
returns c = rw c.in_ok-at.was c.scan_one.ensures

pub returns-in_err-at : goal.returns-in_err-at
returns-in_err-at c = search rules
