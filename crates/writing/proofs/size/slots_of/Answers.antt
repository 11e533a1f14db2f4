-- The three flags in sum are the count of the options.
use native.Mathlib.Omega.{arith}
use Rattle.writing.specs.Binary.{slots}
use Rattle.writing.proofs.size.slots_of.Goals as goal

pub returns : goal.returns
unfolding slots
returns c = omega arith
