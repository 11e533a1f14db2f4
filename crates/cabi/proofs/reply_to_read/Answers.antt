-- `cabi::reply_to_read` meets its contract: an item has words and bytes, and few words; a refusal has its number, its byte and its value.
use native.Mathlib.Omega.{arith}
use mathlib.Core.Path.{subst}
use Rattle.reading.specs.inside.Few.{Few}
use Rattle.cabi.proofs.reply_to_read.Goals as goal

pub overflow_cast-result : goal.overflow_cast-result
overflow_cast-result c = let few = subst Few c.in-Ok.is c.requires in omega arith

pub returns-in-Ok : goal.returns-in-Ok
returns-in-Ok c = simp c.in-Ok.is

pub returns-in-Err : goal.returns-in-Err
returns-in-Err c = simp (c.in-Err.is, c.number_of.ensures, c.byte_of.ensures)
