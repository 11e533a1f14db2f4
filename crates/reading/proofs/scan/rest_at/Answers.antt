-- `reading::scan::rest_at` meets its contract: the part that is lent goes to the end of the input (`to_end`), and past the end there
-- is nothing.
use native.Mathlib.Omega.{arith}
use mathlib.Core.Path.{sym}
use lib.ListN.{drop_of_length-le}
use Rattle.numbers.proofs.BytesLaws.{to_end}
use Rattle.reading.proofs.scan.rest_at.Goals as goal

pub returns-then-i-bs : goal.returns-then-i-bs
returns-then-i-bs c = let a = c.args in to_end a.bs.now a.i

pub returns-else-i-bs : goal.returns-else-i-bs
returns-else-i-bs c = let a = c.args in sym (drop_of_length-le a.bs.now {i = a.i} (omega arith))
