-- `numbers::text::by_windows` meets its contract: a name all of whose windows are right, and its beginning and its end, is text
-- (`windows-text`).
use Rattle.std.proofs.Common.{arith}
use Rattle.numbers.proofs.TextWindows.{windows-text}
use Rattle.numbers.proofs.Impossible.{impossible}
use Rattle.numbers.proofs.text.by_windows.Goals as goal

pub returns-then-ends : goal.returns-then-ends
returns-then-ends c = λ e.
    windows-text _ (c.all_windows.ensures (omega arith)) (c.begins.ensures e)
    (c.ends.ensures c.if-ends.true)

pub returns-then-len-lt10 : goal.returns-then-len-lt10
returns-then-len-lt10 = λ c e. impossible cc

pub returns-then-len-gt50 : goal.returns-then-len-gt50
returns-then-len-gt50 = λ c e. impossible cc

pub returns-then-all_windows-gt0 : goal.returns-then-all_windows-gt0
returns-then-all_windows-gt0 = λ c e. impossible cc

pub returns : goal.returns
returns = λ c e. impossible cc
