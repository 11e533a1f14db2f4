-- `reading::scan::and_count` meets its contract: the arms are those of `onward`.
use mathlib.Core.Path.{◌∙◌}
use Rattle.std.proofs.Common.{rules}
use Rattle.reading.proofs.scan.and_count.Goals as goal

pub count_at-requires : goal.count_at-requires
count_at-requires c = (c.requires.0, rw c.in_ok-so.was at c.requires.1)

pub returns : goal.returns
returns c = c.count_at.ensures ∙ simp c.in_ok-so.was

pub returns-in_err-so : goal.returns-in_err-so
returns-in_err-so c = search rules
