use Rattle.std.proofs.Common.{◌∙◌}
use Rattle.telling.proofs.LineLaws.{starts_pointwise}
use Rattle.telling.proofs.lines.starts_with.Goals as goal

pub returns : goal.returns
returns c = c.starts_with.ensures.value ∙ starts_pointwise _ _
