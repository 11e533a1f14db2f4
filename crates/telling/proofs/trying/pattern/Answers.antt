use Rattle.telling.specs.Trying.{pattern_at}
use Rattle.telling.proofs.trying.pattern.Goals as goal

pub returns-then-turned : goal.returns-then-turned
unfolding pattern_at
returns-then-turned c = simp c.if-turned.true

pub returns-else-turned : goal.returns-else-turned
unfolding pattern_at
returns-else-turned c = simp c.if-turned.false
