-- The used part that an answer leaves is a number of 64 bits.
use Rattle.std.specs.Prelude.{Ok, Err, ◌+◌, ◌^◌, ◌<◌}
use Rattle.fields.specs.Answer.{Answer}
use Rattle.sections.specs.declared.Section.{Section}

-- the grown part still has a length
abbrev pub Bounded : Section → Answer → Type 0
Bounded s (Ok n) = s.used + n < 2 ^ 64
Bounded s (Err fault) = Unit {0}
