-- `fits` makes the tests of `within`.
use mathlib.Core.Path.{sym}
use Rattle.writing.proofs.LeafLaws.{within-room, within-past, within_none}
use Rattle.writing.proofs.fits.Goals as goal

pub returns-then-at-room : goal.returns-then-at-room
returns-then-at-room c = let a = c.args in within-room a.size a.at a.room c.if-size-gt0.true c.if-at-room.true

pub returns-else-at-room : goal.returns-else-at-room
returns-else-at-room c = let a = c.args in sym (within-past a.size a.at a.room c.if-size-gt0.true c.if-at-room.false)

pub returns-else-size-gt0 : goal.returns-else-size-gt0
returns-else-size-gt0 c = let a = c.args in sym (within_none a.size a.at a.room c.if-size-gt0.false)
