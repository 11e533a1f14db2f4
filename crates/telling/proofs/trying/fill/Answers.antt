use Rattle.std.proofs.Common.{refl, add-one, arith, rules}
use Rattle.telling.specs.Trying.{filled}
use Rattle.telling.proofs.TryingLaws.{fill_on}
use Rattle.telling.proofs.trying.fill.Goals as goal

pub loop-i-init : goal.loop-i-init
unfolding filled
loop-i-init c = (refl, search rules)

pub loop-i-preserved : goal.loop-i-preserved
loop-i-preserved c =
    (rw (add-one, c.pattern.ensures, c.loop-i.invariant.0) (fill_on _ _ _ (omega arith)), search rules)
