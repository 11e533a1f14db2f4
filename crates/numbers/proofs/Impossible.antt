-- What follows of two different constructors being equal: `cc` finds that then 0 is 1, and so anything follows.
use Rattle.std.proofs.Common.{◌≡◌, ℕ, arith}

pub impossible : {X : Type 0} → ◌≡◌ {A = ℕ} 0 1 → X
impossible e = absurd (omega (arith, e))
