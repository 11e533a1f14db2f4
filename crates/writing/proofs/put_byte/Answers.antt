-- `put_byte` stores one byte where its place is within the buffer (`store-fits`, `store-room`).
use native.Mathlib.Omega.{arith}
use mathlib.Core.Path.{sym}
use mathlib.Core.List.{[], ◌∷◌}
use Rattle.numbers.proofs.BytesLaws.{store-fits, store-room}
use Rattle.writing.proofs.put_byte.Goals as goal

pub returns-then-at-out : goal.returns-then-at-out
returns-then-at-out c = let a = c.args in sym (store-fits (a.b ∷ []) a.at a.out.now (omega (arith, c.if-at-out.true)))

pub returns : goal.returns
returns c = let a = c.args in sym (store-room (a.b ∷ []) a.at a.out.now (omega (arith, c.if-at-out.false)))
