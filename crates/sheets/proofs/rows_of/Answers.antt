-- `rows_of` meets its contract: for each way out, what the frame is there.
use Prim.Native.Nat.{◌+◌}
use native.Mathlib.Omega.{arith}
use mathlib.Core.Path.{sym, ap, ◌∙◌}
use Rattle.sheets.proofs.FrameLaws.{frame_cut, frame_version, frame_empty, frame_broken, frame_found}
use Rattle.sheets.proofs.rows_of.Goals as goal

pub returns-then-input-lt5 : goal.returns-then-input-lt5
returns-then-input-lt5 c = frame_cut _ c.if-input-lt5.true

pub returns-then-input-ne1 : goal.returns-then-input-ne1
returns-then-input-ne1 c = frame_version _ (omega arith) c.if-input-ne1.true

pub returns-then-input-size : goal.returns-then-input-size
returns-then-input-size c =
    frame_empty _ _ (ap (λ n. 5 + n) c.number_at-size.ensures) (omega arith) c.if-input-ne1.false (omega arith)

pub returns-then-is_framed : goal.returns-then-is_framed
returns-then-is_framed c =
    frame_found _ _ (ap (λ n. 5 + n) c.number_at-size.ensures) (omega arith) c.if-input-ne1.false (omega arith)
    (sym c.is_framed.ensures ∙ c.if-is_framed.true)

pub returns : goal.returns
returns c =
    frame_broken _ _ (ap (λ n. 5 + n) c.number_at-size.ensures) (omega arith) c.if-input-ne1.false (omega arith)
    (sym c.is_framed.ensures ∙ c.if-is_framed.false)
