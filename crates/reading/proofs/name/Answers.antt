-- `reading::name` meets its contract: the ways out are those of `name_fine`, `name_text`, `name_cut` and `name_none`, since the part of
-- the input from `start` to `end` has as many bytes as the length says; that has at most 5 bytes and 32 bits (`index_seen`).
use native.Mathlib.Nat.{add-sub_cancel_left}
use native.Mathlib.Omega.{arith}
use mathlib.Core.Path.{sym, ◌∙◌}
use Rattle.reading.proofs.LeafLaws.{index_seen, name_fine, name_text, name_cut, name_none}
use Rattle.reading.proofs.name.Goals as goal

pub returns-in_err-n : goal.returns-in_err-n
returns-in_err-n c = c.from_residual.ensures ∙ name_none _ (sym c.in_err-n.was ∙ c.seen_unsigned.ensures)

pub overflow_add-end : goal.overflow_add-end
overflow_add-end c = let size = index_seen _ _ (sym c.in_ok-n.was ∙ c.seen_unsigned.ensures) in omega arith

pub overflow_cast-result : goal.overflow_cast-result
overflow_cast-result c = let size = index_seen _ _ (sym c.in_ok-n.was ∙ c.seen_unsigned.ensures) in omega arith

pub returns-then-is_text : goal.returns-then-is_text
returns-then-is_text c =
    name_fine _ _ (sym c.in_ok-n.was ∙ c.seen_unsigned.ensures) c.if-end-bs.true
    (simp add-sub_cancel_left at (sym c.is_text.ensures) ∙ c.if-is_text.true)

pub returns-else-is_text : goal.returns-else-is_text
returns-else-is_text c =
    name_text _ _ (sym c.in_ok-n.was ∙ c.seen_unsigned.ensures) c.if-end-bs.true
    (simp add-sub_cancel_left at (sym c.is_text.ensures) ∙ c.if-is_text.false)

pub returns-else-end-bs : goal.returns-else-end-bs
returns-else-end-bs c = name_cut _ _ (sym c.in_ok-n.was ∙ c.seen_unsigned.ensures) c.if-end-bs.false
