-- `name_size` makes the tests of a name; one that ends within the pool has as many bytes as its length says.
use Rattle.std.specs.Prelude.{Some}
use native.Mathlib.Omega.{arith}
use native.Mathlib.Nat.{add-sub_cancel_left}
use Prim.Native.Nat.{◌+◌}
use mathlib.Core.Path.{sym, ap, ◌∙◌}
use Rattle.numbers.proofs.LebLaws.{size_bounds}
use Rattle.writing.proofs.LeafLaws.{name_size_lem, name_not_text, name_past}
use Rattle.writing.proofs.name_size.Goals as goal

pub overflow_add-result : goal.overflow_add-result
overflow_add-result c =
    omega (arith, c.unsigned_size.ensures, size_bounds 128 c.args.size)

pub returns-then-is_text : goal.returns-then-is_text
returns-then-is_text c =
    let a = c.args in
    ap (λ k. Some (k + a.size)) c.unsigned_size.ensures
    ∙ sym (name_size_lem a.pool.now a.start a.size c.if-end-pool.true
    (simp add-sub_cancel_left at (sym c.is_text.ensures) ∙ c.if-is_text.true))

pub returns-else-is_text : goal.returns-else-is_text
returns-else-is_text c =
    let a = c.args in
    sym (name_not_text a.pool.now a.start a.size c.if-end-pool.true
    (simp add-sub_cancel_left at (sym c.is_text.ensures) ∙ c.if-is_text.false))

pub returns-else-end-pool : goal.returns-else-end-pool
returns-else-end-pool c = let a = c.args in sym (name_past a.pool.now a.start a.size c.if-end-pool.false)
