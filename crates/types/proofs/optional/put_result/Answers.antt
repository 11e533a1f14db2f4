-- `put_result` meets its contract: its stores are `no_result_wrote` and `result_wrote`.
use Prim.Native.Nat.{ℕ}
use native.Mathlib.Omega.{arith}
use lib.ListN.{length-set}
use Rattle.writing.proofs.WroteLaws.{same_size}
use Rattle.writing.proofs.RowLaws.{result_none, result_some}
use Rattle.types.proofs.SmallLaws.{no_result_wrote, result_wrote}
use Rattle.types.proofs.optional.put_result.Goals as goal

pub bounds-out-to : goal.bounds-out-to
bounds-out-to c = let a = c.args in omega (arith, c.requires, result_none a.tag a.x c.if-tag-eq2.true)

pub bounds-out-to-then-tag-eq2 : goal.bounds-out-to-then-tag-eq2
bounds-out-to-then-tag-eq2 c =
    let a = c.args in
    omega (arith, c.requires, result_none a.tag a.x c.if-tag-eq2.true, length-set {A = ℕ})

pub returns-then-tag-eq2 : goal.returns-then-tag-eq2
returns-then-tag-eq2 c = let a = c.args in no_result_wrote a.out.now a.to a.tag a.x c.if-tag-eq2.true

pub bounds-out-to-2 : goal.bounds-out-to-2
bounds-out-to-2 c = let a = c.args in omega (arith, c.requires, result_some a.tag a.x c.if-tag-eq2.false)

pub overflow_add-result-3 : goal.overflow_add-result-3
overflow_add-result-3 c =
    let a = c.args in
    omega (
      arith,
      c.requires,
      (result_wrote a.out.now a.to a.tag a.x
          c.if-tag-eq2.false c.put_value.ensures c.stored_size.ensures
          c.requires).place,
    )

pub shape_of-out : goal.shape_of-out
shape_of-out c =
    let a = c.args in
    same_size (result_wrote a.out.now a.to a.tag a.x c.if-tag-eq2.false
    c.put_value.ensures c.stored_size.ensures
    c.requires)

pub returns : goal.returns
returns c =
    let a = c.args in
    result_wrote a.out.now a.to a.tag a.x c.if-tag-eq2.false
    c.put_value.ensures c.stored_size.ensures
    c.requires
