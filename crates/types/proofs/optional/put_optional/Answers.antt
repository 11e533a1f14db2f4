-- `put_optional` meets its contract: its stores are `absent_wrote` and `present_wrote`.
use native.Mathlib.Omega.{arith}
use Rattle.writing.proofs.WroteLaws.{same_size}
use Rattle.writing.proofs.RowLaws.{optional_none, optional_some}
use Rattle.types.proofs.SmallLaws.{absent_wrote, present_wrote}
use Rattle.types.proofs.optional.put_optional.Goals as goal

pub bounds-out-to : goal.bounds-out-to
bounds-out-to c = let a = c.args in omega (arith, c.requires, optional_none a.tag a.x c.if-tag-eq2.true)

pub returns-then-tag-eq2 : goal.returns-then-tag-eq2
returns-then-tag-eq2 c = let a = c.args in absent_wrote a.out.now a.to a.tag a.x c.if-tag-eq2.true

pub bounds-out-to-2 : goal.bounds-out-to-2
bounds-out-to-2 c = let a = c.args in omega (arith, c.requires, optional_some a.tag a.x c.if-tag-eq2.false)

pub overflow_add-result-3 : goal.overflow_add-result-3
overflow_add-result-3 c =
    let a = c.args in
    omega (
      arith,
      c.requires,
      (present_wrote a.out.now a.to a.tag a.x
          c.if-tag-eq2.false c.put_value.ensures c.stored_size.ensures
          c.requires).place,
    )

pub shape_of-out : goal.shape_of-out
shape_of-out c =
    let a = c.args in
    same_size (present_wrote a.out.now a.to a.tag a.x c.if-tag-eq2.false
    c.put_value.ensures c.stored_size.ensures
    c.requires)

pub returns : goal.returns
returns c =
    let a = c.args in
    present_wrote a.out.now a.to a.tag a.x c.if-tag-eq2.false
    c.put_value.ensures c.stored_size.ensures
    c.requires
