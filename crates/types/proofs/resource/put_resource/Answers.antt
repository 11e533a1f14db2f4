-- `put_resource` meets its contract: its stores are `resource_alone` and `resource_wrote`.
use native.Mathlib.Omega.{arith}
use Prim.Native.Nat.{◌+◌}
use lib.ListN.{set, length-set}
use Rattle.fields.specs.Words.{word}
use Rattle.writing.proofs.WroteLaws.{same_size}
use Rattle.types.proofs.SmallLaws.{no_destructor, some_destructor, resource_alone, resource_wrote}
use Rattle.types.proofs.resource.put_resource.Goals as goal

pub bounds-out-to-2 : goal.bounds-out-to-2
bounds-out-to-2 c =
    let a = c.args in
    omega (arith, c.requires.row_in_bounds, length-set a.out.now a.to a.lead)

pub bounds-out-to-then-row-eq0 : goal.bounds-out-to-then-row-eq0
bounds-out-to-then-row-eq0 c =
    let a = c.args in
    let row = a.row.now in
    let one = set a.out.now a.to a.lead in
    omega (
      arith,
      c.requires.row_in_bounds,
      no_destructor (word row 2) (word row 3) c.if-row-eq0.true,
      length-set a.out.now a.to a.lead,
      length-set one (a.to + 1) c.rep_byte.result,
    )

pub returns-then-row-eq0 : goal.returns-then-row-eq0
returns-then-row-eq0 c =
    let a = c.args in
    let row = a.row.now in
    (resource_alone (word row 2) (word row 3) a.out.now a.to a.lead (word row 1) c.rep_byte.ensures
    c.if-row-eq0.true).content

pub bounds-out-to-3 : goal.bounds-out-to-3
bounds-out-to-3 c =
    let a = c.args in
    let row = a.row.now in
    let one = set a.out.now a.to a.lead in
    omega (
      arith,
      c.requires.row_in_bounds,
      some_destructor (word row 2) (word row 3) c.if-row-eq0.false,
      length-set a.out.now a.to a.lead,
      length-set one (a.to + 1) c.rep_byte.result,
    )

pub shape_of-out : goal.shape_of-out
shape_of-out c =
    let a = c.args in
    let row = a.row.now in
    same_size
    (resource_wrote (word row 2) (word row 3) a.out.now a.to a.lead (word row 1)
    c.rep_byte.ensures c.if-row-eq0.false
    c.put_unsigned.ensures
    c.requires.row_in_bounds)

pub returns : goal.returns
returns c =
    let a = c.args in
    let row = a.row.now in
    (resource_wrote (word row 2) (word row 3) a.out.now a.to a.lead (word row 1)
    c.rep_byte.ensures c.if-row-eq0.false
    c.put_unsigned.ensures
    c.requires.row_in_bounds
    ).content
