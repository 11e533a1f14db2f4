-- `put_reference` stores the byte of the sort and what the sort needs, by the tests of `externdesc`.
use native.Mathlib.Omega.{arith}
use mathlib.Core.Path.{ap, sym, ◌∙◌}
use lib.ListN.{length, length-set}
use lib.Seq.{sets}
use Rattle.numbers.specs.Leb.{unsigned}
use Rattle.writing.specs.Binary.{valtype, externdesc}
use Rattle.writing.proofs.GroupLaws.{bytes-wrote, byte_then, bytes_then, sets-size}
use Rattle.imports.proofs.ReferenceLaws.{reference_some, module_bytes, value_bytes, bound_bytes, resource_bytes, index_bytes}
use Rattle.imports.proofs.straight.put_reference.Goals as goal

pub bounds-out-to : goal.bounds-out-to
bounds-out-to c =
    let a = c.args in
    omega (arith, reference_some a.sort a.x a.y, c.requires.1)

pub bounds-out-to-then-sort-eq0 : goal.bounds-out-to-then-sort-eq0
bounds-out-to-then-sort-eq0 c =
    let a = c.args in
    let out = a.out.now in
    omega (arith, length-set out a.to a.sort, ap length (module_bytes a.sort a.x a.y c.if-sort-eq0.true), c.requires.1)

pub shape_of-out-then-sort-eq0 : goal.shape_of-out-then-sort-eq0
shape_of-out-then-sort-eq0 c =
    let a = c.args in
    let out = a.out.now in
    let e = module_bytes a.sort a.x a.y c.if-sort-eq0.true in
    sets-size out a.to (externdesc a.sort a.x a.y) (bytes_then out a.to a.sort 0x11 (unsigned a.x) e c.requires.1
    c.put_unsigned.ensures)

pub returns-then-sort-eq0 : goal.returns-then-sort-eq0
returns-then-sort-eq0 c =
    let a = c.args in
    let out = a.out.now in
    let e = module_bytes a.sort a.x a.y c.if-sort-eq0.true in
    bytes_then out a.to a.sort 0x11 (unsigned a.x) e c.requires.1 c.put_unsigned.ensures

pub shape_of-out-then-sort-eq2 : goal.shape_of-out-then-sort-eq2
shape_of-out-then-sort-eq2 c =
    let a = c.args in
    let out = a.out.now in
    let e = value_bytes a.sort a.x a.y c.if-sort-eq2.true in
    sets-size out a.to (externdesc a.sort a.x a.y) (byte_then out a.to a.sort (valtype a.x a.y) e c.requires.1
    c.put_value.ensures)

pub returns-then-sort-eq2 : goal.returns-then-sort-eq2
returns-then-sort-eq2 c =
    let a = c.args in
    let out = a.out.now in
    let e = value_bytes a.sort a.x a.y c.if-sort-eq2.true in
    byte_then out a.to a.sort (valtype a.x a.y) e c.requires.1 c.put_value.ensures

pub bounds-out-to-then-x-eq0 : goal.bounds-out-to-then-x-eq0
bounds-out-to-then-x-eq0 c =
    let a = c.args in
    let out = a.out.now in
    omega (
      arith,
      length-set out a.to a.sort,
      ap length (bound_bytes a.sort a.x a.y c.if-sort-eq3.true c.if-x-eq0.true),
      c.requires.1,
    )

pub shape_of-out-then-x-eq0 : goal.shape_of-out-then-x-eq0
shape_of-out-then-x-eq0 c =
    let a = c.args in
    let out = a.out.now in
    let e = bound_bytes a.sort a.x a.y c.if-sort-eq3.true
    c.if-x-eq0.true in
    sets-size out a.to (externdesc a.sort a.x a.y) (bytes_then out a.to a.sort 0x00 (unsigned a.y) e c.requires.1
    c.put_unsigned-then-x-eq0.ensures)

pub returns-then-x-eq0 : goal.returns-then-x-eq0
returns-then-x-eq0 c =
    let a = c.args in
    let out = a.out.now in
    let e = bound_bytes a.sort a.x a.y c.if-sort-eq3.true
    c.if-x-eq0.true in
    bytes_then out a.to a.sort 0x00 (unsigned a.y) e c.requires.1 c.put_unsigned-then-x-eq0.ensures

pub bounds-out-to-then-sort-eq3 : goal.bounds-out-to-then-sort-eq3
bounds-out-to-then-sort-eq3 c =
    let a = c.args in
    let out = a.out.now in
    omega (
      arith,
      length-set out a.to a.sort,
      ap length (resource_bytes a.sort a.x a.y c.if-sort-eq3.true c.if-x-eq0.false),
      c.requires.1,
    )

pub returns-then-sort-eq3 : goal.returns-then-sort-eq3
returns-then-sort-eq3 c =
    let a = c.args in
    let out = a.out.now in
    (bytes-wrote out a.to a.sort 0x01).content ∙ ap (λ v. sets out a.to v) (sym (resource_bytes a.sort a.x a.y
    c.if-sort-eq3.true c.if-x-eq0.false))

pub shape_of-out : goal.shape_of-out
shape_of-out c =
    let a = c.args in
    let out = a.out.now in
    let e = index_bytes a.sort a.x a.y c.if-sort-eq0.false
    c.if-sort-eq2.false c.if-sort-eq3.false in
    sets-size out a.to (externdesc a.sort a.x a.y) (byte_then out a.to a.sort (unsigned a.x) e c.requires.1
    c.put_unsigned-2.ensures)

pub returns : goal.returns
returns c =
    let a = c.args in
    let out = a.out.now in
    let e = index_bytes a.sort a.x a.y c.if-sort-eq0.false
    c.if-sort-eq2.false c.if-sort-eq3.false in
    byte_then out a.to a.sort (unsigned a.x) e c.requires.1 c.put_unsigned-2.ensures
