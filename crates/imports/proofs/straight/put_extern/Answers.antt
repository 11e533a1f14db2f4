-- `put_extern` stores the lead and the name where there are no options (`bare_wrote`), and else what `writing::put_extern` does.
use native.Mathlib.Omega.{arith}
use mathlib.Core.Path.{◌≡◌, ap, ◌∙◌}
use lib.ListN.{length, take, drop}
use Prim.Native.Nat.{◌+◌, ◌-◌}
use Rattle.numbers.specs.Bytes.{store}
use Rattle.numbers.proofs.BytesLaws.{to_end}
use Rattle.fields.specs.Words.{word}
use Rattle.writing.specs.Binary.{extern_part}
use Rattle.writing.proofs.ExternLaws.{extern_wrote}
use Rattle.writing.proofs.WroteLaws.{same_size}
use Rattle.imports.proofs.ImportLaws.{bare_bytes, bare_wrote}
use Rattle.imports.proofs.straight.put_extern.Goals as goal

pub bounds-out-to : goal.bounds-out-to
bounds-out-to c =
    let a = c.args in
    let none : word a.row.now 3 + word a.row.now 6 + word a.row.now 9 ≡ 0 = omega (arith, c.three.ensures.0, c.if-three-eq0.true) in
    omega (arith, ap length (bare_bytes a.row.now a.pool.now none), c.requires.row_in_bounds)

pub overflow_add-result-then-three-eq0 : goal.overflow_add-result-then-three-eq0
overflow_add-result-then-three-eq0 c =
    let a = c.args in
    let sum : word a.row.now 3 + word a.row.now 6 + word a.row.now 9 ≡ 0 = omega (arith, c.three.ensures.0, c.if-three-eq0.true) in
    let w = bare_wrote a.row.now a.pool.now c.requires.row_len.1 sum a.out.now a.to c.requires.row_in_bounds c.put_name.ensures c.stored_size.ensures in
    omega (arith, w.place, c.requires.row_in_bounds)

pub shape_of-out-then-three-eq0 : goal.shape_of-out-then-three-eq0
shape_of-out-then-three-eq0 c =
    let a = c.args in
    let sum : word a.row.now 3 + word a.row.now 6 + word a.row.now 9 ≡ 0 = omega (arith, c.three.ensures.0, c.if-three-eq0.true) in
    let w = bare_wrote a.row.now a.pool.now c.requires.row_len.1 sum a.out.now a.to c.requires.row_in_bounds c.put_name.ensures c.stored_size.ensures in
    same_size w

pub returns-then-three-eq0 : goal.returns-then-three-eq0
returns-then-three-eq0 c =
    let a = c.args in
    let sum : word a.row.now 3 + word a.row.now 6 + word a.row.now 9 ≡ 0 = omega (arith, c.three.ensures.0, c.if-three-eq0.true) in
    let w = bare_wrote a.row.now a.pool.now c.requires.row_len.1 sum a.out.now a.to c.requires.row_in_bounds c.put_name.ensures c.stored_size.ensures in
    w

pub overflow_add-result-2 : goal.overflow_add-result-2
overflow_add-result-2 c =
    let a = c.args in
    let row = a.row.now in
    let whole = ap (λ p. store (extern_part p (take (length row - 1) (drop 1 row))) a.to a.out.now) (to_end a.pool.now 0) in
    let w = extern_wrote a.pool.now row 1 c.requires.row_len.1 (c.put_extern.ensures ∙ whole) c.stored_size-2.ensures c.requires.row_in_bounds in
    omega (arith, w.place, c.requires.row_in_bounds)

pub shape_of-out : goal.shape_of-out
shape_of-out c =
    let a = c.args in
    let row = a.row.now in
    let whole = ap (λ p. store (extern_part p (take (length row - 1) (drop 1 row))) a.to a.out.now) (to_end a.pool.now 0) in
    let w = extern_wrote a.pool.now row 1 c.requires.row_len.1 (c.put_extern.ensures ∙ whole) c.stored_size-2.ensures c.requires.row_in_bounds in
    same_size w

pub returns : goal.returns
returns c =
    let a = c.args in
    let row = a.row.now in
    let whole = ap (λ p. store (extern_part p (take (length row - 1) (drop 1 row))) a.to a.out.now) (to_end a.pool.now 0) in
    let w = extern_wrote a.pool.now row 1 c.requires.row_len.1 (c.put_extern.ensures ∙ whole) c.stored_size-2.ensures c.requires.row_in_bounds in
    w
