-- `put_fixed_row` meets its contract: a byte, a V and a number are stored one after the other (`lead_stores`).
use native.Mathlib.Omega.{arith}
use Rattle.numbers.specs.Leb.{unsigned}
use Rattle.fields.specs.Words.{word}
use Rattle.writing.specs.Binary.{valtype}
use Rattle.writing.proofs.WroteLaws.{same_size}
use Rattle.types.proofs.SmallLaws.{lead_next, lead_stores}
use Rattle.types.proofs.small.put_fixed_row.Goals as goal

pub overflow_add-next-2 : goal.overflow_add-next-2
overflow_add-next-2 c =
    let a = c.args in
    let row = a.row.now in
    let one = valtype (word row 1) (word row 2) in
    omega (
      arith,
      lead_next a.out.now a.to a.lead one (unsigned (word row 3)) c.put_value.ensures
          c.stored_size.ensures c.requires.row_in_bounds,
    )

pub shape_of-out : goal.shape_of-out
shape_of-out c =
    let a = c.args in
    let row = a.row.now in
    let one = valtype (word row 1) (word row 2) in
    let more = unsigned (word row 3) in
    same_size
    (lead_stores a.out.now a.to a.lead one more
    c.put_value.ensures
    c.stored_size.ensures
    c.requires.row_in_bounds
    c.put_unsigned.ensures)

pub returns : goal.returns
returns c =
    let a = c.args in
    let row = a.row.now in
    let one = valtype (word row 1) (word row 2) in
    let more = unsigned (word row 3) in
    (lead_stores a.out.now a.to a.lead one more
    c.put_value.ensures
    c.stored_size.ensures
    c.requires.row_in_bounds
    c.put_unsigned.ensures).content
