-- `put_optionals_row` meets its contract: a byte and two O are stored one after the other (`then`).
use native.Mathlib.Omega.{arith}
use lib.ListN.{length-set}
use Rattle.writing.proofs.WroteLaws.{then, then-byte, same_size}
use Rattle.writing.proofs.GroupLaws.{byte-wrote}
use Rattle.types.proofs.small.put_optionals_row.Goals as goal

pub put_optional-next-requires : goal.put_optional-next-requires
put_optional-next-requires c =
    let a = c.args in
    omega (arith, c.requires.row_in_bounds, length-set a.out.now a.to a.lead)

pub put_optional-requires : goal.put_optional-requires
put_optional-requires c =
    let a = c.args in
    omega (
      arith,
      c.requires.row_in_bounds,
      c.put_optional-next.ensures.place,
      same_size c.put_optional-next.ensures,
      length-set a.out.now a.to a.lead,
    )

pub shape_of-out : goal.shape_of-out
shape_of-out c =
    let a = c.args in
    same_size (then-byte (byte-wrote a.out.now a.to a.lead) (then
    c.put_optional-next.ensures c.put_optional.ensures))

pub returns : goal.returns
returns c =
    let a = c.args in
    (then-byte (byte-wrote a.out.now a.to a.lead) (then
    c.put_optional-next.ensures
    c.put_optional.ensures)).content
