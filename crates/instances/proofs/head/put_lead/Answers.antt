-- `put_lead` meets its contract: a byte and a number behind it (`byte_stored`).
use native.Mathlib.Omega.{arith}
use mathlib.Core.Path.{refl}
use Rattle.numbers.specs.Leb.{unsigned}
use Rattle.writing.proofs.WroteLaws.{same_size}
use Rattle.writing.proofs.GroupLaws.{byte_stored}
use Rattle.instances.proofs.head.put_lead.Goals as goal

pub overflow_add-result-2 : goal.overflow_add-result-2
overflow_add-result-2 c =
    let args = c.args in
    let w = byte_stored args.out.now args.to args.lead (unsigned args.x) refl (omega (arith, c.requires)) c.put_unsigned.ensures c.stored_size.ensures in
    omega (arith, w.place, c.requires)

pub shape_of-out : goal.shape_of-out
shape_of-out c =
    let args = c.args in
    same_size (byte_stored args.out.now args.to args.lead (unsigned args.x) refl (omega (arith, c.requires)) c.put_unsigned.ensures c.stored_size.ensures)

pub returns : goal.returns
returns c =
    let args = c.args in
    byte_stored args.out.now args.to args.lead (unsigned args.x) refl (omega (arith, c.requires)) c.put_unsigned.ensures c.stored_size.ensures
