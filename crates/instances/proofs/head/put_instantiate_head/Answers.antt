-- `put_instantiate_head` meets its contract: the byte and the index, and the count behind them.
use native.Mathlib.Omega.{arith}
use Rattle.numbers.specs.Leb.{unsigned}
use Rattle.fields.specs.Words.{word}
use Rattle.std.specs.Prelude.{◌∷◌, length}
use Rattle.writing.proofs.WroteLaws.{then, same_size, of-store, room-first, room-then}
use Rattle.instances.proofs.head.put_instantiate_head.Goals as goal

pub put_lead-next-requires : goal.put_lead-next-requires
put_lead-next-requires c =
    let args = c.args in
    let row = args.row.now in
    omega (arith, room-first (0x00 ∷ unsigned (word row 1)) (unsigned (word row 2)) args.to (length args.out.now) c.requires.row_in_bounds)

pub overflow_add-result : goal.overflow_add-result
overflow_add-result c =
    let args = c.args in
    let count = unsigned (word args.row.now 2) in
    let room = room-then c.put_lead-next.ensures count c.requires.row_in_bounds in
    let w = of-store c.put_unsigned.ensures c.stored_size.ensures room in
    omega (arith, w.place, room)

pub shape_of-out : goal.shape_of-out
shape_of-out c =
    let args = c.args in
    let count = unsigned (word args.row.now 2) in
    let room = room-then c.put_lead-next.ensures count c.requires.row_in_bounds in
    same_size (then c.put_lead-next.ensures (of-store c.put_unsigned.ensures c.stored_size.ensures room))

pub returns : goal.returns
returns c =
    let args = c.args in
    let count = unsigned (word args.row.now 2) in
    let room = room-then c.put_lead-next.ensures count c.requires.row_in_bounds in
    then c.put_lead-next.ensures (of-store c.put_unsigned.ensures c.stored_size.ensures room)
