-- `put_sort` meets its contract: by the test of `sortidx`.
use native.Mathlib.Omega.{arith}
use lib.ListN.{length-set}
use mathlib.Core.Path.{ap}
use Rattle.std.specs.Prelude.{ℕ, length}
use Rattle.writing.proofs.WroteLaws.{then-byte, same_size}
use Rattle.writing.proofs.GroupLaws.{byte-wrote}
use Rattle.instances.proofs.InstanceLaws.{module_bytes, sort_bytes}
use Rattle.instances.proofs.LaidLaws.{wrote_as}
use Rattle.instances.proofs.component.put_sort.Goals as goal

pub bounds-out-to : goal.bounds-out-to
bounds-out-to c =
    let args = c.args in
    omega (arith, c.requires.1, ap length (module_bytes args.sort args.x c.if-sort-eq0.true))

pub put_lead-requires : goal.put_lead-requires
put_lead-requires c =
    let args = c.args in
    let one = byte-wrote args.out.now args.to 0x00 in
    omega (arith, c.requires.1, ap length (module_bytes args.sort args.x c.if-sort-eq0.true), same_size one)

pub shape_of-out-then-sort-eq0 : goal.shape_of-out-then-sort-eq0
shape_of-out-then-sort-eq0 c = omega (arith, same_size c.put_lead.ensures, length-set {A = ℕ})

pub returns-then-sort-eq0 : goal.returns-then-sort-eq0
returns-then-sort-eq0 c =
    let args = c.args in
    let w = then-byte (byte-wrote args.out.now args.to 0x00) c.put_lead.ensures in
    wrote_as (module_bytes args.sort args.x c.if-sort-eq0.true) w

pub put_lead-requires-2 : goal.put_lead-requires-2
put_lead-requires-2 c =
    let args = c.args in
    omega (arith, c.requires.1, ap length (sort_bytes args.sort args.x c.if-sort-eq0.false))

pub returns : goal.returns
returns c =
    let args = c.args in
    wrote_as (sort_bytes args.sort args.x c.if-sort-eq0.false) c.put_lead-2.ensures
