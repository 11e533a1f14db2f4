-- `reading::scan::scan_name` meets its contract: the tests are those of `named`, since the part of the input from `t` to `t + n` has
-- `n` bytes, and a name that is not text stops within them; a number that was taken lies inside the input (`taken-inside`).
use native.Mathlib.Nat.{add-sub_cancel_left}
use native.Mathlib.Omega.{arith}
use Prim.Native.Nat.{◌+◌, ◌-◌}
use mathlib.Core.Path.{sym, ◌∙◌}
use borrow.Author.Tests.{le-leb, lt-leb}
use lib.ListN.{drop}
use Rattle.numbers.proofs.TextLaws.{right-text, stops_text, stops_stop, stops_taken}
use Rattle.numbers.specs.Integers.{u32}
use Rattle.numbers.proofs.LebLaws.{taken-inside}
use Rattle.reading.specs.Scan.{scan_name}
use Rattle.reading.proofs.scan.scan_name.Goals as goal

pub overflow_add-end : goal.overflow_add-end
overflow_add-end c =
    let found = sym c.take_unsigned.ensures ∙ c.in-Ok.is in
    let size = taken-inside u32 c.args.bs.now _ _ found in
    omega arith

pub overflow_cast-byte : goal.overflow_cast-byte
overflow_cast-byte c =
    let bs = c.args.bs.now in
    omega (arith, stops_taken (c.in-Ok.field-0.took + c.in-Ok.field-0.value - c.in-Ok.field-0.took) (drop c.in-Ok.field-0.took bs) c.spelling_of.ensures c.in-Err.is)

pub returns-in-Ok-spelling_of : goal.returns-in-Ok-spelling_of
unfolding scan_name
returns-in-Ok-spelling_of c =
    simp (
      sym c.take_unsigned.ensures,
      c.in-Ok.is,
      le-leb _ _ c.if-end-bs.true,
      simp add-sub_cancel_left at (right-text _ (sym c.spelling_of.ensures ∙ c.in-Ok-spelling_of.is)),
    )

pub returns-in-Err : goal.returns-in-Err
unfolding scan_name
returns-in-Err c =
    let stops = sym c.spelling_of.ensures ∙ c.in-Err.is in
    simp (
      c.offset_of.ensures,
      sym c.take_unsigned.ensures,
      c.in-Ok.is,
      le-leb _ _ c.if-end-bs.true,
      simp add-sub_cancel_left at (stops_text _ _ stops),
      simp add-sub_cancel_left at (stops_stop _ _ stops),
    )

pub returns-else-end-bs : goal.returns-else-end-bs
unfolding scan_name
returns-else-end-bs c =
    c.cut_short.ensures ∙ simp (
      sym c.take_unsigned.ensures,
      c.in-Ok.is,
      lt-leb _ _ c.if-end-bs.false,
    )

pub returns-in-Err-Cut : goal.returns-in-Err-Cut
unfolding scan_name
returns-in-Err-Cut c = c.cut_short-in-Err-Cut.ensures ∙ simp (sym c.take_unsigned.ensures, c.in-Err-Cut.is, c.in-Err-Cut.field-0-is)

pub returns-in-Err-Bad : goal.returns-in-Err-Bad
unfolding scan_name
returns-in-Err-Bad c = simp (sym c.take_unsigned.ensures, c.in-Err-Bad.is, c.in-Err-Bad.field-0-is)
