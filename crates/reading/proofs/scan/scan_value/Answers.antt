-- `reading::scan::scan_value` meets its contract: the tests on the first byte and the arms are those of `scan_value`.
use mathlib.Core.Path.{sym, ◌∙◌}
use borrow.Author.Tests.{le-leb, lt-leb, lt-ltb, le-ltb}
use Rattle.reading.specs.Scan.{scan_value}
use Rattle.reading.proofs.scan.scan_value.Goals as goal

pub returns-then-bs-le0 : goal.returns-then-bs-le0
unfolding scan_value
returns-then-bs-le0 c = c.cut_short.ensures ∙ simp (le-leb _ _ c.if-bs-le0.true)

pub returns-then-b-lt64 : goal.returns-then-b-lt64
unfolding scan_value
returns-then-b-lt64 c = simp (lt-leb _ _ c.if-bs-le0.false, sym c.byte_at-b.ensures, lt-ltb _ _ c.if-b-lt64.true)

pub returns-then-b-lt128 : goal.returns-then-b-lt128
unfolding scan_value
returns-then-b-lt128 c =
    c.primitive_or.ensures ∙ simp (
      lt-leb _ _ c.if-bs-le0.false,
      sym c.byte_at-b.ensures,
      le-ltb _ _ c.if-b-lt64.false,
      lt-ltb _ _ c.if-b-lt128.true,
    )

pub returns-in-Ok : goal.returns-in-Ok
unfolding scan_value
returns-in-Ok c =
    simp (
      lt-leb _ _ c.if-bs-le0.false,
      sym c.byte_at-b.ensures,
      le-ltb _ _ c.if-b-lt64.false,
      le-ltb _ _ c.if-b-lt128.false,
      sym c.take_signed.ensures,
      c.in-Ok.is,
    )

pub returns-in-Err-Cut : goal.returns-in-Err-Cut
unfolding scan_value
returns-in-Err-Cut c =
    c.cut_short-in-Err-Cut.ensures ∙ simp (
      lt-leb _ _ c.if-bs-le0.false,
      sym c.byte_at-b.ensures,
      le-ltb _ _ c.if-b-lt64.false,
      le-ltb _ _ c.if-b-lt128.false,
      sym c.take_signed.ensures,
      c.in-Err-Cut.is,
      c.in-Err-Cut.field-0-is,
    )

pub returns-in-Err-Bad : goal.returns-in-Err-Bad
unfolding scan_value
returns-in-Err-Bad c =
    simp (
      lt-leb _ _ c.if-bs-le0.false,
      sym c.byte_at-b.ensures,
      le-ltb _ _ c.if-b-lt64.false,
      le-ltb _ _ c.if-b-lt128.false,
      sym c.take_signed.ensures,
      c.in-Err-Bad.is,
      c.in-Err-Bad.field-0-is,
    )
