-- `reading::scan::count_at` meets its contract: the arms and the tests on the count are those of `counted`; a number that was taken
-- has at most five bytes (`taken-inside`).
use native.Mathlib.Omega.{arith}
use mathlib.Core.Path.{sym, ◌∙◌}
use borrow.Author.Tests.{eq-eqb, ne_eqb, lt-ltb, le-ltb}
use Rattle.numbers.specs.Integers.{u32}
use Rattle.numbers.proofs.LebLaws.{taken-inside}
use Rattle.reading.specs.Scan.{count_at}
use Rattle.reading.proofs.scan.count_at.Goals as goal

pub returns-then-n-eq0 : goal.returns-then-n-eq0
unfolding count_at
returns-then-n-eq0 c =
    simp (
      sym c.rest_at.ensures,
      sym c.take_unsigned.ensures,
      c.in-Ok.is,
      eq-eqb _ _ c.if-n-eq0.true,
    )

pub overflow_add-next : goal.overflow_add-next
overflow_add-next c =
    let found = sym c.take_unsigned.ensures ∙ c.in-Ok.is in
    let size = taken-inside u32 c.rest_at.result.now _ _ found in
    omega arith

pub returns-then-n-lt4 : goal.returns-then-n-lt4
unfolding count_at
returns-then-n-lt4 c =
    simp (
      sym c.rest_at.ensures,
      sym c.take_unsigned.ensures,
      c.in-Ok.is,
      ne_eqb _ _ c.if-n-eq0.false,
      lt-ltb _ _ c.if-n-lt4.true,
    )

pub returns-else-n-lt4 : goal.returns-else-n-lt4
unfolding count_at
returns-else-n-lt4 c =
    simp (
      sym c.rest_at.ensures,
      sym c.take_unsigned.ensures,
      c.in-Ok.is,
      ne_eqb _ _ c.if-n-eq0.false,
      le-ltb _ _ c.if-n-lt4.false,
    )

pub returns-in-Err-Cut : goal.returns-in-Err-Cut
unfolding count_at
returns-in-Err-Cut c =
    c.cut_short.ensures ∙ simp (
      sym c.rest_at.ensures,
      sym c.take_unsigned.ensures,
      c.in-Err-Cut.is,
      c.in-Err-Cut.field-0-is,
    )

pub returns-in-Err-Bad : goal.returns-in-Err-Bad
unfolding count_at
returns-in-Err-Bad c = simp (sym c.rest_at.ensures, sym c.take_unsigned.ensures, c.in-Err-Bad.is, c.in-Err-Bad.field-0-is)
