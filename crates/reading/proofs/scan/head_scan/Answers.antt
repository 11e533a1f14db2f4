-- `reading::scan::head_scan` meets its contract: the tests on the first byte are those of `head_scan`, and a name behind it lies inside
-- the input (`string-near`).
use Prim.Native.Nat.{◌^◌}
use native.Mathlib.Omega.{arith}
use mathlib.Core.Path.{sym, ◌∙◌}
use borrow.Author.Tests.{le-leb, lt-leb, eq-eqb, ne_eqb}
use Rattle.reading.specs.Scan.{head_scan}
use Rattle.reading.proofs.ScanLaws.{inside, string-near}
use Rattle.reading.proofs.scan.head_scan.Goals as goal

pub returns-then-bs-le0 : goal.returns-then-bs-le0
unfolding head_scan
returns-then-bs-le0 c = c.cut_short.ensures ∙ simp (le-leb _ _ c.if-bs-le0.true)

pub returns-then-b-eq0 : goal.returns-then-b-eq0
unfolding head_scan
returns-then-b-eq0 c =
    c.string_at.ensures ∙ simp (
      lt-leb _ _ c.if-bs-le0.false,
      sym c.byte_at-b.ensures,
      eq-eqb _ _ c.if-b-eq0.true,
    )

pub and_count-requires : goal.and_count-requires
and_count-requires c =
    let bs = c.args.bs.now in
    (c.requires, rw c.string_at-then-b-eq2.ensures (inside (2 ^ 31) (string-near bs 1 0 (omega arith)) (omega arith)))

pub returns-then-b-eq2 : goal.returns-then-b-eq2
unfolding head_scan
returns-then-b-eq2 c =
    c.asked_at.ensures ∙ simp (
      lt-leb _ _ c.if-bs-le0.false,
      sym c.byte_at-b.ensures,
      ne_eqb _ _ c.if-b-eq0.false,
      eq-eqb _ _ c.if-b-eq2.true,
      sym c.grade_of.ensures,
      sym c.string_at-then-b-eq2.ensures,
      sym c.and_count.ensures,
    )

pub returns : goal.returns
unfolding head_scan
returns c =
    simp (
      lt-leb _ _ c.if-bs-le0.false,
      sym c.byte_at-b.ensures,
      ne_eqb _ _ c.if-b-eq0.false,
      ne_eqb _ _ c.if-b-eq2.false,
    )
