-- `imports::optioned` meets its contract: behind a name that is right stands a count of 1 to 3 that is seen, and behind it the options; the
-- ways out are those of `optioned_wrong`, `count_none`, `count_zero`, `count_over` and `count_right`.
use Prim.Native.Nat.{◌+◌}
use native.Mathlib.Omega.{arith}
use mathlib.Core.Path.{sym, ◌∙◌}
use Rattle.items.proofs.NameLaws.{part-string, part-number, string_inside, string_start, optioned_wrong, count_none, count_zero, count_over, count_inside, count_right}
use Rattle.items.proofs.import.optioned.Goals as goal

pub returns-in_err-n : goal.returns-in_err-n
returns-in_err-n c =
    let input = c.args.input.now in
    optioned_wrong 3 input c.requires.0 (sym c.in_err-n.was ∙ part-string input 1 c.name.ensures) c.requires.2 (omega arith) _
    c.from_residual.ensures

pub overflow_add-at : goal.overflow_add-at
overflow_add-at c =
    let input = c.args.input.now in
    let n = sym c.in_ok-n.was ∙ part-string input 1 c.name.ensures in
    omega (arith, string_inside input 1 _ n c.requires.0, c.requires.1)

pub slice_bounds-seen_unsigned-count : goal.slice_bounds-seen_unsigned-count
slice_bounds-seen_unsigned-count c =
    let input = c.args.input.now in
    let n = sym c.in_ok-n.was ∙ part-string input 1 c.name.ensures in
    omega (arith, string_inside input 1 _ n c.requires.0)

pub slice_bounds-seen_unsigned-start : goal.slice_bounds-seen_unsigned-start
slice_bounds-seen_unsigned-start c =
    let input = c.args.input.now in
    let n = sym c.in_ok-n.was ∙ part-string input 1 c.name.ensures in
    omega (arith, string_inside input 1 _ n c.requires.0)

pub returns-in_err-count : goal.returns-in_err-count
returns-in_err-count c =
    let input = c.args.input.now in
    let n = sym c.in_ok-n.was ∙ part-string input 1 c.name.ensures in
    count_none 3 input c.requires.0 _ n c.requires.2 (omega arith)
    (sym c.in_err-count.was ∙ part-number input (1 + c.in_ok-n.n.took) c.seen_unsigned.ensures) _ c.from_residual-in_err-count.ensures

pub returns-then-count-eq0 : goal.returns-then-count-eq0
returns-then-count-eq0 c =
    let input = c.args.input.now in
    let n = sym c.in_ok-n.was ∙ part-string input 1 c.name.ensures in
    let e = sym c.in_ok-count.was ∙ part-number input (1 + c.in_ok-n.n.took) c.seen_unsigned.ensures in
    count_zero 3 input c.requires.0 _ n c.requires.2 (omega arith) _ e c.if-count-eq0.true

pub returns-then-count-gt3 : goal.returns-then-count-gt3
returns-then-count-gt3 c =
    let input = c.args.input.now in
    let n = sym c.in_ok-n.was ∙ part-string input 1 c.name.ensures in
    let e = sym c.in_ok-count.was ∙ part-number input (1 + c.in_ok-n.n.took) c.seen_unsigned.ensures in
    count_over 3 input c.requires.0 _ n c.requires.2 (omega arith) _ e c.if-count-gt3.true

pub overflow_add-at-2 : goal.overflow_add-at-2
overflow_add-at-2 c =
    let input = c.args.input.now in
    let n = sym c.in_ok-n.was ∙ part-string input 1 c.name.ensures in
    let e = sym c.in_ok-count.was ∙ part-number input (1 + c.in_ok-n.n.took) c.seen_unsigned.ensures in
    omega (arith, count_inside 3 input c.requires.0 _ n c.requires.2 (omega arith) _ e, c.requires.1)

pub options-requires : goal.options-requires
options-requires c =
    let input = c.args.input.now in
    let n = sym c.in_ok-n.was ∙ part-string input 1 c.name.ensures in
    let e = sym c.in_ok-count.was ∙ part-number input (1 + c.in_ok-n.n.took) c.seen_unsigned.ensures in (
      c.requires.1,
      omega arith,
      count_inside 3 input c.requires.0 _ n c.requires.2 (omega arith) _ e,
      string_start input 1 _ n,
    )

pub returns : goal.returns
returns c =
    let input = c.args.input.now in
    let n = sym c.in_ok-n.was ∙ part-string input 1 c.name.ensures in
    let e = sym c.in_ok-count.was ∙ part-number input (1 + c.in_ok-n.n.took) c.seen_unsigned.ensures in
    count_right 3 input c.requires.0 _ n c.requires.2 (omega arith) _ e c.if-count-eq0.false c.if-count-gt3.false c.options.result
    c.options.ensures
