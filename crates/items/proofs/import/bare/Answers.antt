-- `imports::bare` meets its contract: a name behind its lead is right and ends inside the input (`bare_right`, `string_inside`), or not
-- (`bare_wrong`).
use native.Mathlib.Omega.{arith}
use mathlib.Core.Path.{sym, ◌∙◌}
use Rattle.items.proofs.NameLaws.{part-string, string_inside, string_start, bare_wrong, bare_right}
use Rattle.items.proofs.import.bare.Goals as goal

pub returns-in_err-n : goal.returns-in_err-n
returns-in_err-n c = λ g.
    let input = c.args.input.now in
    bare_wrong g input c.requires.0 (sym c.in_err-n.was ∙ part-string input 1 c.name.ensures) c.requires.2 _ c.from_residual.ensures

pub overflow_add-took : goal.overflow_add-took
overflow_add-took c =
    let input = c.args.input.now in
    let n = sym c.in_ok-n.was ∙ part-string input 1 c.name.ensures in
    omega (arith, string_inside input 1 _ n c.requires.0, c.requires.1)

pub overflow_add-result : goal.overflow_add-result
overflow_add-result c =
    let input = c.args.input.now in
    let n = sym c.in_ok-n.was ∙ part-string input 1 c.name.ensures in
    omega (arith, string_start input 1 _ n)

pub returns : goal.returns
returns c = λ g.
    let input = c.args.input.now in
    let n = sym c.in_ok-n.was ∙ part-string input 1 c.name.ensures in
    bare_right g input c.requires.0 _ n c.requires.2 _ _ c.no_slot-absent.ensures
