-- `put_option` meets its contract: by `indexed-wrote` and `bare_wrote`.
use native.Mathlib.Omega.{arith}
use mathlib.Core.Path.{sym, ◌∙◌}
use Rattle.writing.proofs.WroteLaws.{same_size}
use Rattle.canonicals.proofs.ClassLaws.{some_option, indexed-room, indexed-wrote, bare_wrote}
use Rattle.canonicals.proofs.straight.put_option.Goals as goal

pub bounds-out-to : goal.bounds-out-to
bounds-out-to c = omega (arith, c.requires.1, some_option c.args.k c.args.x)

pub overflow_add-result-then-is_indexed : goal.overflow_add-result-then-is_indexed
overflow_add-result-then-is_indexed c =
    let a = c.args in
    omega (arith, c.requires.1, c.unsigned_size.ensures, indexed-room a.k a.x (sym c.is_indexed.ensures ∙ c.if-is_indexed.true))

pub shape_of-out-then-is_indexed : goal.shape_of-out-then-is_indexed
shape_of-out-then-is_indexed c =
    let a = c.args in
    same_size (indexed-wrote a.k a.x (sym c.is_indexed.ensures ∙ c.if-is_indexed.true) {out = a.out.now} c.requires.1 c.put_unsigned.ensures c.unsigned_size.ensures)

pub returns-then-is_indexed : goal.returns-then-is_indexed
returns-then-is_indexed c =
    let a = c.args in
    indexed-wrote a.k a.x (sym c.is_indexed.ensures ∙ c.if-is_indexed.true) c.requires.1 c.put_unsigned.ensures c.unsigned_size.ensures

pub returns : goal.returns
returns c =
    let a = c.args in
    bare_wrote a.k a.x (sym c.is_indexed.ensures ∙ c.if-is_indexed.false)
