use Rattle.std.proofs.Common.{rules, tests, eqb}
use Rattle.std.proofs.lemmas.Iterator.{YieldsList-from_slice}
use Rattle.std.proofs.lemmas.Iterator.Search.{position_from_yields_List}
use Rattle.telling.proofs.LineLaws.{next_position}
use Rattle.telling.proofs.lines.next_of.Goals as goal

pub returns : goal.returns
returns c =
    let p = position_from_yields_List (λ b. eqb b c.args.byte) _ _ _ c.position.ensures.ran (YieldsList-from_slice c.after-rest.result.now cc) (λ x b q k. search (rules, tests)) in
    rw (c.unwrap_or.ensures, p, next_position c.args.byte c.after-rest.result.now, c.after-rest.ensures)
