use Rattle.std.proofs.Common.{rules, tests, eqb}
use Rattle.std.proofs.lemmas.Iterator.Consumers.{nth_from_yields_List, YieldsList-at}
use Rattle.std.proofs.lemmas.Iterator.Adapters.{YieldsList-from_skip}
use Rattle.std.proofs.lemmas.Iterator.Splits.{YieldsList-from_slice_split}
use Rattle.telling.proofs.NumeralLaws.{number-at}
use Rattle.telling.proofs.numerals.number_at.Goals as goal

pub returns : goal.returns
returns c =
    let n =
    nth_from_yields_List
    _
    _
    _
    c.nth.ensures.ran
    (YieldsList-from_skip
    1
    (YieldsList-at
    c.skip.ensures.source
    (YieldsList-from_slice_split
    _
    (λ b. eqb b 32)
    c.args.line.now
    c.split.ensures.rest
    c.split.ensures.done
    c.split.ensures.closure
    (λ x b q k. search (rules, tests))))
    c.skip.ensures.count) in
    let e = number-at c.args.line.now c.args.place c.nth.result n in
    search (rules, tests)
