use Rattle.std.proofs.Common.{rules, tests, eqb, length-append, zero-add}
use Rattle.std.proofs.lemmas.List.{length-map, map-append}
use Rattle.std.proofs.lemmas.Iterator.Consumers.{YieldsList-at, YieldsList-end}
use Rattle.std.proofs.lemmas.Iterator.Adapters.{YieldsList-from_skip}
use Rattle.std.proofs.lemmas.Iterator.Splits.{YieldsList-from_slice_split}
use Rattle.telling.proofs.NumeralLaws.{sets-append, words-put}
use Rattle.telling.proofs.numerals.words_of.Goals as goal

pub loop-part-preserved : goal.loop-part-preserved
loop-part-preserved c = (
  simp (length-append, c.loop-part.invariant.0),
  rw (
    map-append,
    sets-append,
    ← c.loop-part.invariant.1,
    length-map,
    zero-add,
    ← c.loop-part.invariant.0,
    c.put_word.ensures,
    c.word_of.ensures,
    c.number_from.ensures,
  ),
)

pub returns : goal.returns
returns c =
    let l = c.loop-part in
    let n =
    YieldsList-end
    (YieldsList-at
    c.into_iter-part-iterator.ensures.into_iter_gives
    (YieldsList-from_skip
    1
    (YieldsList-at
    c.skip-part-items.ensures.source
    (YieldsList-from_slice_split
    _
    (λ b. eqb b 32)
    c.args.line.now
    c.split.ensures.rest
    c.split.ensures.done
    c.split.ensures.closure
    (λ x b q k. search (rules, tests))))
    c.skip-part-items.ensures.count))
    l.yielded
    l.part-iterator
    l.yielded_by
    c.next.result
    c.next.new.self
    c.in-None.is
    c.next.ensures.steps in
    rw (l.invariant.0, l.invariant.1) (words-put _ _ _ n.0)
