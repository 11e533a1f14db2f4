-- `numbers::seen_signed` meets its contract: the first byte tells whether there is one, whether it is the last, and whether it may be
-- (`take_none`, `take-low`, `take_past`); any other number is taken. Assumes nothing.
use Rattle.std.proofs.Common.{sym, ap, ◌∙◌, arith}
use Rattle.numbers.specs.Integers.{s33}
use Rattle.numbers.specs.Leb.{take_signed}
use Rattle.numbers.specs.Seen.{seen}
use Rattle.numbers.proofs.SeenLaws.{seen_value, seen-cut, seen_bad, take_none, take-low, take_past}
use Rattle.numbers.proofs.leb.seen_signed.Goals as goal

pub returns-then-input-eq0 : goal.returns-then-input-eq0
returns-then-input-eq0 c =
    let s = c.args.input.now in
    sym (seen-cut (take_signed s) (take_none 64 s c.if-input-eq0.true))

pub returns-then-b-lt64 : goal.returns-then-b-lt64
returns-then-b-lt64 c =
    let s = c.args.input.now in
    sym (seen_value (take_signed s) _ _ (take-low s33 s (omega arith) c.if-b-lt64.true))

pub returns-then-b-lt128 : goal.returns-then-b-lt128
returns-then-b-lt128 c =
    let s = c.args.input.now in
    sym (seen_bad (take_signed s) (take_past s33 s c.if-b-lt64.false c.if-b-lt128.true))

pub returns : goal.returns
returns c = c.ok.ensures.value ∙ ap seen c.take_signed.ensures
