-- `numbers::seen_unsigned` meets its contract: one byte is told by the first (`take-low`), and any other number is taken. Assumes nothing.
use Rattle.std.proofs.Common.{sym, ap, ◌∙◌}
use Rattle.numbers.specs.Integers.{u32}
use Rattle.numbers.specs.Leb.{take_unsigned}
use Rattle.numbers.specs.Seen.{seen}
use Rattle.numbers.proofs.SeenLaws.{seen_value, take-low}
use Rattle.numbers.proofs.leb.seen_unsigned.Goals as goal

pub returns-then-b-lt128 : goal.returns-then-b-lt128
returns-then-b-lt128 c =
    let s = c.args.input.now in
    sym (seen_value (take_unsigned s) _ _ (take-low u32 s c.if-input-gt0.true c.if-b-lt128.true))

pub returns : goal.returns
returns c = c.ok.ensures.value ∙ ap seen c.take_unsigned.ensures
