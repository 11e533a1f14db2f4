-- `numbers::short_signed` meets its contract: the ways out are `short-few`, `short-low`, `short_above` and `short_below` of
-- `proofs/SeenLaws.antt`. Assumes nothing.
use Rattle.std.specs.Prelude.{Some}
use Rattle.std.proofs.Common.{◌+◌, ◌/◌, ◌<◌, get_or, sym, ◌∙◌, arith}
use Rattle.numbers.specs.Seen.{number}
use Rattle.numbers.proofs.SeenLaws.{short-few, short-low, short_above, short_below}
use Rattle.numbers.proofs.leb.short_signed.Goals as goal
use Rattle.numbers.proofs.leb.short_signed.Goals.{After-shared_slice_known-3-1}

pub returns-then-input-lt3 : goal.returns-then-input-lt3
returns-then-input-lt3 c = sym (short-few c.args.input.now c.if-input-lt3.true)

pub returns-then-b-lt128 : goal.returns-then-b-lt128
returns-then-b-lt128 c =
    let s = c.args.input.now in
    sym (short-low s c.if-input-lt3.false c.if-b-lt128.true)

-- the bytes are bytes
first : (c : After-shared_slice_known-3-1) → get_or c.args.input.now 0 0 < 256
first c = omega (arith, c.type_inv.input 0)

second : (c : After-shared_slice_known-3-1) → get_or c.args.input.now 1 0 < 256
second c = omega (arith, c.type_inv.input 1)

pub overflow_cast-more : goal.overflow_cast-more
overflow_cast-more c = omega (arith, second (goal.at.overflow_cast-more c).After-shared_slice_known-3-1)

pub overflow_add-last : goal.overflow_add-last
overflow_add-last c = omega (arith, second (goal.at.overflow_add-last c).After-shared_slice_known-3-1)

pub bounds-input-more : goal.bounds-input-more
bounds-input-more c = omega (arith, second (goal.at.bounds-input-more c).After-shared_slice_known-3-1, c.if-input-lt3.false)

pub returns-then-last-ge64 : goal.returns-then-last-ge64
returns-then-last-ge64 c =
    short_above c.args.input.now c.if-input-lt3.false c.if-b-lt128.false (first (goal.at.returns-then-last-ge64 c).After-shared_slice_known-3-1) (second (goal.at.returns-then-last-ge64 c).After-shared_slice_known-3-1)
    c.if-last-ge64.true

pub overflow_add-result : goal.overflow_add-result
overflow_add-result c = omega (arith, second (goal.at.overflow_add-result c).After-shared_slice_known-3-1)

pub returns : goal.returns
returns c =
    let s = c.args.input.now in
    (λ i. Some (number (c.joined.ensures i) (2 + get_or s 1 0 / 128)))
    ∙ short_below s c.if-input-lt3.false c.if-b-lt128.false (first (goal.at.returns c).After-shared_slice_known-3-1) (second (goal.at.returns c).After-shared_slice_known-3-1) c.if-last-ge64.false
