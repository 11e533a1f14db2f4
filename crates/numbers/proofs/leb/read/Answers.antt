-- `numbers::read` meets its contract. The loop's invariant is `Begun` of `proofs/Reading.antt`, which has a law for each way out of a round.
-- Assumes nothing.
use Rattle.std.proofs.Common.{ℕ, ◌+◌, ◌-◌, ◌*◌, ◌^◌, ◌<◌, ◌≤◌, get_or, mul-le-mul_right, arith}
use Rattle.numbers.proofs.Reading.{begun, cut, past, wide, value, again, five, scale_bound}
use Rattle.numbers.proofs.leb.read.Goals as goal
use Rattle.numbers.proofs.leb.read.Goals.{In-loop-i}

-- in a round: the byte at i, its bound, and what is at most 128, scaled, with what the bytes before come to
abbrev b : In-loop-i → ℕ
b c = get_or c.args.input.now c.loop-i.i 0

scaled : (c : In-loop-i) (x : ℕ) → x ≤ 128 → c.loop-i.low + x * c.loop-i.scale < 2 ^ 36
scaled c x h =
    omega (arith, mul-le-mul_right c.loop-i.scale h, scale_bound c.loop-i.i c.loop-i-test.true)

pub loop-i-init : goal.loop-i-init
loop-i-init c = begun c.args.input.now c.args.end

pub returns-then-input-i : goal.returns-then-input-i
returns-then-input-i c = cut c.loop-i.invariant c.loop-i-test.true c.if-input-i.true

pub bounds-input-i : goal.bounds-input-i
bounds-input-i c = omega arith

pub overflow_cast-b : goal.overflow_cast-b
overflow_cast-b c = omega (arith, c.type_inv.input c.loop-i.i)

pub returns-then-end-b : goal.returns-then-end-b
returns-then-end-b c =
    past c.loop-i.invariant c.loop-i-test.true c.if-input-i.false c.if-b-lt128.true c.if-end-b.true

pub overflow_mul-value : goal.overflow_mul-value
overflow_mul-value c = omega (arith, scaled (goal.at.overflow_mul-value c).In-loop-i (b (goal.at.overflow_mul-value c).In-loop-i) (omega arith))

pub overflow_add-value : goal.overflow_add-value
overflow_add-value c = omega (arith, scaled (goal.at.overflow_add-value c).In-loop-i (b (goal.at.overflow_add-value c).In-loop-i) (omega arith))

pub returns-then-value-gt4294967295 : goal.returns-then-value-gt4294967295
returns-then-value-gt4294967295 c =
    wide c.loop-i.invariant c.loop-i-test.true c.if-input-i.false c.if-b-lt128.true c.if-end-b.false c.if-value-gt4294967295.true

pub overflow_cast-result : goal.overflow_cast-result
overflow_cast-result c = omega arith

pub overflow_add-result : goal.overflow_add-result
overflow_add-result c = omega arith

pub returns-then-b-lt128 : goal.returns-then-b-lt128
returns-then-b-lt128 c =
    value c.loop-i.invariant c.loop-i-test.true c.if-input-i.false c.if-b-lt128.true c.if-end-b.false c.if-value-gt4294967295.false

pub overflow_mul-low : goal.overflow_mul-low
overflow_mul-low c = omega (arith, scaled (goal.at.overflow_mul-low c).In-loop-i (b (goal.at.overflow_mul-low c).In-loop-i - 128) (omega (arith, c.type_inv.input c.loop-i.i)))

pub overflow_add-low : goal.overflow_add-low
overflow_add-low c = omega (arith, scaled (goal.at.overflow_add-low c).In-loop-i (b (goal.at.overflow_add-low c).In-loop-i - 128) (omega (arith, c.type_inv.input c.loop-i.i)))

pub overflow_mul-scale : goal.overflow_mul-scale
overflow_mul-scale c = omega (arith, scale_bound c.loop-i.i c.loop-i-test.true)

pub loop-i-preserved : goal.loop-i-preserved
loop-i-preserved c =
    again c.loop-i.invariant c.loop-i-test.true c.if-input-i.false c.if-b-lt128.false (omega (arith, c.type_inv.input c.loop-i.i))

pub returns : goal.returns
returns c = five c.loop-i.invariant c.loop-i-test.false
