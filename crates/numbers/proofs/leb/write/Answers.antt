-- `numbers::write` meets its contract. The loop's invariant: what is still to be written, put where the loop stands, leaves what the whole
-- leaves. Assumes nothing.
use Rattle.std.proofs.Common.{◌≡◌, suc, [], ◌∷◌, length, refl, ap, add-one, arith, length-set}
use Rattle.numbers.specs.Leb.{bytes_of}
use Rattle.numbers.proofs.Shortest.{Round, round, bytes-last}
use Rattle.numbers.proofs.leb.write.Goals as goal
use Rattle.numbers.proofs.leb.write.Goals.{After-loop-rest, In-loop-rest}

pub loop-rest-init : goal.loop-rest-init
loop-rest-init c = record { k = 4; fits = omega arith; goal = refl; sum = refl; same = refl }

-- a round, and the last byte
this_round : (c : In-loop-rest) → Round c.args.end c.loop-rest.invariant.k c.loop-rest.rest
this_round c = round c.args.end c.loop-rest.invariant.k c.loop-rest.rest c.loop-rest-test.true c.loop-rest.invariant.fits

last : (c : After-loop-rest)
    → bytes_of c.args.end (suc c.loop-rest.invariant.k) c.loop-rest.rest ≡ c.loop-rest.rest ∷ []
last c = bytes-last c.args.end c.loop-rest.invariant.k c.loop-rest.rest c.loop-rest-test.false

pub overflow_add-out : goal.overflow_add-out
overflow_add-out c = omega arith

pub overflow_cast-out : goal.overflow_cast-out
overflow_cast-out c = omega arith

pub bounds-out-i : goal.bounds-out-i
bounds-out-i c = omega (arith, ap length (this_round (goal.at.bounds-out-i c).In-loop-rest).step)

pub overflow_add-i : goal.overflow_add-i
overflow_add-i c = omega (arith, ap length (this_round (goal.at.overflow_add-i c).In-loop-rest).step)

pub loop-rest-smaller : goal.loop-rest-smaller
loop-rest-smaller c = omega arith

pub loop-rest-preserved : goal.loop-rest-preserved
loop-rest-preserved c =
    let t = this_round (goal.at.loop-rest-preserved c).In-loop-rest in
    record {
      k = t.due;
      fits = t.fits;
      goal = rw add-one (rw t.step at c.loop-rest.invariant.goal);
      sum = omega (arith, ap length t.step);
      same = simp length-set c.loop-rest.invariant.same;
    }

pub overflow_cast-out-2 : goal.overflow_cast-out-2
overflow_cast-out-2 c = omega arith

pub bounds-out-i-2 : goal.bounds-out-i-2
bounds-out-i-2 c = omega (arith, ap length (last (goal.at.bounds-out-i-2 c).After-loop-rest))

pub shape_of-out : goal.shape_of-out
shape_of-out c = simp length-set c.loop-rest.invariant.same

pub returns : goal.returns
returns c =
    rw (last (goal.at.returns c).After-loop-rest) at c.loop-rest.invariant.goal
