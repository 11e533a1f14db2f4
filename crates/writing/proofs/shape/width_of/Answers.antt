-- `writing::shape::width_of` meets its contract: `width_counted` and `width_plain` say what the sums come to, and no field has more than
-- 11 words, so none wraps.
use Prim.Native.Nat.{ℕ, ◌+◌, ◌*◌, ◌^◌, ◌≤◌}
use native.Mathlib.Nat.{mul-le-mul}
use native.Mathlib.Omega.{arith}
use mathlib.Core.Path.{◌≡◌}
use Rattle.fields.specs.Shape.{opening, widths}
use Rattle.fields.proofs.WidthLaws.{wide_at_most, widths-small}
use Rattle.writing.proofs.JudgedLaws.{width_opening, width_counted, width_plain}
use Rattle.writing.proofs.shape.width_of.Goals as goal
use Rattle.writing.proofs.shape.width_of.Goals.{After-wide_of-4, After-wide_of-then-s-2}

-- where the count stands: behind the opening
abbrev at : After-wide_of-4 → ℕ
at c =
    c.args.start + c.wide_of.result + c.wide_of-2.result + c.wide_of-3.result
    + c.wide_of-4.result

place : (c : After-wide_of-4) → let a = c.args in at c ≡ a.start + widths (opening a.s)
place c =
    let a = c.args in
    width_opening a.s a.start _ _ _ _ c.wide_of.ensures c.wide_of-2.ensures c.wide_of-3.ensures
    c.wide_of-4.ensures

near : (c : After-wide_of-4) → at c ≤ 16428
near c = omega (arith, place c, widths-small (opening c.args.s))

-- as many groups as a word can say still have few words
groups-small : (c : After-wide_of-then-s-2)
    → (c.wide_of-then-s.result + c.wide_of-then-s-2.result ≤ 22)
    × (c.word_at-n.result * (c.wide_of-then-s.result + c.wide_of-then-s-2.result) ≤ 2 ^ 32 * 22)
groups-small c =
    let one = wide_at_most _ _ c.wide_of-then-s.ensures in
    let two = wide_at_most _ _ c.wide_of-then-s-2.ensures in
    (omega arith, mul-le-mul {n₂ = 2 ^ 32} {m₂ = 22} (omega arith) (omega arith))

pub overflow_add-at : goal.overflow_add-at
overflow_add-at c = let lead = wide_at_most _ _ c.wide_of.ensures in omega arith

pub overflow_add-at-2 : goal.overflow_add-at-2
overflow_add-at-2 c =
    let lead = wide_at_most _ _ c.wide_of.ensures in
    let zero = wide_at_most _ _ c.wide_of-2.ensures in
    omega arith

pub overflow_add-at-3 : goal.overflow_add-at-3
overflow_add-at-3 c =
    let lead = wide_at_most _ _ c.wide_of.ensures in
    let zero = wide_at_most _ _ c.wide_of-2.ensures in
    let first = wide_at_most _ _ c.wide_of-3.ensures in
    omega arith

pub overflow_add-at-4 : goal.overflow_add-at-4
overflow_add-at-4 c = omega (arith, near (goal.at.overflow_add-at-4 c).After-wide_of-4)

pub overflow_add-result : goal.overflow_add-result
overflow_add-result c = omega (arith, near (goal.at.overflow_add-result c).After-wide_of-4)

pub overflow_add-result-then-s : goal.overflow_add-result-then-s
overflow_add-result-then-s c = omega (arith, groups-small (goal.at.overflow_add-result-then-s c).After-wide_of-then-s-2)

pub overflow_mul-result : goal.overflow_mul-result
overflow_mul-result c = omega (arith, groups-small (goal.at.overflow_mul-result c).After-wide_of-then-s-2)

pub overflow_add-result-then-s-2 : goal.overflow_add-result-then-s-2
overflow_add-result-then-s-2 c = omega (arith, groups-small (goal.at.overflow_add-result-then-s-2 c).After-wide_of-then-s-2, near (goal.at.overflow_add-result-then-s-2 c).After-wide_of-4)

pub overflow_add-result-then-s-3 : goal.overflow_add-result-then-s-3
overflow_add-result-then-s-3 c =
    let last = wide_at_most _ _ c.wide_of-then-s-3.ensures in
    omega (arith, groups-small (goal.at.overflow_add-result-then-s-3 c).After-wide_of-then-s-2, near (goal.at.overflow_add-result-then-s-3 c).After-wide_of-4)

pub returns-then-s : goal.returns-then-s
returns-then-s c =
    let a = c.args in
    width_counted a.s a.row.now a.start _ (place (goal.at.returns-then-s c).After-wide_of-4) _ c.wide_of-then-s-3.ensures c.if-s.true _ c.word_at-n.ensures _ _
    c.wide_of-then-s.ensures c.wide_of-then-s-2.ensures

pub overflow_add-result-2 : goal.overflow_add-result-2
overflow_add-result-2 c = let last = wide_at_most _ _ c.wide_of-5.ensures in omega (arith, near (goal.at.overflow_add-result-2 c).After-wide_of-4)

pub returns : goal.returns
returns c =
    let a = c.args in
    width_plain a.s a.row.now a.start _ (place (goal.at.returns c).After-wide_of-4) _ c.wide_of-5.ensures c.if-s.false
