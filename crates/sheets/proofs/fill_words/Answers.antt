-- `fill_words` meets its contract. The loop's invariant: the first i words stand at the front of the row.
use native.Mathlib.Omega.{arith}
use mathlib.Core.Path.{◌≡◌, refl, ap, ◌∙◌}
use lib.ListN.{length}
use lib.Seq.{sets, length-sets}
use Rattle.sheets.specs.Frame.{words}
use Rattle.sheets.proofs.FrameLaws.{laid_more}
use Rattle.sheets.proofs.fill_words.Goals as goal

pub loop-i-init : goal.loop-i-init
unfolding words
loop-i-init c = (omega arith, refl)

pub overflow_mul-i : goal.overflow_mul-i
overflow_mul-i c = omega arith

pub overflow_add-at : goal.overflow_add-at
overflow_add-at c = omega arith

pub number_at-requires : goal.number_at-requires
number_at-requires c = omega arith

pub offset_bounds-row-i : goal.offset_bounds-row-i
offset_bounds-row-i c = omega arith

pub bounds-row-i : goal.bounds-row-i
bounds-row-i c =
    let same : length c.loop-i.row ≡ length c.args.row.now = ap length c.loop-i.invariant.1 ∙ simp length-sets in
    omega arith

pub loop-i-preserved : goal.loop-i-preserved
loop-i-preserved c =
    let a = c.args in
    (omega arith, laid_more a.input.now a.row.now c.loop-i.row a.at c.loop-i.i _ c.loop-i.invariant.1 c.number_at.ensures)

pub shape_of-row : goal.shape_of-row
shape_of-row c = ap length c.loop-i.invariant.1 ∙ simp length-sets

pub returns : goal.returns
returns c =
    let a = c.args in
    let all : c.loop-i.i ≡ a.n = omega arith in
    c.loop-i.invariant.1 ∙ ap (λ k. sets a.row.now 0 (words a.input.now a.at k)) all
