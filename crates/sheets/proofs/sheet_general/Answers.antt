-- `sheet_general` meets its contract: for each way out, what the rows come to there.
use Prim.Native.Nat.{ℕ, ◌≤◌}
use native.Mathlib.Omega.{arith}
use mathlib.Core.Path.{◌≡◌, sym, ap, ◌∙◌, subst}
use Rattle.fields.proofs.OutcomeLaws.{passed-on}
use Rattle.fields.specs.Leaf.{Fine}
use Rattle.sheets.specs.Sheet.{left}
use Rattle.sheets.specs.inside.Steps.{Passed}
use Rattle.sheets.proofs.FinishLaws.{words_refused, few, words_cramped, words_finished}
use Rattle.sheets.proofs.sheet_general.Goals as goal
use Rattle.sheets.proofs.sheet_general.Goals.{After-try_rows}

-- rows that are all taken are few, and so are their bytes
small : (c : After-try_rows) {r used : ℕ} → c.try_rows.result ≡ Fine r used → (r ≤ 16384) × (used ≤ 4294967290)
small c e =
    few c.requires _ c.args.body.now c.args.out.now (sym e ∙ c.try_rows.ensures)

pub overflow_cast-rows : goal.overflow_cast-rows
overflow_cast-rows c = omega (arith, small (goal.at.overflow_cast-rows c).After-try_rows c.in_ok-rows.was)

pub section_size-requires : goal.section_size-requires
section_size-requires c = (small (goal.at.section_size-requires c).After-try_rows c.in_ok-rows.was).1

pub returns-then-out-section_size : goal.returns-then-out-section_size
returns-then-out-section_size c =
    words_cramped c.requires _ _ c.args.out.now (sym c.in_ok-rows.was ∙ c.try_rows.ensures) (omega arith)

pub write_rows-requires-clause-in_rows : goal.write_rows-requires-clause-in_rows
write_rows-requires-clause-in_rows c =
    let passed = sym c.in_ok-rows.was ∙ c.try_rows.ensures in
    c.requires.whole

pub write_rows-requires-clause-passed : goal.write_rows-requires-clause-passed
write_rows-requires-clause-passed c =
    let passed = sym c.in_ok-rows.was ∙ c.try_rows.ensures in
    subst Passed passed tt

pub overflow_cast-rows-2 : goal.overflow_cast-rows-2
overflow_cast-rows-2 c =
    omega (arith, small (goal.at.overflow_cast-rows-2 c).After-try_rows c.in_ok-rows.was)

pub returns : goal.returns
returns c =
    words_finished c.requires _ _ c.args.out.now (sym c.in_ok-rows.was ∙ c.try_rows.ensures)
    (omega arith) c.write_rows.ensures c.close.ensures

pub returns-in_err-rows : goal.returns-in_err-rows
returns-in_err-rows c =
    ap (λ r. left r c.args.body.now c.args.out.now) (passed-on _ c.from_residual.ensures)
    ∙ words_refused c.requires _ _ c.args.out.now (sym c.in_err-rows.was ∙ c.try_rows.ensures)
