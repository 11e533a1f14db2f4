-- `sheet` meets its contract: a sheet too long, one whose frame is broken, and one whose rows are tried.
use mathlib.Core.Path.{subst}
use borrow.Author.Tests.{lt-ltb, le-ltb}
use Rattle.sheets.specs.Sheet.{sheeted}
use Rattle.sheets.specs.inside.Steps.{Starts}
use Rattle.sheets.proofs.sheet.Goals as goal

pub returns-then-input-gt-SHEET_BYTES : goal.returns-then-input-gt-SHEET_BYTES
unfolding sheeted
returns-then-input-gt-SHEET_BYTES c = simp (lt-ltb _ _ c.if-input-gt-SHEET_BYTES.true)

pub sheet_sized-requires-clause-rows_at : goal.sheet_sized-requires-clause-rows_at
sheet_sized-requires-clause-rows_at c =
    let a = c.args in
    subst (λ x. Starts x a.input.now) c.in-Some.is c.rows_of.ensures

pub sheet_sized-requires-clause-input_len_bound : goal.sheet_sized-requires-clause-input_len_bound
sheet_sized-requires-clause-input_len_bound c = c.if-input-gt-SHEET_BYTES.false

pub returns-in-Some : goal.returns-in-Some
unfolding sheeted
returns-in-Some c = simp (le-ltb _ _ c.if-input-gt-SHEET_BYTES.false) c.sheet_sized.ensures

pub returns-in-None : goal.returns-in-None
unfolding sheeted
returns-in-None c =
    let a = c.args in
    let broken = subst (λ x. Starts x a.input.now) c.in-None.is c.rows_of.ensures in
    simp (le-ltb _ _ c.if-input-gt-SHEET_BYTES.false, broken)
