-- `write_one` meets its contract: a row that is taken is written whole.
use native.Mathlib.Omega.{arith}
use Rattle.sheets.proofs.SheetLaws.{row_inside, row_wrote, row_never}
use Rattle.sheets.proofs.write_one.Goals as goal

pub overflow_add-result : goal.overflow_add-result
overflow_add-result c =
    omega (arith, row_inside _ _ _ _ _ c.requires c.write_by.ensures c.in-Ok.is)

pub returns-in-Ok : goal.returns-in-Ok
returns-in-Ok c =
    row_wrote _ _ _ _ _ c.requires c.write_by.ensures c.in-Ok.is

pub returns-in-Err : goal.returns-in-Err
returns-in-Err c =
    absurd (row_never _ _ _ _ _ c.requires c.write_by.ensures c.in-Err.is)
