-- `cabi::row_when_ready` meets its contract: the step of a ready state is the row written (`row_written`, `row_refused`).
use native.Mathlib.Omega.{arith}
use Rattle.cabi.proofs.ReadyLaws.{ready_small, ready-fits, row_written, row_refused}
use Rattle.cabi.proofs.row_when_ready.Goals as goal

pub overflow_cast-family : goal.overflow_cast-family
overflow_cast-family c = omega (arith, ready_small c.requires)

pub overflow_add-grown : goal.overflow_add-grown
overflow_add-grown c =
    let a = c.args in
    let fits = ready-fits a.state.now a.row.now a.pool.now a.body.now c.write_by.ensures c.in-Ok.is (omega arith) in
    omega arith

pub returns-in-Ok : goal.returns-in-Ok
returns-in-Ok c =
    row_written _ _ _ c.requires c.write_by.ensures c.in-Ok.is

pub returns-in-Err : goal.returns-in-Err
returns-in-Err c =
    row_refused _ _ _ c.requires c.write_by.ensures c.in-Err.is c.reply_to.ensures
