-- `write_line` meets its contract: a row that has a size is right (`line_room`), and put it is the row written.
use Rattle.fields.specs.declared.Shape.{Shape}
use Rattle.std.specs.Prelude.{Option}
use mathlib.Core.Path.{◌≡◌, sym, ap, ◌∙◌}
use Prim.Native.Nat.{ℕ}
use mathlib.Core.List.{List}
use Rattle.fields.specs.Answer.{Answer}
use Rattle.fields.specs.Answers.{left}
use Rattle.fields.proofs.OutcomeLaws.{passed-on}
use Rattle.writing.specs.Row.{measured_row}
use Rattle.canonicals.specs.inside.Class.{shape_for}
use Rattle.writing.proofs.RowLaws.{refused_answer}
use Rattle.canonicals.proofs.ClassLaws.{line_room, line_written, line_roomless}
use Rattle.canonicals.proofs.write_line.Goals as goal

-- what the row was measured as
measured : (row pool : List ℕ) {s t : Option Shape} {answer : Answer} → answer ≡ measured_row s row pool → s ≡ t → measured_row t row pool ≡ answer
measured row pool e f = sym (e ∙ ap (λ s. measured_row s row pool) f)

pub put_class-requires : goal.put_class-requires
put_class-requires c =
    let a = c.args in
    line_room a.class a.lead a.row.now a.pool.now a.out.now a.at
    (measured c.args.row.now c.args.pool.now c.measure_row.ensures c.line_of.ensures ∙ c.in_ok-size.was)
    c.fits.ensures c.if-fits.true

pub returns-then-fits : goal.returns-then-fits
returns-then-fits c =
    let a = c.args in
    line_written a.class a.lead a.row.now a.pool.now a.out.now a.at
    (measured c.args.row.now c.args.pool.now c.measure_row.ensures c.line_of.ensures
    ∙ c.in_ok-size.was) c.fits.ensures
    c.if-fits.true c.put_class.ensures

pub returns : goal.returns
returns c =
    let a = c.args in
    line_roomless a.class a.lead a.row.now a.pool.now a.out.now a.at
    (measured c.args.row.now c.args.pool.now c.measure_row.ensures c.line_of.ensures ∙ c.in_ok-size.was) c.fits.ensures c.if-fits.false

-- the walk refused it
pub returns-in_err-size : goal.returns-in_err-size
returns-in_err-size c =
    let a = c.args in
    ap (λ r. left r a.out.now) (passed-on _ c.from_residual.ensures)
    ∙ refused_answer (shape_for a.class a.lead) a.row.now a.pool.now
    (measured a.row.now a.pool.now c.measure_row.ensures c.line_of.ensures ∙ c.in_err-size.was) a.out.now a.at
