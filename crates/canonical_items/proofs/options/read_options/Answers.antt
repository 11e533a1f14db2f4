-- `read_options` meets its contract: the index and the count (`Opened`), the options, and the words stored (`CountLaws`).
use native.Mathlib.Omega.{arith}
use mathlib.Core.Path.{sym, ◌∙◌}
use lib.ListN.{length-set}
use Rattle.fields.specs.declared.Field.TheVariants as field
use Rattle.canonical_items.proofs.ShortLaws.{opened, not_opened}
use Rattle.canonical_items.proofs.CountLaws.{tried-wrong, room_fits, unopened, options_wrong, alone_cramped, alone_done}
use Rattle.canonical_items.proofs.options.read_options.Goals as goal

pub returns-in_err-start : goal.returns-in_err-start
returns-in_err-start c = λ lead b z begun.
    let a = c.args in
    tried-wrong _ _ a.row.now
    (unopened lead a.grade b z field.Nothing a.input.now a.from begun tt (not_opened a.input.now a.from c.opens.ensures c.in_err-start.was))
    c.from_residual.ensures

pub returns-in_err-end : goal.returns-in_err-end
returns-in_err-end c = λ lead b z begun.
    let a = c.args in
    tried-wrong _ _ a.row.now
    (options_wrong lead a.grade b z field.Nothing a.input.now a.from begun tt c.in_ok-start.start (opened a.input.now a.from c.opens.ensures c.in_ok-start.was)
    (sym c.options_end.ensures ∙ c.in_err-end.was)) c.from_residual-in_err-end.ensures

pub bounds-row-0 : goal.bounds-row-0
bounds-row-0 c = let room = room_fits _ _ (sym c.has_room.ensures ∙ c.if-has_room.true) in omega (arith, room.1)

pub bounds-row-1 : goal.bounds-row-1
bounds-row-1 c = let room = room_fits _ _ (sym c.has_room.ensures ∙ c.if-has_room.true) in simp length-set (omega (arith, room.1))

pub bounds-row-2 : goal.bounds-row-2
bounds-row-2 c = let room = room_fits _ _ (sym c.has_room.ensures ∙ c.if-has_room.true) in simp length-set (omega (arith, room.1))

pub fill_options-requires-clause-input_len_bound : goal.fill_options-requires-clause-input_len_bound
fill_options-requires-clause-input_len_bound c =
    let a = c.args in
    let room = room_fits _ _ (sym c.has_room.ensures ∙ c.if-has_room.true) in
    (c.requires.0, (opened a.input.now a.from c.opens.ensures c.in_ok-start.was).inside, simp length-set (omega (arith, room.1)))

pub returns-then-has_room : goal.returns-then-has_room
returns-then-has_room c = λ lead b z begun.
    let a = c.args in
    alone_done lead a.grade b z a.input.now a.from begun c.in_ok-start.start (opened a.input.now a.from c.opens.ensures c.in_ok-start.was)
    c.in_ok-end.end (sym c.options_end.ensures ∙ c.in_ok-end.was) a.kind a.row.now _ (sym c.has_room.ensures ∙ c.if-has_room.true)
    c.fill_options.ensures

pub returns : goal.returns
returns c = λ lead b z begun.
    let a = c.args in
    alone_cramped lead a.grade b z a.input.now a.from begun c.in_ok-start.start (opened a.input.now a.from c.opens.ensures c.in_ok-start.was)
    c.in_ok-end.end (sym c.options_end.ensures ∙ c.in_ok-end.was) a.kind a.row.now (sym c.has_room.ensures ∙ c.if-has_room.false)
