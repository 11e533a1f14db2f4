-- `read_lift` meets its contract: the index and the count (`Opened`), the options, the type, and the words stored (`CountLaws`).
use native.Mathlib.Omega.{arith}
use mathlib.Core.Path.{sym, ◌∙◌}
use lib.ListN.{length-set}
use Rattle.fields.specs.declared.Field.TheVariants as field
use Rattle.reading.proofs.StepLaws.{end_inside}
use Rattle.canonical_items.proofs.ShortLaws.{seen_at, seen_not, opened, not_opened}
use Rattle.canonical_items.proofs.CountLaws.{options, tried-wrong, room_fits, unopened, options_wrong, lift_open, lift_cramped, lift_done}
use Rattle.canonical_items.proofs.options.read_lift.Goals as goal

pub returns-in_err-start : goal.returns-in_err-start
returns-in_err-start c =
    let a = c.args in
    tried-wrong _ _ a.row.now
    (unopened 1 a.grade 0 (field.Fixed 0) field.Index a.input.now a.from c.requires.2 tt (not_opened a.input.now a.from c.opens.ensures c.in_err-start.was))
    c.from_residual.ensures

pub returns-in_err-end : goal.returns-in_err-end
returns-in_err-end c =
    let a = c.args in
    tried-wrong _ _ a.row.now
    (options_wrong 1 a.grade 0 (field.Fixed 0) field.Index a.input.now a.from c.requires.2 tt c.in_ok-start.start
    (opened a.input.now a.from c.opens.ensures c.in_ok-start.was) (sym c.options_end.ensures ∙ c.in_err-end.was)) c.from_residual-in_err-end.ensures

pub slice_bounds-seen_unsigned-count : goal.slice_bounds-seen_unsigned-count
slice_bounds-seen_unsigned-count c =
    let a = c.args in
    let r = c.in_ok-start.start in
    end_inside a.grade a.input.now (options r.count) r.next 0 c.in_ok-end.end (opened a.input.now a.from c.opens.ensures c.in_ok-start.was).inside
    (sym c.options_end.ensures ∙ c.in_ok-end.was)

pub slice_bounds-seen_unsigned-start : goal.slice_bounds-seen_unsigned-start
slice_bounds-seen_unsigned-start c =
    let a = c.args in
    let r = c.in_ok-start.start in
    end_inside a.grade a.input.now (options r.count) r.next 0 c.in_ok-end.end (opened a.input.now a.from c.opens.ensures c.in_ok-start.was).inside
    (sym c.options_end.ensures ∙ c.in_ok-end.was)

pub returns-in_err-last : goal.returns-in_err-last
returns-in_err-last c =
    let a = c.args in
    lift_open a.grade a.input.now a.from c.requires.2 c.in_ok-start.start (opened a.input.now a.from c.opens.ensures c.in_ok-start.was)
    c.in_ok-end.end (sym c.options_end.ensures ∙ c.in_ok-end.was)
    (seen_not a.input.now c.in_ok-end.end (sym c.in_err-last.was ∙ c.seen_unsigned.ensures)) _ a.row.now c.from_residual-in_err-last.ensures

pub bounds-row-0 : goal.bounds-row-0
bounds-row-0 c = let room = room_fits _ _ (sym c.has_room.ensures ∙ c.if-has_room.true) in omega (arith, room.1)

pub bounds-row-1 : goal.bounds-row-1
bounds-row-1 c = let room = room_fits _ _ (sym c.has_room.ensures ∙ c.if-has_room.true) in simp length-set (omega (arith, room.1))

pub bounds-row-2 : goal.bounds-row-2
bounds-row-2 c = let room = room_fits _ _ (sym c.has_room.ensures ∙ c.if-has_room.true) in simp length-set (omega (arith, room.1))

pub bounds-row-3 : goal.bounds-row-3
bounds-row-3 c = let room = room_fits _ _ (sym c.has_room.ensures ∙ c.if-has_room.true) in simp length-set (omega (arith, room.1))

pub fill_options-requires-clause-input_len_bound : goal.fill_options-requires-clause-input_len_bound
fill_options-requires-clause-input_len_bound c =
    let a = c.args in
    let room = room_fits _ _ (sym c.has_room.ensures ∙ c.if-has_room.true) in
    (c.requires.0, (opened a.input.now a.from c.opens.ensures c.in_ok-start.was).inside, simp length-set (omega (arith, room.1)))

pub overflow_add-result : goal.overflow_add-result
overflow_add-result c =
    let k = seen_at c.args.input.now c.in_ok-end.end (sym c.in_ok-last.was ∙ c.seen_unsigned.ensures) in
    omega (arith, k.2, c.requires.0)

pub returns-then-has_room : goal.returns-then-has_room
returns-then-has_room c =
    let a = c.args in
    let k = seen_at a.input.now c.in_ok-end.end (sym c.in_ok-last.was ∙ c.seen_unsigned.ensures) in
    lift_done a.grade a.input.now a.from c.requires.2 c.in_ok-start.start (opened a.input.now a.from c.opens.ensures c.in_ok-start.was)
    c.in_ok-end.end (sym c.options_end.ensures ∙ c.in_ok-end.was) c.in_ok-last.last.value c.in_ok-last.last.took k.0 a.row.now _
    (sym c.has_room.ensures ∙ c.if-has_room.true) c.fill_options.ensures

pub returns : goal.returns
returns c =
    let a = c.args in
    let k = seen_at a.input.now c.in_ok-end.end (sym c.in_ok-last.was ∙ c.seen_unsigned.ensures) in
    lift_cramped a.grade a.input.now a.from c.requires.2 c.in_ok-start.start (opened a.input.now a.from c.opens.ensures c.in_ok-start.was)
    c.in_ok-end.end (sym c.options_end.ensures ∙ c.in_ok-end.was) c.in_ok-last.last.value c.in_ok-last.last.took k.0 a.row.now
    (sym c.has_room.ensures ∙ c.if-has_room.false)
