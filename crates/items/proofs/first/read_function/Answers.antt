-- `read_function` meets its contract: the count that is seen, as many parameters, a result, and their words behind the first byte's.
use Prim.Native.Nat.{ℕ, ◌+◌, ◌≤◌}
use native.Mathlib.Omega.{arith}
use mathlib.Core.Path.{◌≡◌, sym, ap, ◌∙◌}
use mathlib.Core.List.{List, [], ◌∷◌}
use lib.ListN.{length, drop, set, length-set}
use Rattle.std.specs.Prelude.{Some}
use Rattle.numbers.specs.declared.leb.Number.{Number}
use Rattle.numbers.specs.Leb.{take_unsigned}
use Rattle.numbers.specs.Seen.{seen}
use Rattle.fields.specs.declared.Field.TheVariants as field
use Rattle.fields.specs.Shape.{repeated}
use Rattle.reading.specs.inside.Steps.{scans, end_of}
use Rattle.reading.specs.inside.Try.{Tried}
use Rattle.reading.specs.inside.Tried.{left_tried}
use Rattle.reading.proofs.StepLaws.{end_inside}
use Rattle.items.proofs.CountLaws.{count_there, count_seen, count_inside, function_cut, function_wrong, function_open, function_cramped, function_done, result_there, result_inside, room_fits}
use Rattle.items.proofs.first.read_function.Goals as goal

-- the parameters end inside the input
inside : (g : ℕ) (input : List ℕ) {count : Number} {end : ℕ} → Some count ≡ seen (take_unsigned (drop 1 input))
    → Some end ≡ end_of (scans g input (repeated count.value (field.Name ∷ field.Value ∷ [])) (1 + count.took) 0) → end ≤ length input
inside g input {count} {end} is ended =
    end_inside g input (repeated count.value (field.Name ∷ field.Value ∷ [])) (1 + count.took) 0 end (count_inside g input count is) (sym ended)

pub returns-in_err-count : goal.returns-in_err-count
returns-in_err-count c =
    let a = c.args in
    ap (λ (t : Tried). left_tried t a.row.now) c.from_residual.ensures
    ∙ function_cut a.grade a.a a.input.now c.requires.input_value.0 c.requires.input_value.1 a.row.now
    (count_there a.input.now c.in_err-count.was c.seen_unsigned.ensures)

pub overflow_add-from : goal.overflow_add-from
overflow_add-from c =
    let a = c.args in
    let k = count_seen a.grade a.input.now _ (count_there a.input.now c.in_ok-count.was c.seen_unsigned.ensures) in
    omega (arith, k.2)

pub fields_end-requires : goal.fields_end-requires
fields_end-requires c =
    let a = c.args in
    (c.requires.input_nonzero.1, omega arith, count_inside a.grade a.input.now _ (count_there a.input.now c.in_ok-count.was c.seen_unsigned.ensures))

pub returns-in_err-end : goal.returns-in_err-end
returns-in_err-end c =
    let a = c.args in
    ap (λ (t : Tried). left_tried t a.row.now) c.from_residual-in_err-end.ensures
    ∙ function_wrong a.grade a.a a.input.now c.requires.input_value.0 c.requires.input_value.1 _
    (count_there a.input.now c.in_ok-count.was c.seen_unsigned.ensures) a.row.now (sym c.in_err-end.was ∙ c.fields_end.ensures)

pub slice_bounds-result-count : goal.slice_bounds-result-count
slice_bounds-result-count c =
    let a = c.args in
    inside a.grade a.input.now (count_there a.input.now c.in_ok-count.was c.seen_unsigned.ensures)
    (sym c.in_ok-end.was ∙ c.fields_end.ensures)

pub slice_bounds-result-start : goal.slice_bounds-result-start
slice_bounds-result-start c =
    let a = c.args in
    inside a.grade a.input.now (count_there a.input.now c.in_ok-count.was c.seen_unsigned.ensures)
    (sym c.in_ok-end.was ∙ c.fields_end.ensures)

pub returns-in_err-last : goal.returns-in_err-last
returns-in_err-last c =
    let a = c.args in
    ap (λ (t : Tried). left_tried t a.row.now) c.from_residual-in_err-last.ensures
    ∙ function_open a.grade a.a a.input.now c.requires.input_value.0 c.requires.input_value.1 _
    (count_there a.input.now c.in_ok-count.was c.seen_unsigned.ensures) _ (sym c.in_ok-end.was ∙ c.fields_end.ensures) a.row.now
    (result_there a.grade a.input.now c.in_ok-end.end c.in_err-last.was c.result.ensures)

pub returns-then-not-has_room : goal.returns-then-not-has_room
returns-then-not-has_room c =
    let a = c.args in
    function_cramped a.grade a.a a.input.now c.requires.input_value.0 c.requires.input_value.1 _
    (count_there a.input.now c.in_ok-count.was c.seen_unsigned.ensures) _ (sym c.in_ok-end.was ∙ c.fields_end.ensures) _
    (result_there a.grade a.input.now c.in_ok-end.end c.in_ok-last.was c.result.ensures) a.row.now (sym c.has_room.ensures ∙ c.if-not-has_room.true)

pub bounds-row-0 : goal.bounds-row-0
bounds-row-0 c =
    let room = room_fits _ _ (sym c.has_room.ensures ∙ c.if-not-has_room.false) in
    omega (arith, room.1)

pub bounds-row-1 : goal.bounds-row-1
bounds-row-1 c =
    let room = room_fits _ _ (sym c.has_room.ensures ∙ c.if-not-has_room.false) in
    simp length-set (omega (arith, room.1))

pub bounds-row-2 : goal.bounds-row-2
bounds-row-2 c =
    let room = room_fits _ _ (sym c.has_room.ensures ∙ c.if-not-has_room.false) in
    simp length-set (omega (arith, room.1))

pub fill_fields-requires-clause-input_len_bound : goal.fill_fields-requires-clause-input_len_bound
fill_fields-requires-clause-input_len_bound c =
    let a = c.args in
    let room = room_fits _ _ (sym c.has_room.ensures ∙ c.if-not-has_room.false) in (
      c.requires.input_nonzero.1,
      count_inside a.grade a.input.now _ (count_there a.input.now c.in_ok-count.was c.seen_unsigned.ensures),
      simp length-set (omega (arith, room.1)),
    )

pub bounds-row-n : goal.bounds-row-n
bounds-row-n c =
    let a = c.args in
    let room = room_fits _ _ (sym c.has_room.ensures ∙ c.if-not-has_room.false) in
    let kept = c.fill_fields.auto.row ∙ length-set (set (set a.row.now 0 15) 1 a.a) 2 c.in_ok-count.count.value
    ∙ length-set (set a.row.now 0 15) 1 a.a ∙ length-set a.row.now 0 15 in
    omega (arith, room.1, kept)

pub bounds-row-n-2 : goal.bounds-row-n-2
bounds-row-n-2 c =
    let a = c.args in
    let room = room_fits _ _ (sym c.has_room.ensures ∙ c.if-not-has_room.false) in
    let kept = c.fill_fields.auto.row ∙ length-set (set (set a.row.now 0 15) 1 a.a) 2 c.in_ok-count.count.value
    ∙ length-set (set a.row.now 0 15) 1 a.a ∙ length-set a.row.now 0 15 in
    simp length-set (omega (arith, room.1, kept))

pub overflow_add-result : goal.overflow_add-result
overflow_add-result c =
    let a = c.args in
    let l = result_inside a.grade a.input.now c.in_ok-end.end c.in_ok-last.last
    (result_there a.grade a.input.now c.in_ok-end.end c.in_ok-last.was c.result.ensures) in
    let i = inside a.grade a.input.now (count_there a.input.now c.in_ok-count.was c.seen_unsigned.ensures)
    (sym c.in_ok-end.was ∙ c.fields_end.ensures) in
    omega (arith, l, i, c.requires.input_nonzero.1)

pub returns : goal.returns
returns c =
    let a = c.args in
    function_done a.grade a.a a.input.now c.requires.input_value.0 c.requires.input_value.1 _
    (count_there a.input.now c.in_ok-count.was c.seen_unsigned.ensures) _ (sym c.in_ok-end.was ∙ c.fields_end.ensures) _
    (result_there a.grade a.input.now c.in_ok-end.end c.in_ok-last.was c.result.ensures) a.row.now _ (sym c.has_room.ensures ∙ c.if-not-has_room.false) c.fill_fields.ensures
