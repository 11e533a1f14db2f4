-- `resource_item` meets its contract: the ways out are `resource_first`, `resource_second` and `resource_both`; a representation has one
-- byte (`rep_there`), and a destructor stands in the input (`dtor_inside`). Assumes nothing.
use Prim.Native.Nat.{ℕ, ◌-◌}
use native.Mathlib.Omega.{arith}
use mathlib.Core.Path.{◌≡◌, sym, ap, ◌∙◌}
use mathlib.Core.List.{List}
use lib.ListN.{length, take, drop}
use Rattle.std.specs.Prelude.{Option}
use Rattle.numbers.specs.declared.leb.Number.{Number}
use Rattle.numbers.proofs.BytesLaws.{to_end}
use Rattle.fields.specs.declared.Field.TheVariants as field
use Rattle.reading.specs.declared.Pair.{Pair}
use Rattle.reading.specs.Seen.{one, pair}
use Rattle.items.proofs.StoreLaws.{dtor_inside, rep_there, resource_first, resource_second, resource_both}
use Rattle.items.proofs.resource.resource_item.Goals as goal

-- what is read of a part of the input, from a place on
rep_of : (g : ℕ) (input : List ℕ) {o : Option Number} → o ≡ one g field.Rep (take (length input - 1) (drop 1 input))
    → o ≡ one g field.Rep (drop 1 input)
rep_of g input e = e ∙ ap (λ (s : List ℕ). one g field.Rep s) (to_end input 1)

dtor_of : (g : ℕ) (input : List ℕ) {o : Option Pair} → o ≡ pair g field.OptionalIndex (take (length input - 2) (drop 2 input))
    → o ≡ pair g field.OptionalIndex (drop 2 input)
dtor_of g input e = e ∙ ap (λ (s : List ℕ). pair g field.OptionalIndex s) (to_end input 2)

pub returns-in_err-one : goal.returns-in_err-one
returns-in_err-one c = λ g k.
    let input = c.args.input.now in
    resource_first g input (rep_of g input (sym c.in_err-one.was ∙ c.rep.ensures g k)) c.from_residual.ensures

pub slice_bounds-destructor-count : goal.slice_bounds-destructor-count
slice_bounds-destructor-count c =
    let input = c.args.input.now in
    rep_there input (rep_of 1 input (sym c.in_ok-one.was ∙ c.rep.ensures 1 (omega arith)))

pub slice_bounds-destructor-start : goal.slice_bounds-destructor-start
slice_bounds-destructor-start c =
    let input = c.args.input.now in
    rep_there input (rep_of 1 input (sym c.in_ok-one.was ∙ c.rep.ensures 1 (omega arith)))

pub returns-in_err-two : goal.returns-in_err-two
returns-in_err-two c = λ g k.
    let input = c.args.input.now in
    resource_second g input (rep_of g input (sym c.in_ok-one.was ∙ c.rep.ensures g k))
    (dtor_of g input (sym c.in_err-two.was ∙ c.destructor.ensures g)) c.from_residual-in_err-two.ensures

pub overflow_add-result : goal.overflow_add-result
overflow_add-result c =
    let input = c.args.input.now in
    let inside = dtor_inside 1 input (dtor_of 1 input (sym c.in_ok-two.was ∙ c.destructor.ensures 1)) in
    omega (arith, inside, c.requires.1)

pub returns : goal.returns
returns c = λ g k.
    let input = c.args.input.now in
    resource_both g input (rep_of g input (sym c.in_ok-one.was ∙ c.rep.ensures g k))
    (dtor_of g input (sym c.in_ok-two.was ∙ c.destructor.ensures g))
