-- `instantiate` meets its contract: an index behind 00 (`instantiate_cut`), and what is counted behind it (`instantiate_as`).
use Prim.Native.Nat.{ℕ}
use native.Mathlib.Omega.{arith}
use mathlib.Core.Path.{◌≡◌, sym, ap, ◌∙◌}
use mathlib.Core.List.{List}
use lib.ListN.{drop}
use Rattle.std.specs.Prelude.{Some}
use Rattle.numbers.specs.Leb.{take_unsigned}
use Rattle.numbers.specs.Seen.{seen}
use Rattle.numbers.proofs.BytesLaws.{to_end}
use Rattle.reading.specs.inside.Try.{Tried}
use Rattle.reading.specs.inside.Tried.{left_tried}
use Rattle.instance_items.proofs.CountLaws.{count_seen, count_inside, instantiate_cut, instantiate_as}
use Rattle.instance_items.proofs.counted.instantiate.Goals as goal
use Rattle.instance_items.proofs.counted.instantiate.Goals.{In_ok-index}

-- the index that was seen
index_is : (c : In_ok-index) → Some c.in_ok-index.index ≡ seen (take_unsigned (drop 1 c.args.input.now))
index_is c = sym c.in_ok-index.was ∙ c.seen_unsigned.ensures ∙ ap (λ (s : List ℕ). seen (take_unsigned s)) (to_end c.args.input.now 1)

pub returns-in_err-index : goal.returns-in_err-index
returns-in_err-index c =
    let a = c.args in
    ap (λ (r : Tried). left_tried r a.row.now) c.from_residual.ensures
    ∙ instantiate_cut a.kind a.grade a.input.now c.requires.0 c.requires.4 c.requires.2 a.row.now
    (sym c.in_err-index.was ∙ c.seen_unsigned.ensures ∙ ap (λ (s : List ℕ). seen (take_unsigned s)) (to_end a.input.now 1))

pub overflow_add-index : goal.overflow_add-index
overflow_add-index c =
    let a = c.args in
    omega (arith, (count_seen a.grade 1 a.input.now _ (index_is (goal.at.overflow_add-index c).In_ok-index)).2)

pub read_counted-requires-clause-at_in_bounds : goal.read_counted-requires-clause-at_in_bounds
read_counted-requires-clause-at_in_bounds c =
    let a = c.args in
    let k = count_inside a.grade 1 a.input.now _ (index_is (goal.at.read_counted-requires-clause-at_in_bounds c).In_ok-index) (omega (arith, c.requires.0)) in
    (k, c.requires.1, c.requires.2, c.requires.3)

pub read_counted-requires-clause-le_base : goal.read_counted-requires-clause-le_base
read_counted-requires-clause-le_base c = (omega arith, omega arith)

pub returns : goal.returns
returns c =
    let a = c.args in
    instantiate_as a.kind a.grade a.input.now c.requires.0 c.requires.4 c.requires.2 _ (index_is (goal.at.returns c).In_ok-index) a.row.now
    c.read_counted.ensures
