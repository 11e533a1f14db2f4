-- `store_two` meets its contract: a word of an argument (`argument_words`), or the two of a sort and an index (`pair-words`).
use Prim.Native.Nat.{ℕ}
use native.Mathlib.Omega.{arith}
use mathlib.Core.Path.{ap, ◌∙◌, sym, subst}
use mathlib.Core.List.{List}
use lib.ListN.{length-set}
use lib.Seq.{sets}
use Rattle.std.specs.Prelude.{Option, IsSome}
use Rattle.reading.specs.declared.Pair.{Pair}
use Rattle.reading.proofs.FillLaws.{set-two}
use Rattle.instance_items.proofs.FieldLaws.{two-wide-some, two-wide-pair, took_of, pair-took, pair-right, argument_words, pair-words}
use Rattle.instance_items.specs.inside.Group.{group_two}
use Rattle.instance_items.proofs.stores.store_two.Goals as goal

pub unwrap-two-requires : goal.unwrap-two-requires
unwrap-two-requires c =
    let a = c.args in
    subst (λ (o : Option Pair). IsSome o) (sym (c.second.ensures 1)) (pair-right 1 (group_two a.kind) a.bs.now c.requires.right)

pub bounds-row-to : goal.bounds-row-to
bounds-row-to c = let w = two-wide-some c.args.kind in omega (arith, w, c.requires.kind_in_bounds)

pub returns-then-kind-eq18 : goal.returns-then-kind-eq18
returns-then-kind-eq18 c =
    let a = c.args in
    let is = sym c.unwrap-two.ensures ∙ c.second.ensures 1 in (
      ap took_of is ∙ pair-took 1 (group_two a.kind) a.bs.now,
      ap (λ (l : List ℕ). sets a.row.now a.to l) (argument_words a.kind a.bs.now _ c.if-kind-eq18.true is),
    )

pub bounds-row-to-2 : goal.bounds-row-to-2
bounds-row-to-2 c = let w = two-wide-pair c.args.kind c.if-kind-eq18.false in simp length-set (omega (arith, w, c.requires.kind_in_bounds))

pub returns : goal.returns
returns c =
    let a = c.args in
    let is = sym c.unwrap-two.ensures ∙ c.second.ensures 1 in (
      ap took_of is ∙ pair-took 1 (group_two a.kind) a.bs.now,
      set-two a.row.now a.to _ _ ∙ ap (λ (l : List ℕ). sets a.row.now a.to l) (pair-words a.kind a.bs.now _ c.if-kind-eq18.false is),
    )
