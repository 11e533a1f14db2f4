-- `store_one` meets its contract: the words of an extern name (`extern_stored`), or those of a name (`name-stored`).
use Prim.Native.Nat.{ℕ}
use native.Mathlib.Omega.{arith}
use mathlib.Core.Path.{ap, ◌∙◌, sym, subst}
use mathlib.Core.List.{List}
use lib.ListN.{length-set}
use lib.Seq.{sets}
use Rattle.std.specs.Prelude.{Option, option_map, IsSome}
use Rattle.numbers.specs.declared.leb.Number.{Number}
use Rattle.items.specs.ReadExtern.{value_of_extern}
use Rattle.reading.proofs.FillLaws.{set-two}
use Rattle.instance_items.proofs.ExternLaws.{extern_right, extern_stored}
use Rattle.instance_items.proofs.FieldLaws.{name-seen, name-stored, one-wide-name, one-wide_extern}
use Rattle.instance_items.proofs.stores.store_one.Goals as goal

pub unwrap-e-requires : goal.unwrap-e-requires
unwrap-e-requires c =
    let a = c.args in
    extern_right a.grade a.bs.now (omega (arith, c.requires.bs_bound.0)) c.requires.bs_bound.2 c.requires.bs_bound.3 _ c.extern_name.ensures
    a.kind c.if-kind-eq21.true c.requires.right

pub store_extern-requires : goal.store_extern-requires
store_extern-requires c =
    let a = c.args in
    let told = ap (option_map value_of_extern) (sym c.unwrap-e.ensures) ∙ c.extern_name.ensures in
    let k = extern_stored a.kind a.grade a.at a.bs.now c.unwrap-e.result c.if-kind-eq21.true c.requires.bs_bound.0 c.requires.bs_bound.2
    c.requires.bs_bound.3 told in
    let w = one-wide_extern a.kind c.if-kind-eq21.true in
    (omega (arith, w, c.requires.bs_bound.1), k.0)

pub returns-then-kind-eq21 : goal.returns-then-kind-eq21
returns-then-kind-eq21 c =
    let a = c.args in
    let told = ap (option_map value_of_extern) (sym c.unwrap-e.ensures) ∙ c.extern_name.ensures in
    let k = extern_stored a.kind a.grade a.at a.bs.now c.unwrap-e.result c.if-kind-eq21.true c.requires.bs_bound.0 c.requires.bs_bound.2
    c.requires.bs_bound.3 told in
    (k.2, c.store_extern.ensures ∙ ap (λ (l : List ℕ). sets a.row.now a.to l) k.1)

pub unwrap-n-requires : goal.unwrap-n-requires
unwrap-n-requires c =
    let a = c.args in
    subst (λ (o : Option Number). IsSome o) (sym c.seen_unsigned.ensures) (name-seen a.kind a.grade a.bs.now c.if-kind-eq21.false c.requires.right)

pub overflow_add-row : goal.overflow_add-row
overflow_add-row c =
    let a = c.args in
    let is = sym c.seen_unsigned.ensures ∙ c.unwrap-n.ensures in
    let k = name-stored a.kind a.grade a.at a.bs.now _ c.if-kind-eq21.false is c.requires.right in
    omega (arith, k.2, c.requires.bs_bound.0)

pub overflow_cast-row : goal.overflow_cast-row
overflow_cast-row c =
    let a = c.args in
    let is = sym c.seen_unsigned.ensures ∙ c.unwrap-n.ensures in
    let k = name-stored a.kind a.grade a.at a.bs.now _ c.if-kind-eq21.false is c.requires.right in
    omega (arith, k.2, c.requires.bs_bound.0)

pub bounds-row-to : goal.bounds-row-to
bounds-row-to c = let w = one-wide-name _ c.if-kind-eq21.false in omega (arith, w, c.requires.bs_bound.1)

pub bounds-row-to-2 : goal.bounds-row-to-2
bounds-row-to-2 c = let w = one-wide-name _ c.if-kind-eq21.false in simp length-set (omega (arith, w, c.requires.bs_bound.1))

pub overflow_add-result : goal.overflow_add-result
overflow_add-result c =
    let a = c.args in
    let is = sym c.seen_unsigned.ensures ∙ c.unwrap-n.ensures in
    let k = name-stored a.kind a.grade a.at a.bs.now _ c.if-kind-eq21.false is c.requires.right in
    omega (arith, k.2, c.requires.bs_bound.0)

pub returns : goal.returns
returns c =
    let a = c.args in
    let is = sym c.seen_unsigned.ensures ∙ c.unwrap-n.ensures in
    let k = name-stored a.kind a.grade a.at a.bs.now _ c.if-kind-eq21.false is c.requires.right in
    (k.0, set-two a.row.now a.to _ _ ∙ ap (λ (l : List ℕ). sets a.row.now a.to l) (sym k.1))
