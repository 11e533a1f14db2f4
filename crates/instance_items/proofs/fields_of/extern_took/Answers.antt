-- `extern_took` meets its contract: a name behind 00 (`bare_took`), or what is told by value (`extern_told`).
use Prim.Native.Nat.{ℕ, ◌+◌}
use native.Mathlib.Omega.{arith}
use mathlib.Core.Path.{ap, sym, ◌∙◌}
use mathlib.Core.List.{List}
use Rattle.std.specs.Prelude.{option_map}
use Rattle.numbers.proofs.BytesLaws.{to_end}
use Rattle.fields.specs.declared.Field.TheVariants as field
use Rattle.items.specs.declared.import.Extern.{Extern}
use Rattle.reading.specs.declared.Pair.{Pair}
use Rattle.reading.specs.Seen.{pair}
use Rattle.instance_items.proofs.FieldLaws.{some_of}
use Rattle.instance_items.proofs.ExternLaws.{bare_took, bare_inside, extern_nothing, extern_told}
use Rattle.instance_items.proofs.fields_of.extern_took.Goals as goal

pub returns-then-bs-eq0 : goal.returns-then-bs-eq0
returns-then-bs-eq0 c = extern_nothing c.args.grade c.args.bs.now c.if-bs-eq0.true

pub returns-in_err-n : goal.returns-in_err-n
returns-in_err-n c =
    let a = c.args in
    c.from_residual.ensures
    ∙ ap (option_map (λ (n : Pair). 1 + n.took))
    (sym c.in_err-n.was ∙ c.name.ensures ∙ ap (λ (s : List ℕ). pair 1 field.Name s) (to_end a.bs.now 1))
    ∙ bare_took a.grade a.bs.now (some_of _ c.if-bs-eq0.false) c.if-bs-eq0-2.true

pub overflow_add-result : goal.overflow_add-result
overflow_add-result c =
    let a = c.args in
    let seen = sym (ap (λ (s : List ℕ). pair 1 field.Name s) (to_end a.bs.now 1)) ∙ sym c.name.ensures ∙ c.in_ok-n.was in
    omega (arith, bare_inside a.grade a.bs.now (some_of _ c.if-bs-eq0.false) _ seen, c.requires.0)

pub returns-then-bs-eq0-2 : goal.returns-then-bs-eq0-2
returns-then-bs-eq0-2 c =
    let a = c.args in
    ap (option_map (λ (n : Pair). 1 + n.took))
    (sym c.in_ok-n.was ∙ c.name.ensures ∙ ap (λ (s : List ℕ). pair 1 field.Name s) (to_end a.bs.now 1))
    ∙ bare_took a.grade a.bs.now (some_of _ c.if-bs-eq0.false) c.if-bs-eq0-2.true

pub returns-in_err-e : goal.returns-in_err-e
returns-in_err-e c =
    let a = c.args in
    c.from_residual-in_err-e.ensures ∙ ap (option_map (λ (e : Extern). e.took)) (sym c.in_err-e.was)
    ∙ extern_told a.grade a.bs.now c.requires.0 c.requires.1 c.requires.2 _ c.extern_name.ensures

pub returns : goal.returns
returns c =
    let a = c.args in
    ap (option_map (λ (e : Extern). e.took)) (sym c.in_ok-e.was)
    ∙ extern_told a.grade a.bs.now c.requires.0 c.requires.1 c.requires.2 _ c.extern_name.ensures
