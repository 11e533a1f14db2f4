-- `sorted` meets its contract: it is `sort_is` of an index that is seen, which has at most five bytes (`index_seen`).
use Prim.Native.Nat.{ℕ}
use native.Mathlib.Omega.{arith}
use mathlib.Core.Path.{ap, sym, ◌∙◌}
use mathlib.Core.List.{List}
use Rattle.std.specs.Prelude.{option_map}
use Rattle.numbers.proofs.BytesLaws.{to_end}
use Rattle.numbers.specs.Leb.{take_unsigned}
use Rattle.numbers.specs.Seen.{seen}
use Rattle.reading.proofs.LeafLaws.{index_seen}
use Rattle.instance_items.specs.inside.Group.{sort_is}
use Rattle.instance_items.proofs.fields_of.sorted.Goals as goal

pub returns-in_err-n : goal.returns-in_err-n
returns-in_err-n c =
    let a = c.args in
    c.from_residual.ensures
    ∙ ap (option_map (sort_is a.sort a.k))
    (sym c.in_err-n.was ∙ c.seen_unsigned.ensures ∙ ap (λ (s : List ℕ). seen (take_unsigned s)) (to_end a.bs.now a.k))

pub overflow_add-result : goal.overflow_add-result
overflow_add-result c =
    let top = c.requires.0 in
    let size = (index_seen _ _ (sym c.in_ok-n.was ∙ c.seen_unsigned.ensures)).2 in
    omega arith

pub returns : goal.returns
returns c =
    let a = c.args in
    ap (option_map (sort_is a.sort a.k))
    (sym c.in_ok-n.was ∙ c.seen_unsigned.ensures ∙ ap (λ (s : List ℕ). seen (take_unsigned s)) (to_end a.bs.now a.k))
