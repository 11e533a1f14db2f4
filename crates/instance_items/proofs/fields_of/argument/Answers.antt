-- `argument` meets its contract: its tests are those of `scan_argument` (`argument_seen`), and an index has at most five bytes
-- (`index_seen`).
use Prim.Native.Nat.{ℕ}
use native.Mathlib.Omega.{arith}
use mathlib.Core.Path.{ap, sym, ◌∙◌}
use mathlib.Core.List.{List}
use Rattle.std.specs.Prelude.{option_map}
use Rattle.numbers.proofs.BytesLaws.{to_end}
use Rattle.numbers.specs.Leb.{take_unsigned}
use Rattle.numbers.specs.Seen.{seen}
use Rattle.reading.proofs.LeafLaws.{index_seen}
use Rattle.instance_items.specs.inside.Group.{argument_is}
use Rattle.instance_items.proofs.FieldLaws.{argument_seen, argument_other}
use Rattle.instance_items.proofs.fields_of.argument.Goals as goal

pub returns-in_err-n : goal.returns-in_err-n
returns-in_err-n c = λ g.
    let bs = c.args.bs.now in
    c.from_residual.ensures
    ∙ ap (option_map argument_is)
    (sym c.in_err-n.was ∙ c.seen_unsigned.ensures ∙ ap (λ (s : List ℕ). seen (take_unsigned s)) (to_end bs 1))
    ∙ argument_seen g bs c.requires c.if-bs-eq18.true

pub overflow_add-result : goal.overflow_add-result
overflow_add-result c = let size = (index_seen _ _ (sym c.in_ok-n.was ∙ c.seen_unsigned.ensures)).2 in omega arith

pub returns-then-bs-eq18 : goal.returns-then-bs-eq18
returns-then-bs-eq18 c = λ g.
    let bs = c.args.bs.now in
    ap (option_map argument_is)
    (sym c.in_ok-n.was ∙ c.seen_unsigned.ensures ∙ ap (λ (s : List ℕ). seen (take_unsigned s)) (to_end bs 1))
    ∙ argument_seen g bs c.requires c.if-bs-eq18.true

pub returns : goal.returns
returns c = λ g. argument_other g c.args.bs.now c.requires c.if-bs-eq18.false
