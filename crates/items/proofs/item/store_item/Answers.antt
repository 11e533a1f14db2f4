-- `store_item` meets its contract: the row is that of `item-row`, since each word behind the first two is stored where the item has it
-- (`put`). Assumes nothing.
use Prim.Native.Nat.{ℕ, ◌≤◌}
use mathlib.Core.Path.{◌≡◌, refl, subst}
use mathlib.Core.List.{List, ◌∷◌}
use lib.ListN.{set}
use lib.Seq.{sets}
use Rattle.std.specs.Prelude.{Option, IfSome}
use Rattle.items.specs.declared.item.Item.{Item}
use Rattle.items.specs.inside.Item.{item_words}
use Rattle.items.proofs.StoreLaws.{put, put_yes, put_no, item-row, stored_none, stored_short, stored_done}
use Rattle.items.proofs.item.store_item.Goals as goal
use Rattle.items.proofs.item.store_item.Goals.{Joined-words-gt3, then-words-gt2, else-words-gt2, then-words-gt3, else-words-gt3}

-- the row, store by store
last_row : (c : Joined-words-gt3) (last : List ℕ) → let r = c.in_ok-took.field-0 in
    last ≡ put r.words 4 r.d c.if-words-gt3.row → last ≡ sets c.args.row.now 0 (c.args.kind ∷ item_words r)
last_row c last e =
    let a = c.args in
    let r = c.in_ok-took.field-0 in
    let second = set (set a.row.now 0 a.kind) 1 r.a in
    let few = subst (λ (o : Option Item). IfSome o (λ x. (2 ≤ x.words) × (x.words ≤ 5))) c.in_ok-took.was c.requires in
    let third : c.if-words-gt2.row ≡ put r.words 2 r.b second =
    elim c.if-words-gt2.branch [
      | then-words-gt2 w ↦ put_yes r.words 2 r.b second w.if-words-gt2.true w.row-is
      | else-words-gt2 w ↦ put_no r.words 2 r.b second w.if-words-gt2.false w.row-is
    ] in
    let fourth : c.if-words-gt3.row ≡ put r.words 3 r.c c.if-words-gt2.row =
    elim c.if-words-gt3.branch [
      | then-words-gt3 w ↦ put_yes r.words 3 r.c c.if-words-gt2.row w.if-words-gt3.true w.row-is
      | else-words-gt3 w ↦ put_no r.words 3 r.c c.if-words-gt2.row w.if-words-gt3.false w.row-is
    ] in
    item-row a.kind r a.row.now few third fourth e

pub returns-in_err-took : goal.returns-in_err-took
returns-in_err-took c = stored_none c.args.kind c.args.row.now c.from_residual.ensures c.in_err-took.was

pub returns-then-row-words : goal.returns-then-row-words
returns-then-row-words c = stored_short c.args.kind c.args.row.now c.in_ok-took.was c.if-row-words.true

pub returns-then-words-gt4 : goal.returns-then-words-gt4
returns-then-words-gt4 c =
    let r = c.in_ok-took.field-0 in
    stored_done c.args.kind c.args.row.now c.in_ok-took.was c.if-row-words.false
    (last_row (goal.at.returns-then-words-gt4 c).Joined-words-gt3 _ (put_yes r.words 4 r.d c.if-words-gt3.row c.if-words-gt4.true refl))

pub returns-else-words-gt4 : goal.returns-else-words-gt4
returns-else-words-gt4 c =
    let r = c.in_ok-took.field-0 in
    stored_done c.args.kind c.args.row.now c.in_ok-took.was c.if-row-words.false
    (last_row (goal.at.returns-else-words-gt4 c).Joined-words-gt3 _ (put_no r.words 4 r.d c.if-words-gt3.row c.if-words-gt4.false refl))
