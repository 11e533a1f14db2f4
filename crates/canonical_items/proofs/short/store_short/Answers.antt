-- `store_short` meets its contract: each word behind the kind is stored where the item has it (`put`).
use Prim.Native.Nat.{ℕ, ◌-◌}
use mathlib.Core.Path.{◌≡◌, refl, ◌∙◌, ap}
use mathlib.Core.List.{List, ◌∷◌, []}
use lib.ListN.{set, take}
use lib.Seq.{sets}
use Rattle.canonical_items.proofs.ShortLaws.{put, put_yes, put_no, all-stored, stored_none, stored_short, stored_done}
use Rattle.canonical_items.proofs.short.store_short.Goals as goal
use Rattle.canonical_items.proofs.short.store_short.Goals.{Joined-words-gt1, then-words-gt1, else-words-gt1}

last_row : (c : Joined-words-gt1) (last : List ℕ) → last ≡ put c.args.words 2 c.in_ok-took.field-0.b c.if-words-gt1.row
    → last ≡ sets c.args.row.now 0 (c.args.kind ∷ take (c.args.words - 1) (c.in_ok-took.field-0.a ∷ c.in_ok-took.field-0.b ∷ []))
last_row c last e =
    let a = c.args in
    let x = c.in_ok-took.field-0 in
    let base = set a.row.now 0 a.kind in
    let second : c.if-words-gt1.row ≡ put a.words 1 x.a base =
    elim c.if-words-gt1.branch [
      | then-words-gt1 w ↦ put_yes a.words 1 x.a base w.if-words-gt1.true w.row-is
      | else-words-gt1 w ↦ put_no a.words 1 x.a base w.if-words-gt1.false w.row-is
    ] in
    e ∙ ap (λ (l : List ℕ). put a.words 2 x.b l) second
    ∙ all-stored a.words a.kind x.a x.b a.row.now c.requires.0 c.requires.1

pub returns-in_err-took : goal.returns-in_err-took
returns-in_err-took c = let a = c.args in stored_none a.kind a.words a.item a.row.now c.in_err-took.was c.from_residual.ensures

pub returns-then-row-words : goal.returns-then-row-words
returns-then-row-words c =
    let a = c.args in
    stored_short a.kind a.words a.item a.row.now c.in_ok-took.was c.if-row-words.true

pub returns-then-words-gt2 : goal.returns-then-words-gt2
returns-then-words-gt2 c =
    let a = c.args in
    stored_done a.kind a.words a.item a.row.now c.in_ok-took.was c.if-row-words.false
    (last_row (goal.at.returns-then-words-gt2 c).Joined-words-gt1 _ (put_yes a.words 2 c.in_ok-took.field-0.b c.if-words-gt1.row c.if-words-gt2.true refl))

pub returns-else-words-gt2 : goal.returns-else-words-gt2
returns-else-words-gt2 c =
    let a = c.args in
    stored_done a.kind a.words a.item a.row.now c.in_ok-took.was c.if-row-words.false
    (last_row (goal.at.returns-else-words-gt2 c).Joined-words-gt1 _ (put_no a.words 2 c.in_ok-took.field-0.b c.if-words-gt1.row c.if-words-gt2.false refl))
