-- What a row that has a size is.
use Rattle.std.specs.Prelude.{Err, Ok}
use Prim.Native.Nat.{ℕ, ◌≤◌}
use mathlib.Core.Path.{◌≡◌, refl, sym, ap, ◌∙◌}
use mathlib.Core.Bool.{Bool, true, false, cond}
use mathlib.Core.List.{List}
use borrow.Author.Tests.{ltb-false, eqb-true}
use lib.Dec.{eqb, ltb}
use lib.ListN.{length}
use Rattle.fields.specs.declared.Refusal.TheVariants as refusal
use Rattle.fields.specs.Leaf.{Leaf}
use Rattle.fields.specs.Leaf.{Fine}
use Rattle.fields.specs.Answer.{Answer}
use Rattle.fields.specs.Answer.{Refused}
use Rattle.fields.specs.declared.Shape.{Shape}
use Rattle.fields.specs.Shape.{row_width}
use Rattle.writing.specs.Write.{judged, sized, measured}
use Rattle.numbers.proofs.Impossible.{impossible}

-- a row that has a size: it is as long as it needs, row and pool keep within the limits, and the walk over its fields makes the size
pub record Sized (s : Shape) (row : List ℕ) (start : ℕ) (pool : List ℕ) (size : ℕ) : Type 0 where
  pub width : row_width s row start ≡ length row
  pub short : length row ≤ 16384
  pub small : length pool ≤ 65536
  pub end : ℕ
  pub judges : judged s pool row start ≡ Fine end size

module _ (s : Shape) (row : List ℕ) (start : ℕ) (pool : List ℕ) {found : Answer} (ef : found ≡ measured s row start pool) where
  pub measured_sized : (size : ℕ) → found ≡ Ok size → Sized s row start pool size
  unfolding measured sized
  measured_sized size e = rows (ltb 16384 (length row)) refl (sym ef ∙ e)
    where
      made : (l : Leaf) → judged s pool row start ≡ l → row_width s row start ≡ length row → length row ≤ 16384 → length pool ≤ 65536
          → sized l ≡ Ok size → Sized s row start pool size
      made (Ok span) p w h k e =
          let q : span.made ≡ size = cc in record { width = w; short = h; small = k; end = span.took; judges = p ∙ ap (λ n. Fine span.took n) q }
      made (Err fault) p v h k e = impossible cc

      widths : (b : Bool) → eqb (row_width s row start) (length row) ≡ b → length row ≤ 16384 → length pool ≤ 65536
          → cond b (sized (judged s pool row start)) (Refused refusal.Row 0) ≡ Ok size → Sized s row start pool size
      widths true p h k e = made (judged s pool row start) refl (eqb-true _ _ p) h k e
      widths false p h k e = impossible cc

      pools : (b : Bool) → ltb 65536 (length pool) ≡ b → length row ≤ 16384
          → cond b (Refused refusal.Limit 0) (cond (eqb (row_width s row start) (length row)) (sized (judged s pool row start)) (Refused refusal.Row 0)) ≡ Ok size
          → Sized s row start pool size
      pools true p h e = impossible cc
      pools false p h e = widths (eqb (row_width s row start) (length row)) refl h (ltb-false _ _ p) e

      rows : (b : Bool) → ltb 16384 (length row) ≡ b
          → cond b (Refused refusal.Limit 0)
          (cond (ltb 65536 (length pool)) (Refused refusal.Limit 0)
          (cond (eqb (row_width s row start) (length row)) (sized (judged s pool row start)) (Refused refusal.Row 0))) ≡ Ok size
          → Sized s row start pool size
      rows true p e = impossible cc
      rows false p e = pools (ltb 65536 (length pool)) refl (ltb-false _ _ p) e
