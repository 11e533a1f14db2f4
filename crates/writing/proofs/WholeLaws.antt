-- What holds of every row that is accepted: its size is the length of its bytes, and its walk reaches its end.
use Rattle.std.specs.Prelude.{Ok}
use Rattle.std.specs.Prelude.{None}
use Rattle.std.specs.Prelude.{Some}
use Rattle.std.specs.Prelude.{Option}
use Prim.Native.Nat.{ℕ, ◌+◌, ◌*◌}
use native.Mathlib.Omega.{arith}
use mathlib.Core.Path.{◌≡◌, refl, sym, ap, ◌∙◌}
use mathlib.Core.Bool.{Bool, true, false, cond}
use mathlib.Core.List.{List}
use borrow.Author.Tests.{le-ltb, eq-eqb, ne_eqb}
use lib.Dec.{eqb, ltb}
use lib.ListN.{length, drop}
use Rattle.fields.specs.declared.Refusal.TheVariants as refusal
use Rattle.fields.specs.Leaf.{Fine}
use Rattle.fields.specs.Answer.{Refused}
use Rattle.fields.specs.declared.Shape.{Shape}
use Rattle.fields.specs.Words.{word, wide}
use Rattle.writing.specs.Judge.{judge}
use Rattle.fields.specs.inside.Run.{along, makes}
use Rattle.writing.specs.Row.{measured_found, measured_row}
use Rattle.fields.specs.Shape.{opening, group, closing, repeated, widths, row_width}
use Rattle.writing.specs.Write.{bytes_at, judged, written, sized, measured}
use Rattle.writing.proofs.AnswerLaws.{Sized, measured_sized}
use Rattle.fields.specs.inside.Stages.{counted_fields, later}
use Rattle.writing.proofs.PutLaws.{all_fields, judged_along, shape_written}
use Rattle.writing.proofs.StagedLaws.{along-ends}
use Rattle.fields.proofs.WidthLaws.{widths-append, repeated_widths}
use Rattle.numbers.proofs.Impossible.{impossible}

-- a row that is accepted has a shape, and a size by it
pub record Accepted (found : Option Shape) (row pool : List ℕ) (size : ℕ) : Type 0 where
  pub shape : Shape
  pub is : found ≡ Some shape
  pub sized : Sized shape row 1 pool size

pub accepted : (found : Option Shape) (row pool : List ℕ) (size : ℕ) → measured_row found row pool ≡ Ok size → Accepted found row pool size
unfolding measured_row
accepted found row pool size e = rows (ltb 16384 (length row)) (ltb 65536 (length pool)) (eqb (length row) 0) e
  where
    has : (f : Option Shape) → measured_found f row pool ≡ Ok size → Accepted f row pool size
    has (Some s) e = record { shape = s; is = refl; sized = measured_sized s row 1 pool refl size e }
    has None e = impossible cc

    rows : (a b c : Bool)
        → cond a (Refused refusal.Limit 0) (cond b (Refused refusal.Limit 0) (cond c (Refused refusal.Row 0) (measured_found found row pool))) ≡ Ok size
        → Accepted found row pool size
    rows true b c e = impossible cc
    rows false true c e = impossible cc
    rows false false true e = impossible cc
    rows false false false e = has found e

-- a row that has a size by its shape is accepted
pub sized-accepted : (s : Shape) (row pool : List ℕ) (size : ℕ) → Sized s row 1 pool size → measured_row (Some s) row pool ≡ Ok size
unfolding measured_row measured sized row_width
sized-accepted s row pool size k =
    let some : length row ≡ 0 → ⊥ = λ z. omega (arith, k.width) in
    simp (
      le-ltb _ _ k.short,
      le-ltb _ _ k.small,
      ne_eqb _ _ some,
      eq-eqb _ _ k.width,
      k.judges,
    )

-- all fields of a row have as many words as its width says
all-widths : (s : Shape) (row : List ℕ) (start : ℕ) → start + widths (all_fields s row start) ≡ row_width s row start
unfolding row_width widths wide
all-widths s row start =
    let at = start + widths (opening s) in
    let a = widths-append (opening s) (later s (word row at)) in
    omega (arith, both s.counted)
  where
    at : ℕ
    at = start + widths (opening s)

    both : (b : Bool) → widths (cond b (counted_fields s (word row at)) (closing s))
        ≡ cond b (1 + word row at * widths (group s)) 0 + widths (closing s)
    both true =
        omega (arith, widths-append (repeated (word row at) (group s)) (closing s), repeated_widths (group s) (word row at))
    both false = omega arith

-- a walk that ends, ends past the words that the row's width says
pub judged-ends : (s : Shape) (pool row : List ℕ) (start e m : ℕ) → judged s pool row start ≡ Fine e m → e ≡ row_width s row start
judged-ends s pool row start e m h =
    (along-ends pool (all_fields s row start) (drop start row) start 0 e m (sym (judged_along s pool row start) ∙ h)).0 ∙ all-widths s row start

module _ {s : Shape} {row : List ℕ} {start : ℕ} {pool : List ℕ} {size : ℕ} (k : Sized s row start pool size) where
  all : along (judge pool) (all_fields s row start) (drop start row) start 0 ≡ Fine k.end size
  all = sym (judged_along s pool row start) ∙ k.judges

  -- the size is the length of the bytes
  pub size_is_length : size ≡ length (written s pool row start)
  size_is_length =
      let bs : List ℕ = makes (judge pool) (bytes_at pool) (all_fields s row start) start (drop start row) in
      let n : size ≡ 0 + length bs = (along-ends pool (all_fields s row start) (drop start row) start 0 k.end size all).1 in
      let m : written s pool row start ≡ bs = shape_written s pool row start k.end size k.judges in
      omega (arith, ap length m)

  -- the walk reaches the row's end
  pub reaches_end : k.end ≡ length row
  reaches_end = judged-ends s pool row start k.end size k.judges ∙ k.width
