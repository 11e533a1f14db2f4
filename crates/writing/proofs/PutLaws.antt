-- The fields of a shape as one list, which has as many groups as the row's count says: judged, and put.
use Rattle.std.specs.Prelude.{Err, Ok}
use Prim.Native.Nat.{ℕ, ◌+◌, ◌*◌, ◌≤◌}
use native.Mathlib.Omega.{arith}
use mathlib.Core.Path.{◌≡◌, refl, sym, ap, ◌∙◌}
use mathlib.Core.Bool.{true}
use mathlib.Core.List.{List, ◌++◌}
use lib.ListN.{drop}
use Rattle.fields.specs.declared.Field.{Field}
use Rattle.fields.specs.Leaf.{Leaf}
use Rattle.fields.specs.Leaf.{Fine}
use Rattle.fields.specs.declared.Shape.{Shape}
use Rattle.fields.specs.Words.{word}
use Rattle.writing.specs.Judge.{judge}
use Rattle.fields.specs.inside.Run.{onward, makes, after}
use Rattle.fields.specs.inside.Stages.{later}
use Rattle.fields.specs.Shape.{opening, group, widths, row_width}
use Rattle.writing.specs.Write.{bytes_at, judged, written}
use Rattle.fields.proofs.RunLaws.{along-append}
use Rattle.fields.proofs.StageLaws.{walk_staged, outs_staged}
use Rattle.writing.proofs.StagedLaws.{along-ends, tells}
use Rattle.numbers.proofs.Impossible.{impossible}

-- the fields that stand from `at` of a row on: judged, with `to` bytes before them; and put
abbrev judges : List ℕ → List Field → List ℕ → ℕ → ℕ → Leaf
judges pool fs row at to = onward (judge pool) row fs at to

abbrev puts : List ℕ → List Field → List ℕ → ℕ → List ℕ
puts pool fs row at = makes (judge pool) (bytes_at pool) fs at (drop at row)

-- the groups stand within the row
pub row-groups : (s : Shape) (row : List ℕ) (start : ℕ) → s.counted ≡ true
    → word row (start + widths (opening s)) * widths (group s) ≤ row_width s row start
unfolding row_width
row-groups s row start e = rw e (omega arith)

-- all fields of a row whose fields stand from `start` on
abbrev pub all_fields : Shape → List ℕ → ℕ → List Field
all_fields s row start = opening s ++ later s (word row (start + widths (opening s)))

module _ (s : Shape) (pool row : List ℕ) (start : ℕ) where
  abbrev behind : ℕ
  behind = start + widths (opening s)

  pub judged_along : judged s pool row start ≡ judges pool (all_fields s row start) row start 0
  judged_along =
      walk_staged (tells pool row) s start 0 ∙ go (judges pool (opening s) row start 0) refl
      ∙ sym (along-append (judge pool) (opening s) (later s (word row behind)) row start 0)
    where
      go : (l : Leaf) → judges pool (opening s) row start 0 ≡ l
          → after l (λ a m. judges pool (later s (word row a)) row a m) ≡ after l (λ a m. judges pool (later s (word row behind)) row a m)
      go (Ok span) e =
          ap (λ k. judges pool (later s (word row k)) row span.took span.made) (along-ends pool (opening s) (drop start row) start 0 span.took span.made e).0
      go (Err fault) e = refl

  -- what a row that is judged right makes
  pub shape_written : (e m : ℕ) → judged s pool row start ≡ Fine e m → written s pool row start ≡ puts pool (all_fields s row start) row start
  shape_written e m fine = go (judges pool (opening s) row start 0) refl (sym (walk_staged (tells pool row) s start 0) ∙ fine)
    where
      go : (l : Leaf) → judges pool (opening s) row start 0 ≡ l → after l (λ a n. judges pool (later s (word row a)) row a n) ≡ Fine e m
          → written s pool row start ≡ puts pool (all_fields s row start) row start
      go (Ok span) e0 h =
          outs_staged (tells pool row) s start 0 span.took span.made e0
          ∙ ap (λ k. puts pool (opening s ++ later s (word row k)) row start) (along-ends pool (opening s) (drop start row) start 0 span.took span.made e0).0
      go (Err fault) e0 h = impossible cc
