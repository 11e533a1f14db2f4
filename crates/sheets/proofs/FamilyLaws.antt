-- A row that its family takes: its size is the length of its bytes, and at most 32772 bytes for each of its words; and it is written.
use Rattle.std.specs.Prelude.{Ok, Some}
use Prim.Native.Nat.{ℕ, suc, ◌+◌, ◌*◌, ◌≤◌}
use native.Mathlib.Nat.{mul-le-mul_left}
use native.Mathlib.Omega.{arith}
use mathlib.Core.Path.{◌≡◌, refl, sym, ap, ◌∙◌, subst}
use mathlib.Core.Bool.{Bool, true, false, cond}
use mathlib.Core.List.{List}
use borrow.Author.Tests.{leb-true, le-leb}
use lib.Dec.{eqb, leb}
use lib.ListN.{length, drop, length-append}
use lib.Seq.{sets}
use Rattle.fields.specs.Leaf.{Fine}
use Rattle.fields.specs.declared.Shape.{Shape}
use Rattle.fields.specs.Words.{word, wide}
use Rattle.writing.specs.Judge.{judge}
use Rattle.writing.specs.Row.{measured_row}
use Rattle.fields.specs.inside.Run.{along, Under}
use Rattle.fields.specs.inside.Stages.{counted_fields}
use Rattle.fields.specs.Shape.{group, closing, opening, repeated, widths}
use Rattle.fields.specs.Table.{Line, shape_in}
use Rattle.fields.specs.Answers.{left}
use Rattle.writing.specs.Write.{stored}
use Rattle.writing.proofs.AnswerLaws.{Sized}
use Rattle.writing.proofs.PutLaws.{all_fields, row-groups, judged_along}
use Rattle.writing.proofs.StagedLaws.{along-ends, along_bound}
use Rattle.writing.proofs.TableRows.{every, of_every}
use Rattle.writing.proofs.WholeLaws.{accepted, reaches_end}
use Rattle.fields.proofs.WidthLaws.{repeated_length}
use Rattle.types.specs.Table as types
use Rattle.types.specs.Write.{measured_type}
use Rattle.imports.specs.Table as imports
use Rattle.imports.specs.Write.{measured_import}
use Rattle.canonicals.specs.Table as canonicals
use Rattle.canonicals.specs.Table.{lift_shape}
use Rattle.canonicals.specs.Write.{measured_canonical}
use Rattle.instances.specs.Table as instances
use Rattle.instances.specs.Write.{measured_core_instance, measured_instance}
use Rattle.sections.specs.Section.{Entries, Types, Canonicals, Imports, CoreInstances, Instances, None, entries_of, measured_by, write_family, measured_family, family_bytes}
use Rattle.sections.proofs.FamilyLaws.{family-stored, family-size}
use Rattle.numbers.proofs.Impossible.{impossible}

pub record Taken (row bs : List ℕ) (size : ℕ) : Type 0 where
  pub long : size ≡ length bs
  pub bound : size ≤ 32772 * length row

-- ---- how many bytes a row can make

-- a group that is counted has a word
abbrev worded : Shape → Bool
worded s = cond s.counted (leb 1 (widths (group s))) true

module _ {s : Shape} {row pool : List ℕ} {size : ℕ} (k : Sized s row 1 pool size) (w : worded s ≡ true) where
  few_fields : length (all_fields s row 1) ≤ 6 + 2 * length row
  few_fields = go s.counted refl w
    where
      at : ℕ
      at = 1 + widths (opening s)

      go : (b : Bool) → s.counted ≡ b → cond b (leb 1 (widths (group s))) true ≡ true
          → suc (suc (suc (suc (length (cond b (counted_fields s (word row at)) (closing s)))))) ≤ 6 + 2 * length row
      go true e t =
          let n = word row at in
          let g = row-groups s row 1 e in
          let m : n * 1 ≤ n * widths (group s) = mul-le-mul_left n (leb-true 1 (widths (group s)) t) in
          let p = length-append (repeated n (group s)) (closing s) in
          let q = repeated_length (group s) n in
          omega (arith, k.width)
      go false e t = omega arith

  bounded : size ≤ 32772 * length row
  bounded =
      let fs = all_fields s row 1 in
      let all : along (judge pool) fs (drop 1 row) 1 0 ≡ Fine k.end size = sym (judged_along s pool row 1) ∙ k.judges in
      let u : Under (Fine k.end size) (1 + widths fs) (0 + (length fs + 32770 * widths fs)) =
      subst (λ l. Under l (1 + widths fs) (0 + (length fs + 32770 * widths fs))) all (along_bound pool fs (drop 1 row) 1 0 k.small) in
      let h = u.1 in
      let e = (along-ends pool fs (drop 1 row) 1 0 k.end size all).0 in
      omega (arith, reaches_end k, few_fields)

-- ---- rows of each family

table_bound : (ls : List Line) → every worded ls ≡ true → (row pool : List ℕ) (size : ℕ) → measured_row (shape_in ls (word row 0)) row pool ≡ Ok size
    → size ≤ 32772 * length row
table_bound ls w row pool size e =
    let a = accepted (shape_in ls (word row 0)) row pool size e in
    bounded a.sized (of_every worded ls w (word row 0) a.shape a.is)

canonical_bound : (row pool : List ℕ) (size : ℕ) → measured_canonical row pool ≡ Ok size → size ≤ 32772 * length row
unfolding measured_canonical every widths wide
canonical_bound row pool size e = go (eqb (word row 0) 256) e
  where
    go : (b : Bool) → measured_row (cond b (Some lift_shape) (shape_in canonicals.table (word row 0))) row pool ≡ Ok size → size ≤ 32772 * length row
    go true e =
        let a = accepted (Some lift_shape) row pool size e in
        let same : lift_shape ≡ a.shape = cc in
        bounded (rw (← same) at a.sized) refl
    go false e = table_bound canonicals.table refl row pool size e

pub family-row : (family : ℕ) (row pool : List ℕ) (size : ℕ) → measured_family family row pool ≡ Ok size → Taken row (family_bytes family pool row) size
unfolding measured_family measured_type measured_import measured_core_instance measured_instance every widths wide
family-row family row pool size e =
    record { long = family-size family row pool size e; bound = go (entries_of family) e }
  where
    go : (x : Entries) → measured_by x row pool ≡ Ok size → size ≤ 32772 * length row
    go Types e = table_bound types.table refl row pool size e
    go Canonicals e = canonical_bound row pool size e
    go Imports e = table_bound imports.table refl row pool size e
    go CoreInstances e = table_bound instances.core_table refl row pool size e
    go Instances e = table_bound instances.table refl row pool size e
    go None e = impossible cc

-- ---- writing

-- a row that its family takes is written where there is room for it
pub family-written : (family : ℕ) (row pool body : List ℕ) (at size : ℕ) → measured_family family row pool ≡ Ok size → at + size ≤ length body
    → write_family family row pool body at ≡ left (Ok size) (sets body at (family_bytes family pool row))
unfolding stored
family-written family row pool body at size e h =
    family-stored family row pool body at ∙ ap (λ a. stored a (family_bytes family pool row) body at) e ∙ simp (le-leb _ _ h)
