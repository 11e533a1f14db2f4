-- A row that a section's table takes: it is written as its production says, its size is the length of its bytes and no larger than
-- can be, and its bytes are bytes. What is asked of the table is that its lines agree, and a test that is computed over all of them.
use Rattle.std.specs.Prelude.{Ok}
use Rattle.std.specs.Prelude.{Some}
use Rattle.std.specs.Prelude.{Err}
use Prim.Native.Nat.{ℕ, zero, suc, ◌+◌, ◌^◌}
use mathlib.Core.Path.{◌≡◌, refl, sym, ap, ◌∙◌}
use mathlib.Core.Bool.{Bool, true, false, ◌&&◌, cond}
use mathlib.Core.List.{List, [], ◌∷◌, ◌++◌}
use borrow.Author.Tests.{ltb-true}
use lib.Dec.{eqb, ltb}
use lib.ListN.{length, drop}
use Rattle.numbers.specs.Bytes.{Bytes}
use Rattle.fields.specs.declared.Field.{Field}
use Rattle.fields.specs.declared.Field.TheVariants as field
use Rattle.fields.specs.Flaw.{Flaw}
use Rattle.fields.specs.Flaw.{Right}
use Rattle.fields.specs.Leaf.{Fine}
use Rattle.fields.specs.declared.Shape.{Shape}
use Rattle.fields.specs.Words.{word, Words, wide}
use Rattle.writing.specs.Binary.{bytes}
use Rattle.writing.specs.Judge.{flaw, unless, judge}
use Rattle.writing.specs.Row.{measured_row, row_bytes}
use Rattle.fields.specs.inside.Run.{along, makes}
use Rattle.fields.specs.Shape.{opening, group, closing, repeated, widths}
use Rattle.fields.specs.Table.{Line, shape_in}
use Rattle.fields.specs.Walk.{next, took}
use Rattle.writing.specs.Write.{bytes_at, written}
use Rattle.writing.proofs.AnswerLaws.{Sized}
use Rattle.writing.proofs.ByteLaws.{ByteList, none, append-bytes, to_bytes, of_bytes, drop-words, Byte, field_bytes}
use Rattle.fields.specs.inside.Stages.{counted_fields, later}
use Rattle.writing.proofs.LargestLaws.{both, bounded, no_larger}
use Rattle.writing.proofs.PutLaws.{all_fields, judged_along, shape_written}
use Rattle.writing.specs.Agree.{Agrees, All, Row}
use Rattle.writing.proofs.TableLaws.{as_production}
use Rattle.writing.proofs.WholeLaws.{accepted, size_is_length}
use Rattle.numbers.proofs.Impossible.{impossible}

-- ---- the test

-- a fixed byte is one
abbrev small : Field → Bool
small field.Nothing = true
small (field.Fixed b) = ltb b (2 ^ 8)
small field.Primitive = true
small field.Value = true
small field.Optional = true
small field.OptionalThenZero = true
small field.Result = true
small field.Name = true
small field.Index = true
small field.Async = true
small field.Flag = true
small field.Rep = true
small field.OptionalIndex = true
small field.Choice = true
small field.ExternName = true
small field.Reference = true
small field.Argument = true
small field.CoreSortIndex = true
small field.SortIndex = true

abbrev smalls : List Field → Bool
smalls [] = true
smalls (f ∷ fs) = small f && smalls fs

-- and no row is larger than the largest
abbrev pub sound : Shape → Bool
sound s = smalls (opening s) && (smalls (group s) && (smalls (closing s) && bounded s))

unfoldable pub every : (Shape → Bool) → List Line → Bool
every p [] = true
every p (l ∷ ls) = p l.shape && every p ls

-- ---- what it says

join : (a b : Bool) → a ≡ true → b ≡ true → (a && b) ≡ true
join true b e f = f
join false b e f = e

pub of_every : (p : Shape → Bool) (ls : List Line) → every p ls ≡ true → (k : ℕ) (s : Shape) → shape_in ls k ≡ Some s → p s ≡ true
unfolding every shape_in
of_every p [] t k s f = impossible cc
of_every p (l ∷ ls) t k s f = go (eqb k l.kind) f (both (p l.shape) (every p ls) t) (of_every p ls (both (p l.shape) (every p ls) t).1 k s)
  where
    go : (b : Bool) → cond b (Some l.shape) (shape_in ls k) ≡ Some s → (p l.shape ≡ true) × (every p ls ≡ true)
        → (shape_in ls k ≡ Some s → p s ≡ true) → p s ≡ true
    go true f t ih = let h : l.shape ≡ s = cc in ap p (sym h) ∙ t.0
    go false f t ih = ih f

small-byte : (f : Field) → small f ≡ true → Byte f
small-byte field.Nothing e = tt
small-byte (field.Fixed b) e = ltb-true b (2 ^ 8) e
small-byte field.Primitive e = tt
small-byte field.Value e = tt
small-byte field.Optional e = tt
small-byte field.OptionalThenZero e = tt
small-byte field.Result e = tt
small-byte field.Name e = tt
small-byte field.Index e = tt
small-byte field.Async e = tt
small-byte field.Flag e = tt
small-byte field.Rep e = tt
small-byte field.OptionalIndex e = tt
small-byte field.Choice e = tt
small-byte field.ExternName e = tt
small-byte field.Reference e = tt
small-byte field.Argument e = tt
small-byte field.CoreSortIndex e = tt
small-byte field.SortIndex e = tt

smalls-append : (fs gs : List Field) → smalls fs ≡ true → smalls gs ≡ true → smalls (fs ++ gs) ≡ true
smalls-append [] gs e f = f
smalls-append (g ∷ fs) gs e f =
    let h = both (small g) (smalls fs) e in
    join (small g) (smalls (fs ++ gs)) h.0 (smalls-append fs gs h.1 f)

smalls-repeated : (n : ℕ) (g : List Field) → smalls g ≡ true → smalls (repeated n g) ≡ true
unfolding repeated
smalls-repeated zero g e = refl
smalls-repeated (suc n) g e = smalls-append g (repeated n g) e (smalls-repeated n g e)

-- all the fields of a row
sound_fields : (s : Shape) (row : List ℕ) (start : ℕ) → sound s ≡ true → smalls (all_fields s row start) ≡ true
sound_fields s row start e =
    let a = both (smalls (opening s)) (smalls (group s) && (smalls (closing s) && bounded s)) e in
    let b = both (smalls (group s)) (smalls (closing s) && bounded s) a.1 in
    let c = both (smalls (closing s)) (bounded s) b.1 in
    smalls-append (opening s) (later s n) a.0 (go s.counted b.0 c.0)
  where
    n : ℕ
    n = word row (start + widths (opening s))

    go : (t : Bool) → smalls (group s) ≡ true → smalls (closing s) ≡ true
        → smalls (cond t (counted_fields s n) (closing s)) ≡ true
    go true g c = smalls-append (repeated n (group s)) (closing s) (smalls-repeated n (group s) g) c
    go false g c = c

sound-bounded : (s : Shape) → sound s ≡ true → bounded s ≡ true
sound-bounded s e =
    let a = both (smalls (opening s)) (smalls (group s) && (smalls (closing s) && bounded s)) e in
    let b = both (smalls (group s)) (smalls (closing s) && bounded s) a.1 in
    (both (smalls (closing s)) (bounded s) b.1).1

-- the bytes of fields that are right
module _ (pool : List ℕ) (fp : Bytes pool) where
  made_bytes : (fs : List Field) (ws : List ℕ) (at made a m : ℕ) → Words ws → smalls fs ≡ true → along (judge pool) fs ws at made ≡ Fine a m
      → ByteList (makes (judge pool) (bytes_at pool) fs at ws)
  unfolding along makes judge
  made_bytes [] ws at made a m fw e r = none
  made_bytes (f ∷ fs) ws at made a m fw e r =
      let h = both (small f) (smalls fs) e in
      go (flaw pool f ws) refl r h.0
      (made_bytes fs (drop (wide f) ws) (at + wide f) (made + length (bytes pool f ws)) a m (drop-words (wide f) ws fw) h.1)
    where
      go : (x : Flaw) → flaw pool f ws ≡ x
          → next (unless x (Fine (wide f) (length (bytes pool f ws)))) (λ t k. along (judge pool) fs (drop t ws) (at + t) (made + k)) at ≡ Fine a m
          → small f ≡ true
          → (along (judge pool) fs (drop (wide f) ws) (at + wide f) (made + length (bytes pool f ws)) ≡ Fine a m
          → ByteList (makes (judge pool) (bytes_at pool) fs (at + wide f) (drop (wide f) ws)))
          → ByteList (bytes pool f ws
          ++ makes (judge pool) (bytes_at pool) fs (at + took (unless x (Fine (wide f) (length (bytes pool f ws)))))
          (drop (took (unless x (Fine (wide f) (length (bytes pool f ws))))) ws))
      go Right p r e ih = append-bytes (field_bytes pool (of_bytes pool fp) ws fw f (small-byte f e) p) (ih r)
      go (Err fault) p r e ih = impossible cc

-- ---- rows

pub row_of : (ls : List Line) → All Agrees ls → every sound ls ≡ true → (row pool : List ℕ) (size : ℕ)
    → measured_row (shape_in ls (word row 0)) row pool ≡ Ok size → Row ls row pool size
unfolding row_bytes
row_of ls agree sounds row pool size e =
    let a = accepted (shape_in ls (word row 0)) row pool size e in
    let s = a.shape in
    let k = a.sized in
    let t = of_every sound ls sounds (word row 0) s a.is in
    record {
      as_production = rw a.is (as_production ls agree (word row 0) s a.is pool row k.end size k.judges);
      size_is_length = rw a.is (size_is_length k);
      no_larger = no_larger s (sound-bounded s t) row pool size (sym (ap (λ f. measured_row f row pool) a.is) ∙ e);
      are_bytes = λ fw fp. rw a.is (bytes_of s k t fw fp);
    }
  where
    bytes_of : (s : Shape) → Sized s row 1 pool size → sound s ≡ true → Words row → Bytes pool → Bytes (written s pool row 1)
    bytes_of s k t fw fp =
        let fs = all_fields s row 1 in
        let bs : List ℕ = makes (judge pool) (bytes_at pool) fs 1 (drop 1 row) in
        let same : written s pool row 1 ≡ bs = shape_written s pool row 1 k.end size k.judges in
        rw same
        (to_bytes (made_bytes pool fp fs (drop 1 row) 1 0 k.end size (drop-words 1 row fw) (sound_fields s row 1 t) (sym (judged_along s pool row 1) ∙ k.judges)))
