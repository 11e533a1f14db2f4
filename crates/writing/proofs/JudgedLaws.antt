-- Judging in steps: one field, fields after others, a loop over groups, the count, and the bounds that keep every sum small.
use Rattle.std.specs.Prelude.{Err, Ok}
use Prim.Native.Nat.{ℕ, ◌+◌, ◌*◌, ◌^◌, ◌≤◌, ◌<◌}
use native.Mathlib.Nat.{add-mul}
use native.Mathlib.Omega.{arith}
use mathlib.Core.Path.{◌≡◌, sym, ap, ◌∙◌, subst}
use mathlib.Core.Bool.{true, false}
use mathlib.Core.List.{List, [], ◌∷◌}
use lib.ListN.{length, drop}
use Rattle.numbers.specs.Leb.{unsigned}
use Rattle.numbers.proofs.LebLaws.{size_bounds}
use Rattle.fields.specs.declared.Field.{Field}
use Rattle.fields.specs.declared.Field.TheVariants as field
use Rattle.fields.specs.declared.Refusal.{Refusal}
use Rattle.fields.specs.Flaw.{Right, Wrong}
use Rattle.fields.specs.Leaf.{Leaf}
use Rattle.fields.specs.Leaf.{Fine, Bad}
use Rattle.fields.specs.declared.Shape.{Shape}
use Rattle.fields.specs.Words.{word, wide}
use Rattle.writing.specs.Binary.{bytes}
use Rattle.writing.specs.Judge.{flaw, judge}
use Rattle.writing.specs.inside.Size.{size}
use Rattle.fields.specs.inside.Run.{along, onward, after, Under}
use Rattle.fields.specs.inside.Stages.{counted_fields}
use Rattle.fields.specs.Shape.{opening, group, closing, repeated, widths, row_width}
use Rattle.writing.proofs.FlawLaws.{Placed, flaw_place}
use Rattle.writing.proofs.SizeLaws.{size-right}
use Rattle.fields.proofs.WidthLaws.{widths-small, repeated_widths, repeated_length}
use Rattle.fields.proofs.LoopLaws.{Walked, walked_start, walked_next}
use Rattle.fields.proofs.NearLaws.{first_word}
use Rattle.writing.proofs.StagedLaws.{along-ends, along_bound}
use Rattle.fields.proofs.RunLaws.{under_more}
use Rattle.fields.proofs.StageLaws.{counted_is}

-- ---- one field, its words ws at `at` of the row

module _ (pool row : List ℕ) (f : Field) (at made : ℕ) (ws : List ℕ) (here : ws ≡ drop at row) where
  pub one_right : flaw pool f ws ≡ Right → (t m : ℕ) → t ≡ wide f → m ≡ size f ws
      → Fine (at + t) (made + m) ≡ along (judge pool) (f ∷ []) (drop at row) at made
  unfolding along judge
  one_right e t m et em = rw (← here, e, size-right pool f ws e, et, em)

  pub one_wrong : (w : Refusal) (j : ℕ) → flaw pool f ws ≡ Wrong w j → Bad w (at + j) ≡ along (judge pool) (f ∷ []) (drop at row) at made
  unfolding along judge
  one_wrong w j e = rw (← here, e)

-- a flaw stands at one of the words
pub wrong-near : (pool : List ℕ) (f : Field) (ws : List ℕ) (w : Refusal) (j : ℕ) → flaw pool f ws ≡ Wrong w j → j ≤ 10
wrong-near pool f ws w j e = subst (λ x. Placed x) e (flaw_place pool f ws)

-- ---- fields after what was judged before them

-- each field adds 11 words at most, and 1 + 32770 * 11 bytes
pub after_bound : (pool row : List ℕ) → length pool ≤ 65536 → (so : Leaf) (fs : List Field) (l : Leaf) → l ≡ after so (onward (judge pool) row fs)
    → (a b c d : ℕ) → Under so a b → a + 11 * length fs ≤ c → b + 360471 * length fs ≤ d → Under l c d
after_bound pool row h so fs l e a b c d u p q = subst (λ l. Under l c d) (sym e) (go so u)
  where
    go : (so : Leaf) → Under so a b → Under (after so (onward (judge pool) row fs)) c d
    go (Ok span) u =
        let w = widths-small fs in
        under_more (onward (judge pool) row fs span.took span.made) _ _ c d (along_bound pool fs (drop span.took row) span.took span.made h) (omega arith) (omega arith)
    go (Err fault) u = tt

-- ---- a loop over groups

-- with i groups judged, the walk over the rest of n, from here, is the whole; how far it is, and how much is made
pub record Groups (pool row : List ℕ) (g : List Field) (n from base i at made : ℕ) : Type 0 where
  pub walked : Walked (judge pool) row g n from base i at made
  pub place : at ≤ from + i * widths g
  pub bytes : made ≤ base + (i * length g + 32770 * (i * widths g))

module _ (pool row : List ℕ) (g : List Field) (n from base : ℕ) where
  pub groups_start : Groups pool row g n from base 0 from base
  groups_start = record { walked = walked_start (judge pool) row g n from base; place = omega arith; bytes = omega arith }

  module _ (i at made : ℕ) (so : Groups pool row g n from base i at made) where
    -- a round: l is what is judged of one group
    pub groups_next : i < n → (l : Leaf) → l ≡ onward (judge pool) row g at made → (a m : ℕ) → length pool ≤ 65536 → l ≡ Fine a m
        → Groups pool row g n from base (i + 1) a m
    groups_next h l el a m p e =
        let u = subst (λ l. Under l (at + widths g) (made + (length g + 32770 * widths g))) (sym el ∙ e) (along_bound pool g (drop at row) at made p) in
        let w = add-mul i 1 (widths g) in
        let k = add-mul i 1 (length g) in
        record {
          walked = walked_next (judge pool) row g n from base i at made so.walked h l el a m e;
          place = omega arith;
          bytes = omega arith;
        }

-- ---- the count

pub repeated_bound : (pool ws : List ℕ) (g : List Field) (n at made : ℕ) → length pool ≤ 65536
    → Under (along (judge pool) (repeated n g) ws at made) (at + n * widths g) (made + (n * length g + 32770 * (n * widths g)))
repeated_bound pool ws g n at made h = rw (← repeated_widths g n, ← repeated_length g n) (along_bound pool (repeated n g) ws at made h)

module _ (s : Shape) (pool row : List ℕ) (at made n m : ℕ) (en : n ≡ word row at) (em : m ≡ length (unsigned n)) where
  index_fine : judge pool field.Index (drop at row) ≡ Fine 1 m
  unfolding judge flaw wide bytes
  index_fine = ap (λ k. Fine 1 (length (unsigned k))) (sym (en ∙ first_word row at)) ∙ ap (λ k. Fine 1 k) (sym em)

  -- what is judged of the groups, and then of the closing
  module _ (l : Leaf) (el : l ≡ onward (judge pool) row (repeated n (group s)) (at + 1) (made + m)) where
    pub counted_under : length pool ≤ 65536 → n < 2 ^ 32 → n * widths (group s) ≤ 16384 → at < 2 ^ 20 → made ≤ 2 ^ 39 → Under l (2 ^ 41) (2 ^ 61)
    counted_under h p q x y =
        let z = (size_bounds 128 n).1 in
        subst (λ l. Under l (2 ^ 41) (2 ^ 61)) (sym el)
        (under_more (onward (judge pool) row (repeated n (group s)) (at + 1) (made + m)) _ _ (2 ^ 41) (2 ^ 61)
        (repeated_bound pool (drop (at + 1) row) (group s) n (at + 1) (made + m) h) (omega arith) (omega arith))

    pub counted_judged : (r : Leaf) → r ≡ after l (onward (judge pool) row (closing s))
        → r ≡ onward (judge pool) row (counted_fields s (word row at)) at made
    counted_judged r er =
        counted_is (judge pool) row s n at made 1 m index_fine l el r er ∙ ap (λ k. onward (judge pool) row (counted_fields s k) at made) en

-- ---- the stages of a shape

-- a row that is as wide as the shape needs
pub record Suits (s : Shape) (pool row : List ℕ) (start : ℕ) : Type 0 where
  pub small : length pool ≤ 65536
  pub short : length row ≤ 16384
  pub fits : row_width s row start ≡ length row

module _ {s : Shape} {pool row : List ℕ} {start : ℕ} (so : Suits s pool row start) where
  pub start_small : start ≤ 16384
  unfolding row_width
  start_small = omega arith

  -- what is judged of fields at the start
  pub start_under : (fs : List Field) (l : Leaf) → l ≡ onward (judge pool) row fs start 0
      → (a b : ℕ) → 16384 + 11 * length fs ≤ a → 360471 * length fs ≤ b → Under l a b
  start_under fs l e a b p q = after_bound pool row so.small (Fine start 0) fs l e 16384 0 a b (start_small, omega arith) p (omega arith)

  -- what is judged of the opening, before a count
  pub opening_counted : (l : Leaf) → l ≡ onward (judge pool) row (opening s) start 0 → (at made : ℕ) → l ≡ Fine at made → s.counted ≡ true
      → (word row at * widths (group s) ≤ 16384) × ((at < 2 ^ 20) × (made ≤ 2 ^ 39))
  unfolding row_width
  opening_counted l el at made e c =
      let place = (along-ends pool (opening s) (drop start row) start 0 at made (sym el ∙ e)).0 in
      let u = subst (λ l. Under l (2 ^ 19) (2 ^ 39)) e (start_under (opening s) l el (2 ^ 19) (2 ^ 39) (omega arith) (omega arith)) in
      let f = rw (c, ← place) at so.fits in
      (omega arith, (omega arith, omega arith))

-- ---- how wide a row is

pub width_opening : (s : Shape) (start a b c d : ℕ) → a ≡ wide s.lead → b ≡ wide s.zero → c ≡ wide s.first → d ≡ wide s.second
    → start + a + b + c + d ≡ start + widths (opening s)
unfolding widths
width_opening s start a b c d ea eb ec ed = omega arith

width_group : (s : Shape) → widths (group s) ≡ wide s.one + wide s.two
unfolding widths
width_group s = omega arith

width_closing : (s : Shape) → widths (closing s) ≡ wide s.last
unfolding widths
width_closing s = omega arith

module _ (s : Shape) (row : List ℕ) (start at : ℕ) (place : at ≡ start + widths (opening s)) (l : ℕ) (el : l ≡ wide s.last) where
  pub width_counted : s.counted ≡ true → (n : ℕ) → n ≡ word row at → (a b : ℕ) → a ≡ wide s.one → b ≡ wide s.two
      → at + 1 + n * (a + b) + l ≡ row_width s row start
  unfolding row_width
  width_counted c n en a b ea eb = rw (c, ← place, width_group s, width_closing s, en, ea, eb, el) (omega arith)

  pub width_plain : s.counted ≡ false → at + l ≡ row_width s row start
  unfolding row_width
  width_plain c = rw (c, ← place, width_closing s, el) (omega arith)

-- no row ends before its fields start
pub width_past : (s : Shape) (row : List ℕ) (start n : ℕ) → n < start → row_width s row start ≡ n → ⊥
unfolding row_width
width_past s row start n h e = omega arith
