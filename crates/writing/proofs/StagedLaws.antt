-- A walk from words to bytes: where it ends, how much it makes, and the count that it is told.
use Rattle.std.specs.Prelude.{Err, Ok}
use Prim.Native.Nat.{ℕ, suc, ◌+◌, ◌*◌, ◌≤◌}
use native.Mathlib.Omega.{arith}
use mathlib.Core.Path.{◌≡◌, refl, sym, ◌∙◌}
use mathlib.Core.List.{List, [], ◌∷◌, ◌++◌}
use lib.ListN.{length, drop, length-append}
use Rattle.fields.specs.declared.Field.{Field}
use Rattle.fields.specs.Flaw.{Flaw}
use Rattle.fields.specs.Flaw.{Right}
use Rattle.fields.specs.Leaf.{Leaf}
use Rattle.fields.specs.Leaf.{Fine}
use Rattle.fields.specs.Words.{word, wide}
use Rattle.writing.specs.Binary.{bytes}
use Rattle.writing.specs.Judge.{flaw, unless, judge}
use Rattle.fields.specs.inside.Run.{along, makes, Under}
use Rattle.fields.specs.View.{view}
use Rattle.fields.specs.Walk.{next, took}
use Rattle.fields.specs.Shape.{widths}
use Rattle.writing.specs.Write.{bytes_at, writer}
use Rattle.writing.proofs.SizeLaws.{field_bound}
use Rattle.fields.proofs.NearLaws.{first_word}
use Rattle.fields.proofs.OutcomeLaws.{fine-same}
use Rattle.fields.proofs.RunLaws.{under_more}
use Rattle.fields.proofs.StageLaws.{Tells}
use Rattle.numbers.proofs.Impossible.{impossible}

-- what a field that is right takes and makes
judge-fine : (pool : List ℕ) (f : Field) (ws : List ℕ) (t m : ℕ) → judge pool f ws ≡ Fine t m → (t ≡ wide f) × (m ≡ length (bytes pool f ws))
unfolding judge
judge-fine pool f ws t m e = go (flaw pool f ws) e
  where
    go : (w : Flaw) → unless w (Fine (wide f) (length (bytes pool f ws))) ≡ Fine t m → (t ≡ wide f) × (m ≡ length (bytes pool f ws))
    go Right e = let s = fine-same e in (sym s.0, sym s.1)
    go (Err fault) e = impossible cc

-- a walk from words to bytes that ends for some bytes made before ends for any
pub along-fine : (pool : List ℕ) (fs : List Field) (ws : List ℕ) (at made a m : ℕ) → along (judge pool) fs ws at made ≡ Fine a m
    → (n : ℕ) → along (judge pool) fs ws at n ≡ Fine (at + widths fs) (n + length (makes (judge pool) (bytes_at pool) fs at ws))
unfolding along makes widths
along-fine pool [] ws at made a m e n =
    let p : at ≡ at + 0 = omega arith in
    let q : n ≡ n + 0 = omega arith in
    λ i. Fine (p i) (q i)
along-fine pool (f ∷ fs) ws at made a m e n =
    go (judge pool f ws) refl e (λ t k. along-fine pool fs (drop t ws) (at + t) (made + k) a m)
  where
    go : (l : Leaf) → judge pool f ws ≡ l → next l (λ t k. along (judge pool) fs (drop t ws) (at + t) (made + k)) at ≡ Fine a m
        → ((t k : ℕ) → along (judge pool) fs (drop t ws) (at + t) (made + k) ≡ Fine a m
        → (n : ℕ) → along (judge pool) fs (drop t ws) (at + t) n
        ≡ Fine (at + t + widths fs) (n + length (makes (judge pool) (bytes_at pool) fs (at + t) (drop t ws))))
        → next l (λ t k. along (judge pool) fs (drop t ws) (at + t) (n + k)) at
        ≡ Fine (at + (wide f + widths fs)) (n + length (bytes pool f ws ++ makes (judge pool) (bytes_at pool) fs (at + took l) (drop (took l) ws)))
    go (Ok span) j e ih =
        let w = judge-fine pool f ws span.took span.made j in
        let rest = makes (judge pool) (bytes_at pool) fs (at + span.took) (drop span.took ws) in
        let p : at + span.took + widths fs ≡ at + (wide f + widths fs) = omega (arith, w.0) in
        let q : n + span.made + length rest ≡ n + length (bytes pool f ws ++ rest) = omega (arith, w.1, length-append (bytes pool f ws) rest) in
        ih span.took span.made e (n + span.made) ∙ (λ i. Fine (p i) (q i))
    go (Err fault) p e ih = impossible cc

-- a walk from words to bytes ends past the fields' words, with the length of their bytes made, which is bounded
pub along-ends : (pool : List ℕ) (fs : List Field) (ws : List ℕ) (at made a m : ℕ) → along (judge pool) fs ws at made ≡ Fine a m
    → (a ≡ at + widths fs) × (m ≡ made + length (makes (judge pool) (bytes_at pool) fs at ws))
along-ends pool fs ws at made a m e = fine-same (sym e ∙ along-fine pool fs ws at made a m e made)

pub along_bound : (pool : List ℕ) (fs : List Field) (ws : List ℕ) (at made : ℕ) → length pool ≤ 65536
    → Under (along (judge pool) fs ws at made) (at + widths fs) (made + (length fs + 32770 * widths fs))
unfolding along widths judge
along_bound pool [] ws at made h = (omega arith, omega arith)
along_bound pool (f ∷ fs) ws at made h =
    go (flaw pool f ws) refl
    (along_bound pool fs (drop (wide f) ws) (at + wide f) (made + length (bytes pool f ws)) h)
  where
    go : (x : Flaw) → flaw pool f ws ≡ x
        → Under (along (judge pool) fs (drop (wide f) ws) (at + wide f) (made + length (bytes pool f ws))) (at + wide f + widths fs)
        (made + length (bytes pool f ws) + (length fs + 32770 * widths fs))
        → Under (next (unless x (Fine (wide f) (length (bytes pool f ws)))) (λ t m. along (judge pool) fs (drop t ws) (at + t) (made + m)) at)
        (at + (wide f + widths fs)) (made + (suc (length fs) + 32770 * (wide f + widths fs)))
    go Right e ih =
        under_more (along (judge pool) fs (drop (wide f) ws) (at + wide f) (made + length (bytes pool f ws))) _ _ _ _ ih (omega arith)
        (omega (arith, field_bound pool f ws h e))
    go (Err fault) e ih = tt

-- the count at a place is the word there
pub tells : (pool row : List ℕ) → Tells (writer pool) row (λ at. word row at)
unfolding view
tells pool row = record { told = λ at. sym (first_word row at) }
