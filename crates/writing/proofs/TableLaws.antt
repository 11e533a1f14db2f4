-- A row that is accepted is written as its production in the table says, if each line's shape and production agree.
use Rattle.std.specs.Prelude.{Some}
use Rattle.std.specs.Prelude.{Err, Ok}
use Prim.Native.Nat.{ℕ, ◌+◌}
use mathlib.Core.Path.{◌≡◌, refl, sym, ap, ◌∙◌, subst}
use mathlib.Core.Bool.{Bool, true, false, cond}
use mathlib.Core.List.{List, [], ◌∷◌, ◌++◌}
use lib.Dec.{eqb}
use lib.ListN.{length, drop}
use Rattle.fields.specs.declared.Field.{Field}
use Rattle.fields.specs.Flaw.{Flaw}
use Rattle.fields.specs.Flaw.{Right}
use Rattle.fields.specs.Leaf.{Leaf}
use Rattle.fields.specs.Leaf.{Fine}
use Rattle.fields.specs.declared.Shape.{Shape}
use Rattle.fields.specs.Words.{wide}
use Rattle.writing.specs.Binary.{bytes}
use Rattle.writing.specs.Judge.{flaw, unless, judge}
use Rattle.fields.specs.inside.Run.{along, makes}
use Rattle.fields.specs.Walk.{next, took}
use Rattle.writing.specs.Write.{bytes_at, judged, written}
use Rattle.fields.specs.Table.{Line, shape_in, production_in}
use Rattle.writing.proofs.PutLaws.{all_fields, judged_along, shape_written}
use Rattle.numbers.proofs.Impossible.{impossible}
use Rattle.writing.specs.Agree.{Agrees, All}

-- the bytes of fields one after the other, where each is right
unfoldable pub strings : List ℕ → List Field → List ℕ → List ℕ
strings pool [] ws = []
strings pool (f ∷ fs) ws = bytes pool f ws ++ strings pool fs (drop (wide f) ws)

abbrev Ends : Leaf → Type 0
Ends (Ok span) = Unit {0}
Ends (Err fault) = ⊥

pub makes-right : (pool : List ℕ) (fs : List Field) (ws : List ℕ) (at made : ℕ) → Ends (along (judge pool) fs ws at made)
    → makes (judge pool) (bytes_at pool) fs at ws ≡ strings pool fs ws
unfolding along makes strings judge
makes-right pool [] ws at made e = refl
makes-right pool (f ∷ fs) ws at made e =
    go (flaw pool f ws) e (makes-right pool fs (drop (wide f) ws) (at + wide f) (made + length (bytes pool f ws)))
  where
    go : (x : Flaw)
        → Ends (next (unless x (Fine (wide f) (length (bytes pool f ws)))) (λ t m. along (judge pool) fs (drop t ws) (at + t) (made + m)) at)
        → (Ends (along (judge pool) fs (drop (wide f) ws) (at + wide f) (made + length (bytes pool f ws)))
        → makes (judge pool) (bytes_at pool) fs (at + wide f) (drop (wide f) ws) ≡ strings pool fs (drop (wide f) ws))
        → bytes pool f ws
        ++ makes (judge pool) (bytes_at pool) fs (at + took (unless x (Fine (wide f) (length (bytes pool f ws)))))
        (drop (took (unless x (Fine (wide f) (length (bytes pool f ws))))) ws)
        ≡ bytes pool f ws ++ strings pool fs (drop (wide f) ws)
    go Right e ih = ap (λ l. bytes pool f ws ++ l) (ih e)
    go (Err fault) e ih = absurd e

-- the bytes of a shape whose fields are right
pub written-right : (s : Shape) (pool row : List ℕ) (start e m : ℕ) → judged s pool row start ≡ Fine e m
    → written s pool row start ≡ strings pool (all_fields s row start) (drop start row)
written-right s pool row start e m r =
    shape_written s pool row start e m r
    ∙ makes-right pool (all_fields s row start) (drop start row) start 0 (subst Ends (sym r ∙ judged_along s pool row start) tt)

-- ---- the table

-- a kind that the table has is written as its line's production says
pub as_production : (ls : List Line) → All Agrees ls → (k : ℕ) (s : Shape) → shape_in ls k ≡ Some s
    → (pool row : List ℕ) (e m : ℕ) → judged s pool row 1 ≡ Fine e m → written s pool row 1 ≡ production_in ls k pool (drop 1 row)
unfolding shape_in production_in
as_production [] a k s f pool row e m r = impossible cc
as_production (l ∷ ls) a k s f pool row e m r = go (eqb k l.kind) f (λ g. as_production ls a.1 k s g pool row e m r)
  where
    go : (b : Bool) → cond b (Some l.shape) (shape_in ls k) ≡ Some s
        → (shape_in ls k ≡ Some s → written s pool row 1 ≡ production_in ls k pool (drop 1 row))
        → written s pool row 1 ≡ cond b (l.production pool (drop 1 row)) (production_in ls k pool (drop 1 row))
    go true f ih =
        let h : l.shape ≡ s = cc in
        subst (λ x. written x pool row 1 ≡ l.production pool (drop 1 row)) h (a.0 pool row e m (subst (λ x. judged x pool row 1 ≡ Fine e m) (sym h) r))
    go false f ih = ih f
