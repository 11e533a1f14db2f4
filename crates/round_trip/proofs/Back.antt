-- What was written is read back, for every plan, from the law of each field; or it is refused at its first byte above the grade.
use Rattle.std.specs.Prelude.{Err, Ok}
use Prim.Native.Nat.{ℕ, ◌+◌}
use native.Mathlib.Omega.{arith}
use mathlib.Core.Path.{◌≡◌, refl, sym, ap, ◌∙◌, subst}
use mathlib.Core.List.{List, [], ◌++◌, append_assoc, append-nil}
use lib.ListN.{length, drop, length-append}
use lib.Seq.{drop_at, drop-drop}
use Rattle.fields.specs.declared.Field.{Field}
use Rattle.fields.specs.Flaw.{Flaw, Right}
use Rattle.fields.specs.declared.Refusal.TheVariants.{Newer}
use Rattle.fields.specs.Leaf.{Leaf, Fine, Bad}
use Rattle.fields.specs.Words.{Words, wide}
use Rattle.writing.specs.Binary.{bytes}
use Rattle.reading.specs.Fill.{fill}
use Rattle.writing.specs.Judge.{flaw, unless, judge}
use Rattle.round_trip.specs.Mark.{Mark, Clear, At, mark, ahead, first_mark, SameFields}
use Rattle.round_trip.specs.inside.Width.{plan_width}
use Rattle.reading.specs.Read.{reader}
use Rattle.reading.specs.Scan.{scan}
use Rattle.fields.specs.View.{view, said}
use Rattle.fields.specs.Walk.{Plan, end, step, next, took, walk, outs}
use Rattle.writing.specs.Write.{writer}
use Rattle.writing.proofs.ByteLaws.{drop-words}

-- a walk that meets no fault
abbrev pub Reaches : Leaf → Type 0
Reaches (Ok span) = Unit {0}
Reaches (Err fault) = ⊥

-- what a reader says of a field with such a mark, that takes t and makes m
abbrev pub answer : Mark → ℕ → ℕ → Leaf
answer Clear t m = Fine t m
answer (At j) t m = Bad Newer j

-- what a reader says of a whole row with such a first mark
abbrev pub Got : Mark → Leaf → ℕ → ℕ → Type 0 → Type 0
Got Clear w e q A = (w ≡ Fine e q) × A
Got (At j) w e q A = w ≡ Bad Newer j

pub got : (m : Mark) (w w' : Leaf) (e e' q q' : ℕ) (A A' : Type 0) → w' ≡ w → e ≡ e' → q ≡ q' → (A → A') → Got m w e q A → Got m w' e' q' A'
got Clear w w' e e' q q' A A' a b c d g = (a ∙ g.0 ∙ (λ i. Fine (b i) (c i)), d g.1)
got (At j) w w' e e' q q' A A' a b c d g = a ∙ g

-- the words that are read say beside the input what the row says beside its pool, and are as many
pub record Retells (pool input : List ℕ) (p : Plan) (ws words : List ℕ) : Type 0 where
  pub long : length words ≡ plan_width pool p ws
  pub same : (more : List ℕ) → SameFields pool input p ws (words ++ more)

-- a field whose words stand at the front of ws is read back, its bytes standing at b of the input with `rest` behind them; where
-- no byte is above the grade, the words that are read say the same
pub record Back (lead g : ℕ) (pool input : List ℕ) (f : Field) (ws rest : List ℕ) (b : ℕ) : Type 0 where
  pub scans : scan lead g f (bytes pool f ws ++ rest) ≡ answer (mark lead g f ws) (length (bytes pool f ws)) (wide f)
  pub fills : length (fill g f b (bytes pool f ws ++ rest)) ≡ wide f
  pub says : mark lead g f ws ≡ Clear → (more : List ℕ) → view input f (fill g f b (bytes pool f ws ++ rest) ++ more) ≡ view pool f ws
  pub same : mark lead g f ws ≡ Clear → (more : List ℕ) → said input f (fill g f b (bytes pool f ws ++ rest) ++ more) ≡ said pool f ws

module _ (lead g : ℕ) (pool input : List ℕ)
    (back : (f : Field) (ws : List ℕ) → Words ws → flaw pool f ws ≡ Right → (rest : List ℕ) (b : ℕ)
    → drop b input ≡ bytes pool f ws ++ rest → Back lead g pool input f ws rest b) where
  pub read_back : (p : Plan) (ws : List ℕ) (at made : ℕ) → Words ws → Reaches (walk (writer pool) p ws at made)
      → (rest : List ℕ) (b c : ℕ) → drop b input ≡ outs (writer pool) p at ws ++ rest
      → Got (first_mark lead g pool p ws b) (walk (reader lead g input) p (outs (writer pool) p at ws ++ rest) b c)
      (b + length (outs (writer pool) p at ws)) (c + plan_width pool p ws)
      (Retells pool input p ws (outs (reader lead g input) p b (outs (writer pool) p at ws ++ rest)))
  unfolding walk plan_width outs SameFields first_mark judge
  read_back end ws at made fw r rest b c q = ((λ i. Fine (zeros b i) (zeros c i)), record { long = refl; same = λ more. tt })
    where
      zeros : (n : ℕ) → n ≡ n + 0
      zeros n = omega arith
  read_back (step f k) ws at made fw r rest b c q =
      go (flaw pool f ws) refl
      (λ u. read_back (k (view pool f ws)) (drop (wide f) ws) (at + wide f) (made + length (bytes pool f ws)) (drop-words (wide f) ws fw) u rest
      (b + length (bytes pool f ws)) (c + wide f))
      r q
    where
      p : Plan
      p = k (view pool f ws)

      bs : List ℕ
      bs = bytes pool f ws

      m : ℕ
      m = length (bytes pool f ws)

      t : ℕ
      t = wide f

      Y : ℕ → List ℕ
      Y t = outs (writer pool) p (at + t) (drop t ws)

      X : ℕ → List ℕ
      X t = (bs ++ Y t) ++ rest

      Ends : Mark → ℕ → Type 0
      Ends m t = Got m (walk (reader lead g input) (step f k) (X t) b c) (b + length (bs ++ Y t)) (c + plan_width pool (step f k) ws)
          (Retells pool input (step f k) ws (outs (reader lead g input) (step f k) b (X t)))

      go : (l : Flaw) → flaw pool f ws ≡ l
          → (Reaches (walk (writer pool) p (drop t ws) (at + t) (made + m)) → drop (b + m) input ≡ Y t ++ rest
          → Got (first_mark lead g pool p (drop t ws) (b + m)) (walk (reader lead g input) p (Y t ++ rest) (b + m) (c + t)) (b + m + length (Y t))
          (c + t + plan_width pool p (drop t ws)) (Retells pool input p (drop t ws) (outs (reader lead g input) p (b + m) (Y t ++ rest))))
          → Reaches (next (unless l (Fine t m)) (λ t m. walk (writer pool) p (drop t ws) (at + t) (made + m)) at)
          → drop b input ≡ X (took (unless l (Fine t m)))
          → Ends (first_mark lead g pool (step f k) ws b) (took (unless l (Fine t m)))
      go (Err fault) e ih u q = absurd u
      go Right e ih u q = marked (mark lead g f ws) refl h.scans
        where
          e_x : X t ≡ bs ++ (Y t ++ rest)
          e_x = append_assoc bs (Y t) rest

          h : Back lead g pool input f ws (Y t ++ rest) b
          h = back f ws fw e (Y t ++ rest) b (q ∙ e_x)

          marked : (mk : Mark) → mark lead g f ws ≡ mk → scan lead g f (bs ++ (Y t ++ rest)) ≡ answer mk m t
              → Ends (ahead mk b (first_mark lead g pool p (drop t ws) (b + m))) t
          marked (At j) eM s =
              ap (λ l. next l (λ t' m'. walk (reader lead g input) (k (view input f (fill g f b (X t)))) (drop t' (X t)) (b + t') (c + m')) b)
              (ap (λ l. scan lead g f l) e_x ∙ s)
          marked Clear eM s =
              let y = reader lead g input in
              let sX : scan lead g f (X t) ≡ Fine m t = ap (λ l. scan lead g f l) e_x ∙ s in
              let dX : drop m (X t) ≡ Y t ++ rest = ap (λ l. drop m l) e_x ∙ drop_at bs (Y t ++ rest) m refl in
              let dQ : drop (b + m) input ≡ Y t ++ rest = sym (drop-drop m b input) ∙ ap (λ l. drop m l) q ∙ dX in
              let ws' = fill g f b (bs ++ (Y t ++ rest)) in
              let tX : view input f (fill g f b (X t)) ≡ view pool f ws =
              ap (λ l. view input f (fill g f b l)) e_x ∙ ap (λ l. view input f l) (sym (append-nil ws')) ∙ h.says eM [] in
              let p₁ : b + m + length (Y t) ≡ b + length (bs ++ Y t) = omega (arith, length-append bs (Y t)) in
              let q₁ : c + t + plan_width pool p (drop t ws) ≡ c + (t + plan_width pool p (drop t ws)) = omega arith in
              let more' = outs y p (b + m) (Y t ++ rest) in
              got (first_mark lead g pool p (drop t ws) (b + m)) _ _ _ _ _ _ _ _
              (ap (λ l. next l (λ t' m'. walk y (k (view input f (fill g f b (X t)))) (drop t' (X t)) (b + t') (c + m')) b) sX
              ∙ ap (λ l. walk y (k (view input f (fill g f b (X t)))) l (b + m) (c + t)) dX
              ∙ ap (λ v. walk y (k v) (Y t ++ rest) (b + m) (c + t)) tX)
              p₁
              q₁
              (λ r.
              let all : outs y (step f k) b (X t) ≡ ws' ++ more' =
              ap (λ l. fill g f b (X t) ++ outs y (k (view input f (fill g f b (X t)))) (b + took l) (drop (took l) (X t))) sX
              ∙ ap (λ l. fill g f b (X t) ++ outs y (k (view input f (fill g f b (X t)))) (b + m) l) dX
              ∙ ap (λ v. fill g f b (X t) ++ outs y (k v) (b + m) (Y t ++ rest)) tX
              ∙ ap (λ l. fill g f b l ++ more') e_x in
              let lw = h.fills in
              let lm = r.long in
              record {
                long = ap length all ∙ omega (arith, length-append ws' more');
                same = λ more.
                    let more'' = more' ++ more in
                    let whole : outs y (step f k) b (X t) ++ more ≡ ws' ++ more'' = ap (λ l. l ++ more) all ∙ append_assoc ws' more' more in
                    let past : drop t (outs y (step f k) b (X t) ++ more) ≡ more'' = ap (λ l. drop t l) whole ∙ drop_at ws' more'' t lw in (
                      ap (λ l. said input f l) whole ∙ h.same eM more'',
                      subst (λ l. SameFields pool input p (drop t ws) l) (sym past) (r.same more),
                    );
              })
              (ih u dQ)
